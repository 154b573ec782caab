use Rattle.std.proofs.Common.{◌≡◌, ◌∙◌, ◌++◌, ap, append_assoc, codes, map, option_map, string_bytes, subst}
use Rattle.std.proofs.lemmas.Result.{IfOk-weaker}
use Rattle.rinqebo_request.specs.Stops.{IsUsage}
use Rattle.rinqebo_request.proofs.Hinting.{of_texts}
use Rattle.rinqebo_request.proofs.check_words.no_code.Goals as goal

pub returns : goal.returns
returns c =
    let said : c.as_str.result.now ≡ codes "no code is `" ++ c.args.word.now ++ codes "`: `--codes` lists all" =
    c.as_str.ensures.value ∙ c.in_ok-message.ensures.ok ∙ simp append_assoc in
    IfOk-weaker c.usage.result _ _
    (λ stop says. (
      c.in_ok-hint.hint,
      of_texts c.args.word.now _ _ c.in_ok-hint.hint c.in_ok-hint.ensures.names (ap (map (λ word. word.now)) c.deref.ensures.value ∙ c.in_ok-known.ensures),
      subst (λ message. IsUsage message (option_map string_bytes c.in_ok-hint.hint) stop) said says,
    ))
    c.usage.ensures.text
