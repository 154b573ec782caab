use Rattle.std.proofs.Common.{◌≡◌, ◌∙◌, ◌++◌, append_assoc, codes, option_map, string_bytes, subst}
use Rattle.std.proofs.lemmas.Result.{IfOk-weaker}
use Rattle.rinqebo_request.specs.Stops.{IsUsage}
use Rattle.rinqebo_request.proofs.named_features.no_feature.Goals as goal

pub returns : goal.returns
returns c =
    let said : c.as_str.result.now ≡ codes "unknown experimental feature `" ++ c.args.name.now ++ codes "`" =
    c.as_str.ensures.value ∙ c.in_ok-message.ensures.ok ∙ simp append_assoc in
    IfOk-weaker c.usage.result _ _
    (λ stop says. (
      c.in_ok-hint.hint,
      c.in_ok-hint.ensures.texts,
      subst (λ message. IsUsage message (option_map string_bytes c.in_ok-hint.hint) stop) said says,
    ))
    c.usage.ensures.text
