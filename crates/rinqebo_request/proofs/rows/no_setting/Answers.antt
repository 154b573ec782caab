use Rattle.std.proofs.Common.{◌≡◌, ◌∙◌, ◌++◌, None, append_assoc, codes, inl, inr, option_map, string_bytes, subst}
use Rattle.std.proofs.lemmas.Result.{IfOk-weaker}
use Rattle.rinqebo_request.specs.Stops.{IsUsage}
use Rattle.rinqebo_request.proofs.rows.no_setting.Goals as goal

pub returns-in-Some : goal.returns-in-Some
returns-in-Some c =
    let said : c.as_str.result.now ≡ codes "`" ++ c.args.key.now ++ codes "` is a setting of the whole run: see `rinqebo show-config "
    ++ c.in-Some.shown.now ++ codes "`" =
    c.as_str.ensures.value ∙ c.in_ok-message.ensures.ok ∙ simp append_assoc in
    IfOk-weaker c.usage.result _ _ (λ stop says. inl (c.in-Some.shown.now, subst (λ message. IsUsage message None stop) said says)) c.usage.ensures.text

pub returns : goal.returns
returns c =
    let said : c.as_str-2.result.now ≡ codes "unknown setting `" ++ c.args.key.now ++ codes "`" =
    c.as_str-2.ensures.value ∙ c.in_ok-message-2.ensures.ok ∙ simp append_assoc in
    IfOk-weaker c.usage-2.result _ _
    (λ stop says. inr (
      c.in_ok-hint.hint,
      c.in_ok-hint.ensures,
      subst (λ message. IsUsage message (option_map string_bytes c.in_ok-hint.hint) stop) said says,
    ))
    c.usage-2.ensures.text
