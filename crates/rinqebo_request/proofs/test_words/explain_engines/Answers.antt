use Rattle.std.proofs.Common.{◌≡◌, ◌∙◌, None, Some, ap, codes, option_map, sym}
use Rattle.std.proofs.lemmas.Result.{IfOk-weaker}
use Rattle.rinqebo_request.specs.Lines.{line_of, value_at}
use Rattle.rinqebo_request.proofs.test_words.explain_engines.Goals as goal

pub returns-in-Some : goal.returns-in-Some
returns-in-Some c =
    let named : Some c.in-Some.field-0.now ≡ value_at (codes "list") (line_of c.args.matches.now) =
    sym (ap (option_map (λ t. t.now)) c.in-Some.is) ∙ c.value.ensures in (
      c.engines.ensures,
      λ none. let both : Some c.in-Some.field-0.now ≡ None = named ∙ none in absurd (cc),
    )

pub returns-in-None : goal.returns-in-None
returns-in-None c = IfOk-weaker c.target_engines.result _ _ (λ engines is. (is.0, λ _. is.1)) c.target_engines.ensures.ok
