use Rattle.std.proofs.Common.{◌≡◌, ◌∙◌, None, ap, codes, option_map, subst, sym}
use Rattle.std.proofs.lemmas.Result.{IfOk-weaker}
use Rattle.rinqebo_request.specs.Lines.{line_of, value_at}
use Rattle.rinqebo_request.specs.Requests.{IsExplainedBy}
use Rattle.rinqebo_request.specs.declared.request.Question.TheVariants as questions
use Rattle.rinqebo_request.proofs.test_words.explain_question.Goals as goal

pub returns-in-Some : goal.returns-in-Some
returns-in-Some c =
    IfOk-weaker c.why_question.result _ _
    (λ question so. subst (λ key. IsExplainedBy c.args.environment.now (line_of c.args.matches.now) key question)
    (sym (ap (option_map (λ t. t.now)) c.in-Some.is) ∙ c.value.ensures) (so c.in_ok-test.ensures))
    c.why_question.ensures

pub returns : goal.returns
returns c =
    let line = line_of c.args.matches.now in
    let none : None ≡ value_at (codes "why") line = sym (ap (option_map (λ t. t.now)) c.in_default.is) ∙ c.value.ensures in
    subst (λ key. IsExplainedBy c.args.environment.now line key
    (questions.Explain c.profile.result c.in_ok-test.test c.in_ok-explained_rows.field-0))
    none (c.profile.ensures, c.in_ok-test.ensures, c.in_ok-explained_rows.ensures)
