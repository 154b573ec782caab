use Rattle.std.proofs.Common.{◌∙◌, ap, codes, option_map, refl, subst, sym}
use Rattle.std.proofs.lemmas.Result.{IfOk-weaker}
use Rattle.rinqebo_request.specs.Lines.{line_of, value_at}
use Rattle.rinqebo_request.specs.Requests.{IsNamedBy}
use Rattle.rinqebo_request.proofs.NamedTests.{second_word}
use Rattle.rinqebo_request.proofs.test_words.test_words.Goals as goal

pub returns-in-Some : goal.returns-in-Some
returns-in-Some c =
    let binary = value_at (codes "BINARY") (line_of c.args.matches.now) in
    subst (λ word. IsNamedBy binary word (option_map (λ id. id.now) c.value-in-Some.result) c.in-Some.name.now)
    (sym (ap (option_map (λ t. t.now)) c.in-Some.is) ∙ c.value.ensures)
    (second_word binary c.in-Some.name.now _ _ c.value-in-Some.ensures refl)

pub returns-in-None : goal.returns-in-None
returns-in-None c =
    IfOk-weaker c.single_word.result _ _
    (λ words is. subst (λ word. IsNamedBy (value_at (codes "BINARY") (line_of c.args.matches.now)) word (option_map (λ id. id.now) words.binary) words.name.now)
    (sym (ap (option_map (λ t. t.now)) c.in-None.is) ∙ c.value.ensures) is)
    c.single_word.ensures
