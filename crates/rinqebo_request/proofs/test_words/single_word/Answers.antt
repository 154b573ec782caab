use Rattle.std.proofs.Common.{◌∙◌, None, ap, option_map, refl, subst, sym}
use Rattle.rinqebo_request.specs.Requests.{IsNamedBy}
use Rattle.rinqebo_request.proofs.test_words.single_word.Goals as goal

pub returns-in-Some : goal.returns-in-Some
returns-in-Some c =
    subst (λ word. IsNamedBy word None None c.in-Some.name.now) (sym (ap (option_map (λ t. t.now)) c.in-Some.is) ∙ c.value.ensures) (refl, refl)
