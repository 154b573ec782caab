-- What marks say of a test is the truth of the filter that they spell.
use Rattle.std.proofs.Common.{◌≡◌, ◌≤◌, ◌↔◌, ℕ, Bool, true, List, Option, Some, sym, ◌∙◌, ap}
use Rattle.nextest_engines.specs.Engines.{Test}
use Rattle.filter_language.specs.Formula.{Formula}
use Rattle.filter_language.specs.Grammar.{Mark, Spells, nesting}
use Rattle.filter_language.specs.Values.{Subject, answer, value, of_test, value_beside}
use Rattle.filter_language.specs.Evaluation.{marks_value}
use Rattle.filter_language.specs.Truth.{HoldsBeside, Tells}
use Rattle.filter_language.specs.Filtersets.{marks_value_beside, says_true}
use Rattle.filter_language.proofs.Evaluations.{spelled_value, value_is}
use Rattle.filter_language.proofs.Truths.{values_are_true}

-- What marks say is the value of the filter that they spell.
spelled : {L : Type 0} (accepts : L → List ℕ → Bool) (s : Subject) (marks : List (Mark L)) (f : Formula L)
    → Spells marks f → nesting f ≤ 128
    → marks_value (answer accepts s) marks ≡ value accepts s f
spelled accepts s marks f spells fits = spelled_value (answer accepts s) marks f spells fits ∙ value_is accepts s f

-- Beside a default filter too.
pub spelled_beside : {L : Type 0} (accepts : L → List ℕ → Bool) (of : Option Bool → Subject)
    (default marks : List (Mark L)) (g f : Formula L)
    → Spells default g → nesting g ≤ 128 → Spells marks f → nesting f ≤ 128
    → marks_value_beside accepts of default marks ≡ value_beside accepts of g f
spelled_beside accepts of default marks g f known below spells fits =
    ap (λ d. marks_value (answer accepts (of d)) marks) (spelled accepts (of (Some true)) default g known below)
    ∙ spelled accepts (of (value accepts (of (Some true)) g)) marks f spells fits

from_told : (found : Option Bool) (P : Type 0) → Tells found P → (result : Bool) → result ≡ says_true found
    → (result ≡ true) ↔ P
from_told found P (b, is, to, from) result said =
    let same : result ≡ b = said ∙ ap says_true is in
    (λ e. to (sym same ∙ e), λ p. same ∙ from p)

pub marks_truth : {L : Type 0} (accepts : L → List ℕ → Bool) (default marks : List (Mark L)) (g f : Formula L)
    (test : Test) (result : Bool)
    → result ≡ says_true (marks_value_beside accepts (of_test test) default marks)
    → Spells default g → nesting g ≤ 128 → Spells marks f → nesting f ≤ 128
    → (result ≡ true) ↔ HoldsBeside accepts g f test
marks_truth accepts default marks g f test result said known below spells fits =
    from_told (value_beside accepts (of_test test) g f) (HoldsBeside accepts g f test)
    (values_are_true accepts f g test) result
    (said ∙ ap says_true (spelled_beside accepts (of_test test) default marks g f known below spells fits))
