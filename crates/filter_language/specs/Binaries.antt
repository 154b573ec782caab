-- What marks say of binaries and of their tests.
use Rattle.std.specs.Prelude.{◌≡◌, ℕ, Bool, List, Option, None, Some}
use Rattle.nextest_engines.specs.Engines.{Test}
use Rattle.filter_language.specs.Filtersets.{subject_of, marks_value_beside}
use Rattle.filter_language.specs.Grammar.{Mark}
use Rattle.filter_language.specs.Values.{of_test}

-- One value knows no more than another: where it is known, the other is known and the same.
abbrev pub Below : Option Bool → Option Bool → Type 0
Below x y = (b : Bool) → x ≡ Some b → y ≡ Some b

-- What marks say of a binary, they say of each test of the binary.
abbrev pub MarksSpeakForTests : {L : Type 0} → (L → List ℕ → Bool) → Type 0
MarksSpeakForTests {L} accepts = (filter default : List (Mark L)) (test : Test)
    → Below (marks_value_beside accepts (subject_of test.binary None) default filter)
    (marks_value_beside accepts (of_test test) default filter)
