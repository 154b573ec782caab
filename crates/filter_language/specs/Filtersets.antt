-- Filters in memory, and what their marks say.
use Rattle.std.specs.Prelude.{ℕ, Bool, true, false, List, [], ◌∷◌, Option, None, Some, map}
use Rattle.nextest_engines.specs.Engines.{Binary}
use Rattle.filter_language.specs.declared.filterset.Filterset as filterset
use Rattle.filter_language.specs.declared.filterset.Filterset.TheVariants.{Everything, Marks}
use Rattle.filter_language.specs.Formula.{Always}
use Rattle.filter_language.specs.Grammar.{Mark, Asked, mark_view}
use Rattle.filter_language.specs.Values.{Subject, answer}
use Rattle.filter_language.specs.Evaluation.{marks_value}

-- The marks of a filter in memory. What matches everything is `all()`.
abbrev pub marks_view : {M L : Type 0} → (M → L) → filterset.Filterset M → List (Mark L)
marks_view meaning Everything = Asked Always ∷ []
marks_view meaning (Marks marks) = map (mark_view meaning) marks.marks.items

-- Whether a filter in memory names the default filter.
abbrev pub names_default : {M : Type 0} → filterset.Filterset M → Bool
names_default Everything = false
names_default (Marks marks) = marks.names_default

-- A binary and perhaps a test of it, where the default filter says something.
abbrev pub subject_of : Binary → Option (List ℕ) → Option Bool → Subject
subject_of binary test_name default = record {
  binary = binary;
  test_name = test_name;
  default = default;
}

-- What marks say beside those of a default filter, in which a further `default()` is true.
abbrev pub marks_value_beside : {L : Type 0} → (L → List ℕ → Bool) → (Option Bool → Subject)
    → List (Mark L) → List (Mark L) → Option Bool
marks_value_beside accepts of default marks =
    marks_value (answer accepts (of (marks_value (answer accepts (of (Some true))) default))) marks

-- A value that is known and true.
abbrev pub says_true : Option Bool → Bool
says_true (Some b) = b
says_true None = false
