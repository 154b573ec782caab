-- The predicates of a filter that only a test can decide.
use Rattle.std.specs.Prelude.{ℕ, List, [], ◌∷◌}
use Rattle.std.specs.List.{flat_map}
use Rattle.filter_language.specs.declared.words.Field.{Field}
use Rattle.filter_language.specs.declared.words.Field.TheVariants.{TestName, Package, Deps, Rdeps, BinaryId, BinaryName, Kind, Group}
use Rattle.filter_language.specs.Formula.{Question, OfName}
use Rattle.filter_language.specs.Grammar.{Mark, Asked}

-- A predicate as it is written, where its field is the name of the test.
abbrev pub written_if_test : Field → List ℕ → List (List ℕ)
written_if_test TestName written = written ∷ []
written_if_test Package written = []
written_if_test Deps written = []
written_if_test Rdeps written = []
written_if_test BinaryId written = []
written_if_test BinaryName written = []
written_if_test Kind written = []
written_if_test Group written = []

-- The predicate that a mark is, where only a test can decide it.
abbrev pub question_leaves : {L : Type 0} → Question L → List (List ℕ)
question_leaves (OfName p) = written_if_test p.field p.written
question_leaves _ = []

abbrev pub mark_leaves : {L : Type 0} → Mark L → List (List ℕ)
mark_leaves (Asked q) = question_leaves q
mark_leaves _ = []

-- Those predicates of marks, from left to right, as they are written.
abbrev pub leaves : {L : Type 0} → List (Mark L) → List (List ℕ)
leaves marks = flat_map mark_leaves marks
