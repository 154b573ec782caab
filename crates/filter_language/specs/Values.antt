-- The value of a filter, by cases: what a binary cannot decide is unknown.
use Rattle.std.specs.Prelude.{ℕ, Bool, true, false, not, List, [], ◌∷◌, Option, Some, None, is_some, option_map, codes, if◌then◌else◌}
use Rattle.nextest_engines.specs.Engines.{Binary, Test, binary_view}
use Rattle.nextest_engines.specs.declared.queries.BuildPlatform.{BuildPlatform}
use Rattle.nextest_engines.specs.declared.queries.BuildPlatform.TheVariants.{Host, Target}
use Rattle.filter_language.specs.declared.words.Field.{Field}
use Rattle.filter_language.specs.declared.words.Field.TheVariants.{TestName, Package, Deps, Rdeps, BinaryId, BinaryName, Kind, Group}
use Rattle.filter_language.specs.declared.evaluation.Subject as subject
use Rattle.filter_language.specs.Texts.{after_prefix}
use Rattle.filter_language.specs.Formula.{Question, Always, Never, TheDefault, OfPlatform, OfName, Formula, Asks, Negated, Both, Either, Without, Grouped}

-- `and` is false if a side is false, else unknown if a side is unknown.
abbrev pub known_and : Option Bool → Option Bool → Option Bool
known_and (Some false) right = Some false
known_and (Some true) right = right
known_and None (Some false) = Some false
known_and None _ = None

-- `or` is true if a side is true, else unknown if a side is unknown.
abbrev pub known_or : Option Bool → Option Bool → Option Bool
known_or (Some true) right = Some true
known_or (Some false) right = right
known_or None (Some true) = Some true
known_or None _ = None

-- What a filter is evaluated at: a binary, perhaps a test of it, and the value of the default
-- filter.
pub record Subject : Type 0 where
  pub binary : Binary
  pub test_name : Option (List ℕ)
  pub default : Option Bool

-- The subject that one in memory is.
abbrev pub subject_view : subject.Subject → Subject
subject_view s = record {
  binary = binary_view s.binary;
  test_name = option_map (λ name. name.now) s.test_name;
  default = s.default;
}

-- A test, where the default filter says something.
abbrev pub of_test : Test → Option Bool → Subject
of_test test default = record
    { binary = test.binary; test_name = Some test.name; default = default }

-- A binary without regard to its tests.
abbrev pub of_binary : Binary → Option Bool → Subject
of_binary binary default = record { binary = binary; test_name = None; default = default }

-- The package of a binary: its id before the first `::`, or all of it.
abbrev pub package_name : List ℕ → List ℕ
package_name [] = []
package_name (c ∷ id) =
    if is_some (after_prefix (codes "::") (c ∷ id)) then [] else c ∷ package_name id

abbrev pub same_platform : BuildPlatform → BuildPlatform → Bool
same_platform Host Host = true
same_platform Target Target = true
same_platform _ _ = false

-- The value of a test of names at a field. No test is in a group.
abbrev pub field_answer : (List ℕ → Bool) → Subject → Field → Option Bool
field_answer accepts s TestName = option_map accepts s.test_name
field_answer accepts s Package = Some (accepts (package_name s.binary.binary_id))
field_answer accepts s Deps = Some (accepts (package_name s.binary.binary_id))
field_answer accepts s Rdeps = Some (accepts (package_name s.binary.binary_id))
field_answer accepts s BinaryId = Some (accepts s.binary.binary_id)
field_answer accepts s BinaryName = Some (accepts s.binary.binary_name)
field_answer accepts s Kind = Some (accepts s.binary.kind)
field_answer accepts s Group = Some false

-- The value of a predicate, by the names that patterns accept.
abbrev pub answer : {L : Type 0} → (L → List ℕ → Bool) → Subject → Question L → Option Bool
answer accepts s Always = Some true
answer accepts s Never = Some false
answer accepts s TheDefault = s.default
answer accepts s (OfPlatform p) = Some (same_platform s.binary.platform p)
answer accepts s (OfName p) = field_answer (accepts p.meaning) s p.field

-- The value of a filter.
abbrev pub value : {L : Type 0} → (L → List ℕ → Bool) → Subject → Formula L → Option Bool
value accepts s (Asks q) = answer accepts s q
value accepts s (Negated a) = option_map not (value accepts s a)
value accepts s (Both a b) = known_and (value accepts s a) (value accepts s b)
value accepts s (Either a b) = known_or (value accepts s a) (value accepts s b)
value accepts s (Without a b) = known_and (value accepts s a) (option_map not (value accepts s b))
value accepts s (Grouped a) = value accepts s a

-- The value of a filter beside a default filter, in which a further `default()` is true.
abbrev pub value_beside : {L : Type 0} → (L → List ℕ → Bool) → (Option Bool → Subject)
    → Formula L → Formula L → Option Bool
value_beside accepts of default f =
    value accepts (of (value accepts (of (Some true)) default)) f
