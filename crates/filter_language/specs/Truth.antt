-- What a filter says of a test, in words of its own: no tables of values, no order of evaluation.
use Rattle.std.specs.Prelude.{◌≡◌, ℕ, ◌⊎◌, Bool, true, List, Option, Some, IsSome}
use Rattle.nextest_engines.specs.Engines.{Binary, Test}
use Rattle.filter_language.specs.declared.words.Field.{Field}
use Rattle.filter_language.specs.declared.words.Field.TheVariants.{TestName, Package, Deps, Rdeps, BinaryId, BinaryName, Kind, Group}
use Rattle.filter_language.specs.Formula.{Pattern, Question, Always, Never, TheDefault, OfPlatform, OfName, Formula, Asks, Negated, Both, Either, Without, Grouped}
use Rattle.filter_language.specs.Values.{Subject, package_name, of_test, of_binary, value, value_beside}

-- Something holds of the name that a field has at a test. No test is in a group.
abbrev pub NameHas : (List ℕ → Type 0) → Field → Test → Type 0
NameHas P TestName test = P test.name
NameHas P Package test = P (package_name test.binary.binary_id)
NameHas P Deps test = P (package_name test.binary.binary_id)
NameHas P Rdeps test = P (package_name test.binary.binary_id)
NameHas P BinaryId test = P test.binary.binary_id
NameHas P BinaryName test = P test.binary.binary_name
NameHas P Kind test = P test.binary.kind
NameHas P Group test = ⊥

-- A predicate is true of a test, where `default()` is a given fact.
abbrev pub Answers : {L : Type 0} → (L → List ℕ → Bool) → Type 0 → Question L → Test → Type 0
Answers accepts Default Always test = Unit {0}
Answers accepts Default Never test = ⊥
Answers accepts Default TheDefault test = Default
Answers accepts Default (OfPlatform p) test = test.binary.platform ≡ p
Answers accepts Default (OfName p) test =
    NameHas (λ name. accepts p.meaning name ≡ true) p.field test

-- A filter is true of a test, where `default()` is a given fact.
abbrev pub Holds : {L : Type 0} → (L → List ℕ → Bool) → Type 0 → Formula L → Test → Type 0
Holds accepts Default (Asks q) test = Answers accepts Default q test
Holds accepts Default (Negated a) test = ¬ (Holds accepts Default a test)
Holds accepts Default (Both a b) test =
    Holds accepts Default a test × Holds accepts Default b test
Holds accepts Default (Either a b) test =
    Holds accepts Default a test ⊎ Holds accepts Default b test
Holds accepts Default (Without a b) test =
    Holds accepts Default a test × ¬ (Holds accepts Default b test)
Holds accepts Default (Grouped a) test = Holds accepts Default a test

-- A filter is true of a test beside a default filter, in which a further `default()` is true.
abbrev pub HoldsBeside : {L : Type 0} → (L → List ℕ → Bool) → Formula L → Formula L → Test
    → Type 0
HoldsBeside accepts default f test = Holds accepts (Holds accepts (Unit {0}) default test) f test

-- A value is known, and is true exactly if something is so.
abbrev pub Tells : Option Bool → Type 0 → Type 0
Tells found P = (b : Bool) × (found ≡ Some b) × (b ≡ true → P) × (P → b ≡ true)

-- Each value at a test is known and is the truth.
abbrev pub ValuesAreTrue : {L : Type 0} → (L → List ℕ → Bool) → Type 0
ValuesAreTrue {L} accepts = (f default : Formula L) (test : Test)
    → Tells (value_beside accepts (of_test test) default f) (HoldsBeside accepts default f test)

-- The known value of a filter at a binary is its value at each test of the binary.
abbrev pub BinariesSpeakForTests : {L : Type 0} → (L → List ℕ → Bool) → Type 0
BinariesSpeakForTests {L} accepts = (f default : Formula L) (test : Test) (b : Bool)
    → value_beside accepts (of_binary test.binary) default f ≡ Some b
    → value_beside accepts (of_test test) default f ≡ Some b

-- Some question of a filter is about a test or about the default filter.
pub data Needs (L : Type 0) : Formula L → Type 0 where
  a_test : (p : Pattern L) → p.field ≡ TestName → Needs L (Asks (OfName p))
  the_default : Needs L (Asks TheDefault)
  under : (a : Formula L) → Needs L a → Needs L (Negated a)
  within : (a : Formula L) → Needs L a → Needs L (Grouped a)
  both_left : (a b : Formula L) → Needs L a → Needs L (Both a b)
  both_right : (a b : Formula L) → Needs L b → Needs L (Both a b)
  either_left : (a b : Formula L) → Needs L a → Needs L (Either a b)
  either_right : (a b : Formula L) → Needs L b → Needs L (Either a b)
  without_left : (a b : Formula L) → Needs L a → Needs L (Without a b)
  without_right : (a b : Formula L) → Needs L b → Needs L (Without a b)

-- A filter that uses neither a test nor the default filter has a known value at each binary.
abbrev pub OnlyTestsAreUnknown : {L : Type 0} → (L → List ℕ → Bool) → Type 0
OnlyTestsAreUnknown {L} accepts = (f default : Formula L) (binary : Binary)
    → ¬ (Needs L f) → IsSome (value_beside accepts (of_binary binary) default f)

-- `not` of an `or` has the value of the `and` of the opposites, and the other way round, of a test
-- and of a binary alike.
abbrev pub OppositesChangePlaces : {L : Type 0} → (L → List ℕ → Bool) → Type 0
OppositesChangePlaces {L} accepts = (s : Subject) (a b : Formula L)
    → (value accepts s (Negated (Either a b)) ≡ value accepts s (Both (Negated a) (Negated b)))
    × (value accepts s (Negated (Both a b)) ≡ value accepts s (Either (Negated a) (Negated b)))
