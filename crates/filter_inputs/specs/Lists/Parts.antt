-- What is read of suites and of lists, member by member.
use Rattle.std.specs.Prelude.{◌≡◌, List, None, Option, Some, IfSome, String, Vec, codes, flat_map, map, string_bytes, Bool, ℕ}
use Rattle.std.specs.List.{AllZip}
use Rattle.std.specs.declared.alloc.Global.{Global}
use Rattle.serde_json.specs.Data.{Data, object, Members}
use Rattle.serde_json.specs.Find.{get_member}
use Rattle.serde_json.specs.View.{members_view}
use Rattle.serde_json.specs.declared.value.Value.{Value}
use Rattle.filter_inputs.specs.Lists.Demands.{first_fault, listed, suite_demands}
use Rattle.filter_inputs.specs.Lists.Lists.{Case, IsSuiteOf, cases_in, is_ignored, values}
use Rattle.filter_inputs.specs.Lists.ListView.{case_view, listed_view}
use Rattle.filter_inputs.specs.declared.lists.list.ListedBinary.{ListedBinary}
use Rattle.filter_inputs.specs.declared.lists.list.TestCase.{TestCase}

-- An entry of a map is that of a member: it has its key, and its value is as it has to be.
abbrev pub IsEntryOf : {V : Type 0} → (List ℕ × Data → V → Type 0) → List ℕ × Data
    → String Global × V → Type 0
IsEntryOf R m e = (m.0 ≡ string_bytes e.0) × R m e.1

-- The entries of a map are those of members, in order.
abbrev pub AreEntriesOf : {V : Type 0} → (List ℕ × Data → V → Type 0) → Members
    → List (String Global × V) → Type 0
AreEntriesOf R ms es = AllZip (IsEntryOf R) (listed ms) es

-- whether a test case says that its test is ignored
abbrev pub IsCaseOf : List ℕ × Data → Bool → Type 0
IsCaseOf m ignored = is_ignored m.1 ≡ ignored

-- the test of a name, and whether it is ignored
abbrev pub entry_case : String Global × Bool → Case
entry_case e = record { name = string_bytes e.0; ignored = e.1 }

-- A binary is that of a suite, and the suite is what a suite has to be.
abbrev pub IsBinaryOf : List ℕ × Data → ListedBinary → Type 0
IsBinaryOf suite binary =
    IsSuiteOf suite.1 (listed_view binary) × (first_fault (suite_demands suite) ≡ None)

-- Entries of a map are the members of an object, but for those at a key.
abbrev pub AreOthers : List ℕ → Members → List (String Global × Value) → Type 0
AreOthers key ms es =
    (other : List ℕ) → (other ≡ key → ⊥) → get_member other ms ≡ get_member other (members_view es)

-- What was read of a suite: its members but its test cases, and the tests of these.
abbrev pub AreSuiteParts : Members → List (String Global × Value) → Option (Vec TestCase Global)
    → Type 0
AreSuiteParts suite es tests = AreOthers (codes "testcases") suite es
    × IfSome tests (λ tests. (cases : Members)
    × (get_member (codes "testcases") suite ≡ Some (object cases))
    × (map case_view tests.items ≡ cases_in cases))

-- What was read of a list: its members but its suites, and the binaries of these.
abbrev pub AreListParts : Members → List (String Global × Value) → Option (Vec ListedBinary Global)
    → Type 0
AreListParts list es binaries = AreOthers (codes "rust-suites") list es
    × IfSome binaries (λ binaries. (suites : Members)
    × (get_member (codes "rust-suites") list ≡ Some (object suites))
    × AllZip IsSuiteOf (values suites) (map listed_view binaries.items)
    × (first_fault (flat_map suite_demands (listed suites)) ≡ None))
