-- Questions that may not be in a filter of a kind.
use Rattle.std.specs.Prelude.{Bool, List, Option, None, Some, is_none, if◌then◌else◌}
use Rattle.std.specs.List.{list_all}
use Rattle.nextest_engines.specs.declared.queries.FiltersetKind.{FiltersetKind}
use Rattle.nextest_engines.specs.declared.queries.FiltersetKind.TheVariants.{Test, OverrideFilter, DefaultFilter}
use Rattle.filter_language.specs.declared.fault.Ban.TheVariants.{DefaultInDefaultFilter, GroupInDefaultFilter, GroupInOverrideFilter}
use Rattle.filter_language.specs.declared.fault.FaultKind.{FaultKind}
use Rattle.filter_language.specs.declared.fault.FaultKind.TheVariants.{BannedPredicate, NoTestGroups, NoPackageGraph}
use Rattle.filter_language.specs.declared.words.Field.{Field}
use Rattle.filter_language.specs.declared.words.Field.TheVariants.{TestName, Package, Deps, Rdeps, BinaryId, BinaryName, Kind, Group}
use Rattle.filter_language.specs.Formula.{Question, Always, Never, TheDefault, OfPlatform, OfName}
use Rattle.filter_language.specs.Grammar.{Mark, Asked}

-- A test group depends on overrides, and no query has one.
abbrev pub group_ban : FiltersetKind → FaultKind
group_ban Test = NoTestGroups
group_ban OverrideFilter = BannedPredicate GroupInOverrideFilter
group_ban DefaultFilter = BannedPredicate GroupInDefaultFilter

-- A default filter does not use itself.
abbrev pub default_ban : FiltersetKind → Option FaultKind
default_ban Test = None
default_ban OverrideFilter = None
default_ban DefaultFilter = Some (BannedPredicate DefaultInDefaultFilter)

-- Without the package graph nothing is known of dependencies.
abbrev pub graph_ban : Bool → Option FaultKind
graph_ban knows_packages = if knows_packages then None else Some NoPackageGraph

-- Why a field may not be used in a filter of a kind.
abbrev pub field_ban : FiltersetKind → Bool → Field → Option FaultKind
field_ban kind knows_packages Group = Some (group_ban kind)
field_ban kind knows_packages Deps = graph_ban knows_packages
field_ban kind knows_packages Rdeps = graph_ban knows_packages
field_ban kind knows_packages TestName = None
field_ban kind knows_packages Package = None
field_ban kind knows_packages BinaryId = None
field_ban kind knows_packages BinaryName = None
field_ban kind knows_packages Kind = None

-- Why a question may not be in a filter of a kind.
abbrev pub question_ban : {L : Type 0} → FiltersetKind → Bool → Question L → Option FaultKind
question_ban kind knows_packages Always = None
question_ban kind knows_packages Never = None
question_ban kind knows_packages TheDefault = default_ban kind
question_ban kind knows_packages (OfPlatform p) = None
question_ban kind knows_packages (OfName p) = field_ban kind knows_packages p.field

-- Why a mark may not be in a filter of a kind.
abbrev pub mark_ban : {L : Type 0} → FiltersetKind → Bool → Mark L → Option FaultKind
mark_ban kind knows_packages (Asked q) = question_ban kind knows_packages q
mark_ban kind knows_packages _ = None

-- Each mark may be in a filter of a kind.
abbrev pub are_allowed : {L : Type 0} → FiltersetKind → Bool → List (Mark L) → Bool
are_allowed kind knows_packages marks =
    list_all (λ m. is_none (mark_ban kind knows_packages m)) marks
