-- The checks of a load, and the sources on which its refusals depend.
use Rattle.std.specs.Prelude.{ℕ, nat_lt, Bool, true, List, [], ◌∷◌, filter, Option, None, Some, codes}
use Rattle.nextest_sources.specs.declared.error.ConfigParseErrorKind.{ConfigParseErrorKind}
use Rattle.nextest_sources.specs.declared.error.ConfigParseErrorKind.TheVariants as kinds
use Rattle.rinqebo_faults.specs.declared.checks.Check.{Check}
use Rattle.rinqebo_faults.specs.declared.checks.Check.TheVariants as checks
use Rattle.rinqebo_faults.specs.declared.checks.Scope.{Scope}
use Rattle.rinqebo_faults.specs.declared.checks.Scope.TheVariants as scopes

-- the name that a report has for a check
abbrev pub check_name : Check → List ℕ
check_name checks.Elements = codes "elements"
check_name checks.Names = codes "names"
check_name checks.Features = codes "features"
check_name checks.Inheritance = codes "inheritance"
check_name checks.Compilation = codes "compilation"
check_name checks.Groups = codes "groups"
check_name checks.ScriptRules = codes "script rules"
check_name checks.MergedTree = codes "merged tree"

-- the check that fails with a refusal of a kind: none where the source could not be read
abbrev pub check_of : ConfigParseErrorKind → Option Check
check_of (kinds.DuplicateToolConfigFile tool first) = None
check_of (kinds.ReadError outcome) = None
check_of (kinds.BuildError message) = None
check_of (kinds.DeserializeError fault) = Some checks.Elements
check_of (kinds.InvalidTestGroupsDefined groups) = Some checks.Names
check_of (kinds.InvalidTestGroupsDefinedByTool groups) = Some checks.Names
check_of (kinds.InvalidTestGroupsDefinedByOrganisation groups) = Some checks.Names
check_of kinds.BothScriptAndScriptsDefined = Some checks.Names
check_of (kinds.ExperimentalFeaturesNotEnabled features) = Some checks.Features
check_of (kinds.DuplicateConfigScriptNames ids) = Some checks.Features
check_of (kinds.InvalidConfigScriptsDefined ids) = Some checks.Features
check_of (kinds.InvalidConfigScriptsDefinedByTool ids) = Some checks.Features
check_of (kinds.InvalidConfigScriptsDefinedByOrganisation ids) = Some checks.Features
check_of (kinds.InheritanceErrors errors) = Some checks.Inheritance
check_of (kinds.CompileErrors errors) = Some checks.Compilation
check_of (kinds.UnknownTestGroups errors known_groups) = Some checks.Groups
check_of (kinds.ProfileScriptErrors errors known_scripts) = Some checks.ScriptRules
check_of kinds.Memory = None

-- the sources on which a refusal of a kind depends
abbrev pub scope_of : ConfigParseErrorKind → Scope
scope_of (kinds.DuplicateToolConfigFile tool first) = scopes.WithLower
scope_of (kinds.ReadError outcome) = scopes.Own
scope_of (kinds.BuildError message) = scopes.Own
scope_of (kinds.DeserializeError fault) = scopes.Own
scope_of (kinds.InvalidTestGroupsDefined groups) = scopes.Own
scope_of (kinds.InvalidTestGroupsDefinedByTool groups) = scopes.Own
scope_of (kinds.InvalidTestGroupsDefinedByOrganisation groups) = scopes.Own
scope_of kinds.BothScriptAndScriptsDefined = scopes.Own
scope_of (kinds.ExperimentalFeaturesNotEnabled features) = scopes.Own
scope_of (kinds.DuplicateConfigScriptNames ids) = scopes.Own
scope_of (kinds.InvalidConfigScriptsDefined ids) = scopes.Own
scope_of (kinds.InvalidConfigScriptsDefinedByTool ids) = scopes.Own
scope_of (kinds.InvalidConfigScriptsDefinedByOrganisation ids) = scopes.Own
scope_of (kinds.InheritanceErrors errors) = scopes.WithLower
scope_of (kinds.CompileErrors errors) = scopes.Own
scope_of (kinds.UnknownTestGroups errors known_groups) = scopes.WithLower
scope_of (kinds.ProfileScriptErrors errors known_scripts) = scopes.WithLower
scope_of kinds.Memory = scopes.WithLower

-- all checks, in the order in which a load makes them
abbrev pub all_checks : List Check
all_checks =
    checks.Elements ∷ checks.Names ∷ checks.Features ∷ checks.Inheritance ∷ checks.Compilation
    ∷ checks.Groups ∷ checks.ScriptRules ∷ checks.MergedTree ∷ []

-- the place of a check among them, from 0
abbrev pub check_place : Check → ℕ
check_place checks.Elements = 0
check_place checks.Names = 1
check_place checks.Features = 2
check_place checks.Inheritance = 3
check_place checks.Compilation = 4
check_place checks.Groups = 5
check_place checks.ScriptRules = 6
check_place checks.MergedTree = 7

-- whether a check comes after the last one that was reached
abbrev pub is_after : Option Check → Check → Bool
is_after None check = true
is_after (Some reached) check = nat_lt (check_place reached) (check_place check)

-- the checks after the last one that was reached
unfoldable pub checks_after : Option Check → List Check
checks_after reached = filter (is_after reached) all_checks
