-- The numbers and the names of refusals.
use Rattle.std.specs.Prelude.{ℕ, List, codes}
use Rattle.nextest_sources.specs.declared.error.ConfigParseErrorKind.{ConfigParseErrorKind}
use Rattle.nextest_sources.specs.declared.error.ConfigParseErrorKind.TheVariants as kinds

-- the number and the name of a kind
abbrev pub kind_label : ConfigParseErrorKind → ℕ × List ℕ
kind_label (kinds.DuplicateToolConfigFile tool first) = (1, codes "DuplicateToolConfigFile")
kind_label (kinds.ReadError outcome) = (2, codes "ReadError")
kind_label (kinds.BuildError message) = (3, codes "BuildError")
kind_label (kinds.DeserializeError fault) = (4, codes "DeserializeError")
kind_label (kinds.InvalidTestGroupsDefined groups) = (5, codes "InvalidTestGroupsDefined")
kind_label (kinds.InvalidTestGroupsDefinedByTool groups) =
    (6, codes "InvalidTestGroupsDefinedByTool")
kind_label kinds.BothScriptAndScriptsDefined = (7, codes "BothScriptAndScriptsDefined")
kind_label (kinds.ExperimentalFeaturesNotEnabled features) =
    (8, codes "ExperimentalFeaturesNotEnabled")
kind_label (kinds.DuplicateConfigScriptNames ids) = (9, codes "DuplicateConfigScriptNames")
kind_label (kinds.InvalidConfigScriptsDefined ids) = (10, codes "InvalidConfigScriptsDefined")
kind_label (kinds.InvalidConfigScriptsDefinedByTool ids) =
    (11, codes "InvalidConfigScriptsDefinedByTool")
kind_label (kinds.InheritanceErrors errors) = (12, codes "InheritanceErrors")
kind_label (kinds.CompileErrors errors) = (13, codes "CompileErrors")
kind_label (kinds.UnknownTestGroups errors known_groups) = (14, codes "UnknownTestGroups")
kind_label (kinds.ProfileScriptErrors errors known_scripts) = (15, codes "ProfileScriptErrors")
kind_label kinds.Memory = (16, codes "Memory")
kind_label (kinds.InvalidTestGroupsDefinedByOrganisation groups) =
    (17, codes "InvalidTestGroupsDefinedByOrganisation")
kind_label (kinds.InvalidConfigScriptsDefinedByOrganisation ids) =
    (18, codes "InvalidConfigScriptsDefinedByOrganisation")

-- the number of a kind
abbrev pub kind_number : ConfigParseErrorKind → ℕ
kind_number kind = (kind_label kind).0

-- the name of a kind
abbrev pub kind_name : ConfigParseErrorKind → List ℕ
kind_name kind = (kind_label kind).1
