-- The ending of a load, by its refusal.
use Rattle.std.proofs.Common.{◌≡◌, true, false, not, is_some, Option, None, Some, refl, option_map}
use Rattle.nextest_sources.specs.Causes.{LoadCause}
use Rattle.nextest_sources.specs.Endings.{ending_at, ending_with}
use Rattle.nextest_sources.specs.ErrorKinds.{is_memory}
use Rattle.nextest_sources.specs.Errors.{cause_view}
use Rattle.nextest_sources.specs.Sources.{Source}
use Rattle.nextest_sources.specs.declared.error.ConfigParseErrorKind.{ConfigParseErrorKind}
use Rattle.nextest_sources.specs.declared.error.ConfigParseErrorKind.TheVariants as kinds
use Rattle.nextest_config.specs.Headline.{bad_config, out_of_memory}
use Rattle.nextest_config.specs.RunView.{TellsEnding, fault_of_ending}

at_cause : (source : Source) (cause : Option LoadCause)
    → TellsEnding (ending_at source cause) (bad_config (fault_of_ending (ending_at source cause)))
at_cause source (Some cause) = refl
at_cause source None = tt

-- a refusal with a source is a fault of it
pub with_source : (source : Option Source) (kind : ConfigParseErrorKind) → is_some source ≡ true
    → TellsEnding (ending_with source kind) (bad_config (fault_of_ending (ending_with source kind)))
with_source (Some source) kind is = at_cause source (cause_view kind)
with_source None kind is = cc

-- a refusal without a source is a refusal of memory
pub without_source : (source : Option Source) (kind : ConfigParseErrorKind) → is_some source ≡ false
    → is_some source ≡ not (is_memory kind)
    → TellsEnding (ending_with source kind) out_of_memory
without_source (Some source) kind is placed = cc
without_source None (kinds.DuplicateToolConfigFile tool first) is placed = cc
without_source None (kinds.ReadError outcome) is placed = cc
without_source None (kinds.BuildError message) is placed = cc
without_source None (kinds.DeserializeError fault) is placed = cc
without_source None (kinds.InvalidTestGroupsDefined groups) is placed = cc
without_source None (kinds.InvalidTestGroupsDefinedByTool groups) is placed = cc
without_source None (kinds.InvalidTestGroupsDefinedByOrganisation groups) is placed = cc
without_source None kinds.BothScriptAndScriptsDefined is placed = cc
without_source None (kinds.ExperimentalFeaturesNotEnabled features) is placed = cc
without_source None (kinds.DuplicateConfigScriptNames ids) is placed = cc
without_source None (kinds.InvalidConfigScriptsDefined ids) is placed = cc
without_source None (kinds.InvalidConfigScriptsDefinedByTool ids) is placed = cc
without_source None (kinds.InvalidConfigScriptsDefinedByOrganisation ids) is placed = cc
without_source None (kinds.InheritanceErrors errors) is placed = cc
without_source None (kinds.CompileErrors errors) is placed = cc
without_source None (kinds.UnknownTestGroups errors known_groups) is placed = cc
without_source None (kinds.ProfileScriptErrors errors known_scripts) is placed = cc
without_source None kinds.Memory is placed = refl

-- whether a source is there, by whether its path is
pub same_some : {X Y Z : Type 0} (f : X → Z) (g : Y → Z) (o : Option X) (r : Option Y)
    → option_map f o ≡ option_map g r → is_some r ≡ is_some o
same_some f g None None e = refl
same_some f g None (Some y) e = cc
same_some f g (Some x) None e = cc
same_some f g (Some x) (Some y) e = refl
