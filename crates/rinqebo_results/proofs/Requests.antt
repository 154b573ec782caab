-- What was requested, as a report says it.
use Rattle.std.proofs.Common.{◌≡◌, List, subst, sym}
use Rattle.filter_language.specs.declared.filterset.Filterset.{Filterset}
use Rattle.filter_engine.specs.declared.compiling.FieldMatcher.{FieldMatcher}
use Rattle.nextest_elements.specs.declared.run_mode.NextestRunMode.{NextestRunMode}
use Rattle.nextest_inheritance.specs.Parents.{Parents, parents_in}
use Rattle.nextest_load.specs.Config.{config_parents}
use Rattle.nextest_load.specs.Load.{Loaded}
use Rattle.nextest_settings.specs.Profiles.Profiles.{IsChainAndDefault}
use Rattle.nextest_tables.specs.Written.{Name}
use Rattle.platform_language.specs.declared.expression.TargetSpec.{TargetSpec}
use Rattle.rinqebo_load.specs.Meant.{config_meant}
use Rattle.rinqebo_load.specs.Sessions.{files_view, readings, IsLoadedFrom}
use Rattle.rinqebo_load.specs.declared.session.Session.{Session}
use Rattle.rinqebo_report.specs.declared.report.Asked.{Asked}
use Rattle.rinqebo_report.specs.declared.report.Content.{Content}
use Rattle.rinqebo_results.specs.Requested.{IsRequestedIn, IsRequestedOf}

-- what was requested is said of a chain by another name
pub requested_on : (session : Session) (profile : Name) (mode : NextestRunMode) (chain names : List Name) (asked : Asked)
    → chain ≡ names → IsRequestedOf session profile mode chain asked → IsRequestedOf session profile mode names asked
requested_on session profile mode chain names asked same is =
    subst (λ ns. IsRequestedOf session profile mode ns asked) same is

-- what was requested is said by what the files mean
pub requested_meant : (session : Session) (profile : Name) (mode : NextestRunMode) (reported content : Content)
    (loaded : Loaded (Filterset FieldMatcher) TargetSpec)
    → IsLoadedFrom (readings session.engines.filters) (files_view session.gathered.now) loaded
    → reported ≡ content → IsRequestedIn session (parents_in (config_parents loaded.config)) profile mode content
    → IsRequestedIn session (parents_in (config_parents (config_meant session))) profile mode reported
requested_meant session profile mode reported content loaded from same is =
    subst (λ config. IsRequestedIn session (parents_in (config_parents config)) profile mode reported) from.means
    (subst (IsRequestedIn session (parents_in (config_parents loaded.config)) profile mode) (sym same) is)
