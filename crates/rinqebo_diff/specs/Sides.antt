-- What the files of a side mean for a diff.
use Rattle.std.specs.Prelude.{◌≡◌, List, map, string_bytes}
use Rattle.filter_engine.specs.Engine.{Filter}
use Rattle.nextest_inheritance.specs.Parents.{parents_in}
use Rattle.nextest_load.specs.Config.{ScriptTables, config_parents}
use Rattle.nextest_load.specs.Scripts.{AreScriptsOf}
use Rattle.nextest_settings.specs.Profiles.Profiles.{IsChainAndDefault}
use Rattle.nextest_settings.specs.Profile.{EvaluatableModel}
use Rattle.nextest_sources.specs.Inputs.{sources_in}
use Rattle.nextest_tables.specs.FileTexts.{names_in, IsIn}
use Rattle.nextest_tables.specs.Written.{Name}
use Rattle.rinqebo_changes.specs.declared.diff.Side.{Side}
use Rattle.rinqebo_request.specs.Files.Origins.{reported_file}
use Rattle.rinqebo_request.specs.declared.files.gathering.Gathered.{Gathered}
use Rattle.rinqebo_load.specs.Accepted.{AreAccepted}
use Rattle.rinqebo_load.specs.Meant.{config_meant}
use Rattle.rinqebo_load.specs.SessionOf.{IsSessionOf}
use Rattle.rinqebo_load.specs.Sessions.{files_view, readings}
use Rattle.rinqebo_load.specs.declared.session.Session.{Session}
use Rattle.rinqebo_results.specs.Listed.{IsProfileOn}
use Rattle.rinqebo_results.specs.LookedUp.{IsLookedUp}
use Rattle.rinqebo_results.specs.Requested.{IsRequestedOf}
use Rattle.rinqebo_results.specs.ReportsReasons.{configured_by}
use Rattle.rinqebo_diff.specs.declared.request.DiffSide.{DiffSide}

-- What a side is compared by: its session, its profile on the platforms of its build, and the
-- profiles that count for it.
pub record Evaluation : Type 0 where
  pub session : Session
  pub profile : EvaluatableModel Filter
  pub chain : List Name

-- A side is compared by what its files mean: its session is that of its request over them, and its
-- profile is the one that is requested. The files satisfy every written rule, they have the
-- profile, and each filter that it evaluates was looked up.
pub record IsEvaluationOf (side : DiffSide) (gathered : Gathered) (evaluation : Evaluation) : Type 0
  where
    pub begun : IsSessionOf side.request gathered evaluation.session
    pub acceptance : AreAccepted evaluation.session
    pub scripts : ScriptTables
    pub are_scripts : AreScriptsOf (sources_in (files_view evaluation.session.gathered.now)) scripts
    pub known : IsIn (names_in (configured_by evaluation.session scripts).config.profiles)
        side.profile.now
    pub looked_up : IsLookedUp evaluation.session side.profile.now
    pub is_profile : IsProfileOn (readings evaluation.session.engines.filters).meets
        evaluation.session.engines.platforms (configured_by evaluation.session scripts)
        side.profile.now evaluation.profile
    pub is_chain : IsChainAndDefault (parents_in (config_parents (config_meant evaluation.session)))
        side.profile.now evaluation.chain

-- A side is reported: its root, its sources, and its profile, mode and platforms.
pub record IsSideOf (side : DiffSide) (evaluation : Evaluation) (reported : Side) : Type 0 where
  pub root : string_bytes reported.root
      ≡ string_bytes evaluation.session.gathered.now.paths.workspace_root
  pub sources : map reported_file reported.sources.items
      ≡ map (λ layer. reported_file layer.source) evaluation.session.layers.items
  pub requested : IsRequestedOf evaluation.session side.profile.now side.mode evaluation.chain
      reported.asked
