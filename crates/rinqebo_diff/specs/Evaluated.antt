-- What a side is compared by, as it was loaded.
use Rattle.filter_engine.specs.Compiling.{names_of}
use Rattle.filter_language.specs.Filtersets.{marks_view}
use Rattle.nextest_inheritance.specs.Parents.{parents_in}
use Rattle.nextest_inheritance.specs.View.{borrowed_view}
use Rattle.nextest_load.specs.Config.{config_parents}
use Rattle.nextest_settings.specs.Profiles.Meaning.{profile_meaning}
use Rattle.nextest_settings.specs.Profiles.Profiles.{IsChainAndDefault}
use Rattle.nextest_tables.specs.Written.{Name}
use Rattle.rinqebo_changes.specs.declared.diff.Diff.{Diff}
use Rattle.rinqebo_rules.specs.Conditions.{is_met_by}
use Rattle.rinqebo_results.specs.Listed.{IsProfileOn}
use Rattle.rinqebo_results.specs.ListedBy.{read_by}
use Rattle.rinqebo_diff.specs.Differences.{IsDiffOf}
use Rattle.rinqebo_diff.specs.Sides.{Evaluation}
use Rattle.rinqebo_diff.specs.declared.loaded.Loaded.{Loaded}
use Rattle.rinqebo_diff.specs.declared.request.DiffRequest.{DiffRequest}
use Rattle.rinqebo_diff.specs.declared.sides.Evaluated.{Evaluated}

-- A side is compared by a profile of its configuration.
pub record IsEvaluated (loaded : Loaded) (name : Name) (evaluated : Evaluated) : Type 0 where
  pub is_profile : IsProfileOn is_met_by loaded.session.engines.platforms
      (read_by loaded.session loaded.config) name evaluated.profile
  pub is_chain : IsChainAndDefault (parents_in (config_parents loaded.config.config)) name
      (borrowed_view evaluated.chain.items)

-- what a side is compared by, by what its filters mean
abbrev pub evaluation_of : Loaded → Evaluated → Evaluation
evaluation_of loaded evaluated = record {
  session = loaded.session;
  profile = profile_meaning (marks_view names_of) evaluated.profile;
  chain = borrowed_view evaluated.chain.items;
}

-- A diff is that of two sides that are loaded.
pub record IsDiffOfLoaded (request : DiffRequest) (from to : Loaded) (diff : Diff) : Type 0 where
  pub left : Evaluated
  pub right : Evaluated
  pub is_left : IsEvaluated from request.from.profile.now left
  pub is_right : IsEvaluated to request.to.profile.now right
  pub is_diff : IsDiffOf request (evaluation_of from left) (evaluation_of to right) diff
