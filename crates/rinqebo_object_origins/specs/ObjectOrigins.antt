-- Where the values of a run and the groups of a profile come from, as the objects beside a list have
-- it: the values of profiles as the settings of tests.
use Rattle.std.specs.Prelude.{◌≡◌, ℕ, zero, suc, List, [], ◌∷◌, Option, None, Some, codes, map, string_bytes}
use Rattle.std.specs.List.{AllZip}
use Rattle.nextest_documents.specs.Layers.{IsHighest, Stands}
use Rattle.nextest_documents.specs.Shown.{Path}
use Rattle.nextest_places.specs.declared.step.Step.{Step}
use Rattle.nextest_settings.specs.Profile.{EvaluatableModel}
use Rattle.nextest_tables.specs.Written.{Name}
use Rattle.rinqebo_objects.specs.declared.origins.BoundOrigins.{BoundOrigins}
use Rattle.rinqebo_objects.specs.declared.origins.GroupOrigins.{GroupOrigins}
use Rattle.rinqebo_objects.specs.declared.origins.NameOrigins.{NameOrigins}
use Rattle.rinqebo_objects.specs.declared.origins.ObjectOrigins.{ObjectOrigins}
use Rattle.rinqebo_objects.specs.declared.origins.OutputOrigins.{OutputOrigins}
use Rattle.rinqebo_objects.specs.declared.origins.RunOrigins.{RunOrigins}
use Rattle.rinqebo_report.specs.declared.origin.FilePlace.{FilePlace}
use Rattle.rinqebo_report.specs.declared.origin.Origin.{Origin}
use Rattle.rinqebo_report.specs.declared.origin.Origin.TheVariants as kinds
use Rattle.rinqebo_request.specs.Files.Origins.{IsPathPlace}
use Rattle.rinqebo_request.specs.declared.files.layers.Layer.{Layer}
use Rattle.rinqebo_origins.specs.KnownOrigins.{AreOriginsAt}
use Rattle.rinqebo_origins.specs.Origins.{key, step_view}
use Rattle.rinqebo_origins.specs.ProfileOrigins.{AreProfileOrigins}
use Rattle.rinqebo_origins.specs.RulePlaces.{Place}
use Rattle.rinqebo_rules.specs.Runs.{filtering_place}
use Rattle.rinqebo_origins.specs.TestOrigins.{Basis}
use Rattle.rinqebo_origins.specs.Trees.{trees_of}

-- where files write the directory in which profiles store what they write
abbrev pub store_path : Path
store_path = codes "store" ∷ codes "dir" ∷ []

-- where files write the number of threads of a group
abbrev pub group_path : Name → Path
group_path name = codes "test-groups" ∷ name ∷ codes "max-threads" ∷ []

-- A place is that of a path of keys in the layer at a position.
pub record IsPlaceBeside (layers : List Layer) (path : Path) (at : ℕ) (place : FilePlace) : Type 0
  where
    pub steps : List Step
    pub spelled : map step_view steps ≡ map key path
    pub place_reported : IsPathPlace layers at steps place

-- An origin is that of what the layer at a position writes at a path beside all profiles: the lowest
-- one is the default table, and any other one has the place of the path.
abbrev pub IsOriginBeside : List Layer → Path → ℕ → Origin → Type 0
IsOriginBeside layers path zero origin = origin ≡ kinds.DefaultTable
IsOriginBeside layers path (suc n) (kinds.File place) = IsPlaceBeside layers path (suc n) place
IsOriginBeside layers path (suc n) origin = ⊥

-- Where what files write at a path beside all profiles comes from: from the highest layer that
-- writes something there, and where none does it is built in.
pub data AreOriginsBeside (layers : List Layer) (path : Path) (origins : List Origin) : Type 0 where
  built_in : ¬ Stands (trees_of layers) path → origins ≡ kinds.BuiltIn ∷ []
      → AreOriginsBeside layers path origins
  written : (at : ℕ) → IsHighest (trees_of layers) path at
      → AllZip (IsOriginBeside layers path) (at ∷ []) origins
      → AreOriginsBeside layers path origins

-- Origins are those of what bounds a run: of the keys of profiles that say so.
pub record AreBoundOrigins (basis : Basis) (bounds : BoundOrigins) : Type 0 where
  pub test_threads : AreProfileOrigins basis.layers basis.chain None (codes "test-threads")
      bounds.test_threads.items
  pub max_fail : AreProfileOrigins basis.layers basis.chain None (codes "fail-fast")
      bounds.max_fail.items
  pub global_timeout : AreProfileOrigins basis.layers basis.chain None (codes "global-timeout")
      bounds.global_timeout.items
  pub benchmark_timeout : AreProfileOrigins basis.layers basis.chain (Some (codes "bench"))
      (codes "global-timeout") bounds.benchmark_timeout.items

-- Origins are those of what a run shows and stores.
pub record AreOutputOrigins (basis : Basis) (output : OutputOrigins) : Type 0 where
  pub status_level : AreProfileOrigins basis.layers basis.chain None (codes "status-level")
      output.status_level.items
  pub final_status_level : AreProfileOrigins basis.layers basis.chain None
      (codes "final-status-level") output.final_status_level.items
  pub report_path : AreProfileOrigins basis.layers basis.chain (Some (codes "junit"))
      (codes "path") output.report_path.items
  pub report_name : AreProfileOrigins basis.layers basis.chain (Some (codes "junit"))
      (codes "report-name") output.report_name.items
  pub store_dir : AreOriginsBeside basis.layers store_path output.store_dir.items

-- Origins are those of the parent of a profile, which it alone writes, of the default filter that
-- counts, which is that of the override at a place, if there is one, and of the arguments of tests.
pub record AreNameOrigins (basis : Basis) (place : Option Place) (profile : Name)
    (names : NameOrigins) : Type 0 where
  pub inherits : AreProfileOrigins basis.layers (profile ∷ []) None (codes "inherits")
      names.inherits.items
  pub default_filter : AreOriginsAt basis place None (codes "default-filter")
      names.default_filter.items
  pub run_extra_args : AreProfileOrigins basis.layers basis.chain None (codes "run-extra-args")
      names.run_extra_args.items

-- Origins are those of the values that a profile has for a whole run.
pub record AreRunOrigins (basis : Basis) (place : Option Place) (profile : Name)
    (run : RunOrigins) : Type 0 where
  pub names : AreNameOrigins basis place profile run.names
  pub output : AreOutputOrigins basis run.output
  pub bounds : AreBoundOrigins basis run.bounds

-- Origins are those of the group of a name.
pub record AreGroupOrigins (layers : List Layer) (name : Name) (group : GroupOrigins) : Type 0 where
  pub named : string_bytes group.name ≡ name
  pub origins : AreOriginsBeside layers (group_path name) group.origins.items

-- Origins are those of the values that a profile has for a whole run, and of the groups of its
-- configuration, each by its name.
pub record AreObjectOrigins {M : Type 0} (basis : Basis) (profile : EvaluatableModel M)
    (origins : ObjectOrigins) : Type 0 where
  pub run : AreRunOrigins basis (filtering_place profile) profile.facts.name origins.run
  pub groups : AllZip (λ group. AreGroupOrigins basis.layers group.0) profile.facts.groups
      origins.groups.items
