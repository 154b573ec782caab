-- The leaves of a configuration, as a report lists them.
use Rattle.std.specs.Prelude.{◌≡◌, ℕ, List, [], ◌∷◌, ◌++◌, Bool, filter, map, Option, Some}
use Rattle.std.specs.List.{AllZip}
use Rattle.nextest_elements.specs.declared.run_mode.NextestRunMode.TheVariants as modes
use Rattle.nextest_documents.specs.Entries.{AreEntries, Leaf}
use Rattle.nextest_documents.specs.Sections.{base_path}
use Rattle.filter_engine.specs.Engine.{Filter}
use Rattle.nextest_inheritance.specs.Parents.{parents_in}
use Rattle.nextest_load.specs.Config.{ScriptTables, config_parents}
use Rattle.nextest_load.specs.Scripts.{AreScriptsOf}
use Rattle.nextest_settings.specs.Profiles.Profiles.{IsChainAndDefault}
use Rattle.nextest_settings.specs.Profile.{Configured, EvaluatableModel}
use Rattle.nextest_places.specs.declared.step.Step.{Step}
use Rattle.nextest_sources.specs.Inputs.{sources_in}
use Rattle.nextest_tables.specs.FileTexts.{names_in, IsIn}
use Rattle.nextest_tables.specs.Written.{Name}
use Rattle.rinqebo_origins.specs.LeafValue.{is_tellable}
use Rattle.rinqebo_origins.specs.ReportedEntries.{IsEntryOf, step_key}
use Rattle.rinqebo_origins.specs.RulePlaces.{Place}
use Rattle.rinqebo_rules.specs.Runs.{filtering_place}
use Rattle.rinqebo_origins.specs.SpelledLeaves.{AreSpelledOut}
use Rattle.rinqebo_origins.specs.Trees.{trees_of}
use Rattle.rinqebo_request.specs.Files.Origins.{IsPathPlace}
use Rattle.rinqebo_request.specs.declared.files.layers.Layer.{Layer}
use Rattle.rinqebo_report.specs.declared.origin.FilePlace.{FilePlace}
use Rattle.rinqebo_report.specs.declared.report.Content.{Content}
use Rattle.rinqebo_report.specs.declared.report.Content.TheVariants as contents
use Rattle.rinqebo_report.specs.declared.report.Entry.{Entry}
use Rattle.rinqebo_report.specs.declared.report.Report.{Report}
use Rattle.rinqebo_load.specs.Accepted.{AreAccepted}
use Rattle.platform_language.specs.Expressions.{Spec}
use Rattle.rinqebo_load.specs.Meant.{config_meant}
use Rattle.rinqebo_load.specs.Sessions.{files_view, readings}
use Rattle.rinqebo_load.specs.declared.session.Session.{Session}
use Rattle.rinqebo_results.specs.InForce.{IsInForce}
use Rattle.rinqebo_results.specs.Listed.{IsProfileOn}
use Rattle.rinqebo_results.specs.Requested.{IfRequested, IsRequestedOf}
use Rattle.rinqebo_results.specs.ReportsReasons.{configured_by}

-- An entry shows a leaf, at the place of the leaf in the file of its layer: that of the path through
-- the keys of the leaf's region and its own.
pub record ReportsLeaf (layers : List Layer) (leaf : Leaf) (entry : Entry) : Type 0 where
  pub path : List Step
  pub spelled : map step_key path ≡ map Some (base_path leaf.region ++ leaf.path)
  pub place : FilePlace
  pub place_reported : IsPathPlace layers leaf.layer path place
  pub is_entry : IsEntryOf leaf place entry

-- entries show leaves one by one: all those whose values a report can show
abbrev pub TellLeaves : List Layer → List Leaf → List Entry → Type 0
TellLeaves layers leaves entries =
    AllZip (ReportsLeaf layers) (filter (λ leaf. is_tellable leaf.value) leaves) entries

-- Entries show the requested leaves in the layers of a chain of profiles.
pub record AreShown (layers : List Layer) (chain keys : List (List ℕ)) (with_hidden : Bool)
    (entries : List Entry) : Type 0 where
  pub leaves : List Leaf
  pub are_leaves : AreEntries (trees_of layers) chain keys with_hidden leaves
  pub told : TellLeaves layers leaves entries

-- Entries show what a user requests of a chain of profiles in the layers of files: the leaves that
-- count, with the default filter of the override at a place, if there is one, in place of theirs,
-- and then what the files write at keys that are shown as they are written.
pub record AreShownOf (layers : List Layer) (place : Option Place) (chain keys : List (List ℕ))
    (with_hidden : Bool) (entries : List Entry) : Type 0 where
  pub counted : List Entry
  pub in_force : List Entry
  pub spelled : List Entry
  pub are : entries ≡ in_force ++ spelled
  pub counted_shown : AreShown layers chain keys with_hidden counted
  pub is_in_force : IsInForce layers place keys with_hidden counted in_force
  pub spelled_out : AreSpelledOut layers chain keys spelled

-- a fact of the entries that a report shows
abbrev pub IfShown : Content → (List Entry → Type 0) → Type 0
IfShown (contents.ShowConfig asked entries) P = P entries.items
IfShown _ P = ⊥

-- the exit status for entries: 1 where there are none
abbrev pub entries_status : List Entry → ℕ
entries_status [] = 1
entries_status (entry ∷ entries) = 0

-- the exit status for what a report shows
abbrev pub shown_status : Content → ℕ
shown_status (contents.ShowConfig asked entries) = entries_status entries.items
shown_status _ = 0

-- The content of a report of a session is what a user requests of a profile below keys: the
-- profiles that count are those of its chain, and then `default`, and the default filter is that of
-- the profile on the platforms of the session.
pub record IsShownBy (session : Session) (configured : Configured Filter Spec) (profile : Name)
    (keys : List (List ℕ)) (with_hidden : Bool) (content : Content) : Type 0 where
  pub on : EvaluatableModel Filter
  pub is_profile : IsProfileOn (readings session.engines.filters).meets session.engines.platforms
      configured profile on
  pub chain : List Name
  pub is_chain : IsChainAndDefault (parents_in (config_parents configured.config)) profile chain
  pub shown : IfShown content (AreShownOf session.layers.items (filtering_place on) chain keys
      with_hidden)
  -- It says what the user requests.
  pub requested : IfRequested content (IsRequestedOf session profile modes.Test chain)

-- A report shows what a user requests of a profile below keys, by what the files write.
pub record ShowsConfig (session : Session) (profile : Name) (keys : List (List ℕ))
    (with_hidden : Bool) (report : Report) (status : ℕ) : Type 0 where
  -- Every written rule holds of the files.
  pub acceptance : AreAccepted session
  -- Their scripts are those that they define.
  pub scripts : ScriptTables
  pub are_scripts : AreScriptsOf (sources_in (files_view session.gathered.now)) scripts
  -- They have the profile.
  pub known : IsIn (names_in (config_meant session).profiles) profile
  -- The report shows the requested leaves, and the status says whether there are any.
  pub shown : IsShownBy session (configured_by session scripts) profile keys with_hidden
      report.content
  pub status_is : status ≡ shown_status report.content
