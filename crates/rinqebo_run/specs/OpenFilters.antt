-- The filters of a configuration that were not looked up, and the note about them.
use Rattle.std.specs.Prelude.{◌≡◌, ◌++◌, ◌⊎◌, ℕ, Bool, List, None, Option, String, Vec, count_by, flat_map, map, option_map, option_to_list, string_bytes}
use Rattle.std.specs.Borrow.{Bor}
use Rattle.std.specs.declared.alloc.Global.{Global}
use Rattle.filter_engine.specs.Compiling.{names_of}
use Rattle.filter_engine.specs.Engine.{Filter}
use Rattle.filter_engine.specs.Open.{leaves_open}
use Rattle.filter_engine.specs.declared.compiling.FieldMatcher.{FieldMatcher}
use Rattle.filter_engine.specs.declared.engine.Packages.{Packages}
use Rattle.filter_language.specs.Filtersets.{marks_view}
use Rattle.filter_language.specs.declared.filterset.Filterset.{Filterset}
use Rattle.nextest_load.specs.Config.{ConfigModel}
use Rattle.nextest_load.specs.Load.{Loaded}
use Rattle.nextest_load.specs.Meaning.{config_meaning}
use Rattle.nextest_rules.specs.Rules.{Compiled, Layer, LayerProfile, OverrideUse, ScriptRuleUse, WrittenFilter}
use Rattle.platform_language.specs.Expressions.{Spec, spec_view}
use Rattle.platform_language.specs.declared.expression.TargetSpec.{TargetSpec}
use Rattle.rinqebo_load.specs.Meant.{config_meant}
use Rattle.rinqebo_load.specs.SessionOf.{IsSessionOf}
use Rattle.rinqebo_load.specs.declared.session.Session.{Session}
use Rattle.rinqebo_request.specs.declared.files.gathering.Gathered.{Gathered}
use Rattle.rinqebo_request.specs.declared.request.Question.{Question}
use Rattle.rinqebo_request.specs.declared.request.Question.TheVariants as questions
use Rattle.rinqebo_request.specs.declared.request.Request.{Request}
use Rattle.rinqebo_results.specs.StandardError.{open_filters_text}

-- ---- the filters that files write

-- a default filter, if one is written
abbrev pub default_filters : {M : Type 0} → Option (WrittenFilter M) → List M
default_filters written = option_to_list (option_map (λ filter. filter.means) written)

-- the filters of an override: that of its tests, and the default filter that it sets
abbrev pub override_filters : {M K : Type 0} → Compiled M K (OverrideUse M) → List M
override_filters rule = option_to_list rule.filter ++ default_filters rule.writes.default_filter

-- the filter of a script rule
abbrev pub script_filters : {M K : Type 0} → Compiled M K ScriptRuleUse → List M
script_filters rule = option_to_list rule.filter

-- the filters that a file writes for a profile: its default filter, and those of its rules
abbrev pub profile_filters : {M K : Type 0} → LayerProfile M K → List M
profile_filters profile =
    default_filters profile.default_filter
    ++ flat_map override_filters profile.overrides
    ++ flat_map script_filters profile.script_rules

-- the filters that a file writes
abbrev pub layer_filters : {M K : Type 0} → Layer M K → List M
layer_filters layer = flat_map (λ profile. profile_filters profile.1) layer.profiles

-- the filters that the files of a configuration write
abbrev pub config_filters : {M K : Type 0} → ConfigModel M K → List M
config_filters config = flat_map layer_filters config.layers

-- ---- filters that were not looked up

-- how many filters of a configuration were not looked up, by what is known of packages
abbrev pub open_count : Packages → ConfigModel Filter Spec → ℕ
open_count packages config = count_by (leaves_open packages) (config_filters config)

-- A note says how many filters of a configuration were not looked up. There is one exactly if there
-- are such filters.
abbrev pub IsOpenNote : Packages → ConfigModel Filter Spec → Option (String Global) → Type 0
IsOpenNote packages config note =
    option_map string_bytes note ≡ open_filters_text (open_count packages config)

-- The note of a check, by its status: there is none if the files are refused, and else it says how
-- many of their filters were not looked up.
pub record IsCheckNote (session : Session) (status : ℕ) (note : Option (String Global)) : Type 0
  where
    pub refused : status ≡ 3 → note ≡ None
    pub accepted : (status ≡ 0) ⊎ (status ≡ 1)
        → IsOpenNote session.engines.filters.packages (config_meant session) note

-- the note of a result in a session is right, if it is that of a check
abbrev pub IsNoteOf : Session → Question → ℕ → Option (String Global) → Type 0
IsNoteOf session (questions.Check deny_warnings) status said = IsCheckNote session status said
IsNoteOf session question status said = Unit {0}

-- The note of a result of a request over the files that were read is right, if it is that of a
-- check.
pub record HasNote (request : Request) (gathered : Gathered) (status : ℕ)
    (note : Option (String Global)) : Type 0 where
  pub session : Session
  pub begun : IsSessionOf request gathered session
  pub is_note : IsNoteOf session request.question status note

-- ---- as code holds them

-- filters that are borrowed
abbrev pub borrowed : {X : Type 0} → List (Bor X) → List X
borrowed filters = map (λ filter. filter.now) filters

-- filters are added behind those that are there
abbrev pub AddsFilters : {X : Type 0} → Vec (Bor X) Global → Vec (Bor X) Global → List X → Type 0
AddsFilters old new filters = borrowed new.items ≡ borrowed old.items ++ filters

-- what a configuration that was loaded means
abbrev pub config_read : Loaded (Filterset FieldMatcher) TargetSpec → ConfigModel Filter Spec
config_read loaded = config_meaning (marks_view names_of) spec_view loaded.config

-- whether a filter in memory was not looked up
abbrev pub is_left_open : Packages → Filterset FieldMatcher → Bool
is_left_open packages filter = leaves_open packages (marks_view names_of filter)
