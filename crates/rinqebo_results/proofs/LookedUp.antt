-- The filters that a profile evaluates and that were not looked up, as they are found.
use Rattle.std.proofs.Common.{◌≡◌, ◌∙◌, ◌&&◌, ◌||◌, Bool, true, false, if◌then◌else◌, List, [], ◌∷◌, ◌++◌, None, Option, Some, ap, map, refl, string_bytes, subst, sym}
use Rattle.std.specs.List.{flat_map}
use Rattle.filter_engine.specs.Compiling.{names_of}
use Rattle.filter_engine.specs.Engine.{Filter}
use Rattle.filter_engine.specs.Open.{asks_for_packages, is_open, leaves_open}
use Rattle.filter_engine.specs.declared.compiling.FieldMatcher.{FieldMatcher}
use Rattle.filter_engine.specs.declared.engine.Packages.{Packages}
use Rattle.filter_language.specs.Filtersets.{marks_view}
use Rattle.filter_language.specs.declared.filterset.Filterset.{Filterset}
use Rattle.nextest_load.specs.Load.{Loaded}
use Rattle.nextest_settings.specs.Profiles.Meaning.{profile_meaning}
use Rattle.nextest_settings.specs.Platforms.{EvaluatedRule}
use Rattle.nextest_settings.specs.Profile.{EvaluatableModel}
use Rattle.nextest_tables.specs.Written.{Name}
use Rattle.platform_language.specs.Expressions.{spec_view}
use Rattle.platform_language.specs.declared.expression.TargetSpec.{TargetSpec}
use Rattle.rinqebo_checks.specs.Failures.{IsFailureAbout}
use Rattle.rinqebo_load.specs.Sessions.{files_view, readings, IsLoadedFrom}
use Rattle.rinqebo_load.specs.declared.session.Session.{Session}
use Rattle.rinqebo_rules.specs.Conditions.{is_met_by}
use Rattle.rinqebo_rules.specs.EvaluatedFilters.{Site, default_site, evaluated_filters, evaluated_of, filter_of, open_filters, placed_view, which_has}
use Rattle.rinqebo_origins.specs.RulePlaces.{Place, id_place, script_place}
use Rattle.rinqebo_rules.specs.Runs.{filtering_place}
use Rattle.rinqebo_rules.specs.declared.evaluated_filters.PlacedFilter.{PlacedFilter}
use Rattle.rinqebo_results.proofs.Listing.{given_means}
use Rattle.rinqebo_results.specs.Listed.{IsProfileOn}
use Rattle.rinqebo_results.specs.ListedBy.{read_by}
use Rattle.rinqebo_load.specs.declared.failure.Failure.{Failure}
use Rattle.rinqebo_load.specs.declared.failure.Failure.TheVariants as failures
use Rattle.rinqebo_load.specs.declared.fault.InputFault.TheVariants as faults
use Rattle.rinqebo_results.specs.LookedUp.{IsFailureFor, IsFailureOn, LeavesOpen}

-- each filter has something
abbrev AllHave : {M : Type 0} → (M → Bool) → List (Site × M) → Type 0
AllHave P [] = Unit {0}
AllHave P (found ∷ more) = (P found.1 ≡ true) × AllHave P more

module _ {M : Type 0} (P : M → Bool) where
  have_more : (xs ys : List (Site × M)) → AllHave P xs → AllHave P ys → AllHave P (xs ++ ys)
  have_more [] ys none all = all
  have_more (x ∷ xs) ys some all = (some.0, have_more xs ys some.1 all)

  have_if : (site : Site) (filter : M) (b : Bool) → P filter ≡ b
      → AllHave P (if b then (site, filter) ∷ [] else [])
  have_if site filter true is = (is, tt)
  have_if site filter false is = tt

  have_which : (site : Site) (filter : Option M) → AllHave P (which_has P site filter)
  have_which site None = tt
  have_which site (Some filter) = have_if site filter (P filter) refl

  have_on : (site : Site) (filter : Option M) (b : Bool)
      → AllHave P (if b then which_has P site filter else [])
  have_on site filter true = have_which site filter
  have_on site filter false = tt

  have_rules : {W : Type 0} (place : W → Place) (rules : List (EvaluatedRule M W))
      → AllHave P (flat_map (evaluated_of P place) rules)
  have_rules place [] = tt
  have_rules place (rule ∷ rules) =
      have_more (evaluated_of P place rule) (flat_map (evaluated_of P place) rules)
      (have_on (filter_of (place rule.writes)) rule.filter (rule.for_host || rule.for_target))
      (have_rules place rules)

  have_evaluated : (profile : EvaluatableModel M) → AllHave P (evaluated_filters P profile)
  have_evaluated profile =
      let overrides = flat_map (evaluated_of P (λ w. id_place w.id)) profile.overrides in
      let script_rules = flat_map (evaluated_of P (λ w. script_place w.id)) profile.script_rules in
      let default = which_has P (default_site (filtering_place profile)) (Some profile.default_filter.filter) in
      have_more (default ++ overrides) script_rules
      (have_more default overrides
      (have_which (default_site (filtering_place profile)) (Some profile.default_filter.filter))
      (have_rules (λ w. id_place w.id) profile.overrides))
      (have_rules (λ w. script_place w.id) profile.script_rules)

second : (a b : Bool) → (a && b) ≡ true → b ≡ true
second true b is = is
second false b is = absurd (cc)

-- The first filter that was not looked up asks for packages.
pub first_asks : (packages : Packages) (profile : EvaluatableModel Filter) (first : Site × Filter)
    (others : List (Site × Filter)) → open_filters packages profile ≡ first ∷ others
    → asks_for_packages first.1 ≡ true
first_asks packages profile first others are =
    let all = subst (AllHave (leaves_open packages)) are (have_evaluated (leaves_open packages) profile) in
    second (is_open packages) (asks_for_packages first.1) all.0

-- The filters that were not looked up, by a configuration that was loaded.
pub open_here : (session : Session) (loaded : Loaded (Filterset FieldMatcher) TargetSpec) (name : Name)
    (on : EvaluatableModel (Filterset FieldMatcher)) (found : List PlacedFilter) (left : List (Site × Filter))
    → IsLoadedFrom (readings session.engines.filters) (files_view session.gathered.now) loaded
    → IsProfileOn is_met_by session.engines.platforms (read_by session loaded) name on
    → map placed_view found
    ≡ open_filters session.engines.filters.packages (profile_meaning (marks_view names_of) on)
    → map placed_view found ≡ left → LeavesOpen session name left
open_here session loaded name on found left from is are same =
    let engines = readings session.engines.filters in
    let profile = profile_meaning (marks_view names_of) on in
    record {
      scripts = loaded.scripts;
      are_scripts = from.scripts;
      profile = profile;
      is_profile = subst (λ config. IsProfileOn engines.meets session.engines.platforms (record {
        root = string_bytes session.gathered.now.paths.workspace_root;
        config = config;
        scripts = loaded.scripts;
      }) name profile) from.means
          (given_means (marks_view names_of) spec_view engines.meets session.engines.platforms
          (read_by session loaded) name on is);
      are_open = sym are ∙ same;
    }

-- The failure for the first filter that was not looked up.
pub fails_for : (session : Session) (name : Name) (failure : Failure) (first : Site × Filter)
    (others : List (Site × Filter)) → LeavesOpen session name (first ∷ others) → IsFailureFor failure first.1
    → IsFailureOn session name failure
fails_for session name (failures.Engines (faults.NoMetadata told)) first others are is =
    record { first = first; others = others; are_open = are; set = is }
fails_for session name _ first others are is = absurd is

-- What is a failure about a profile is one where its filters are evaluated.
pub on_about : (session : Session) (name : Name) (failure : Failure) → IsFailureAbout session name failure
    → IsFailureOn session name failure
on_about session name (failures.Engines fault) is = absurd is
on_about session name (failures.Refused report) is = is
on_about session name (failures.NoProfile report) is = is
on_about session name (failures.NoTest report) is = is
on_about session name (failures.SeveralTests report) is = is
on_about session name failures.Memory is = is
