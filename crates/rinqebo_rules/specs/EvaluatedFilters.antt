-- The filters that a profile evaluates on the platforms of a build, by the fields that they use.
use Rattle.std.specs.Prelude.{ℕ, Bool, ◌||◌, codes, List, [], ◌∷◌, ◌++◌, Option, None, Some, if◌then◌else◌}
use Rattle.std.specs.List.{flat_map, list_any}
use Rattle.filter_engine.specs.Compiling.{names_of}
use Rattle.filter_engine.specs.Engine.{Filter}
use Rattle.filter_engine.specs.Open.{leaves_open}
use Rattle.filter_engine.specs.declared.engine.Packages.{Packages}
use Rattle.filter_language.specs.Asks.{asks}
use Rattle.filter_language.specs.Filtersets.{marks_view}
use Rattle.filter_language.specs.declared.words.Field.{Field}
use Rattle.nextest_settings.specs.Platforms.{EvaluatedRule}
use Rattle.nextest_settings.specs.Profile.{EvaluatableModel}
use Rattle.rinqebo_origins.specs.RulePlaces.{Place, id_place, script_place, place_view}
use Rattle.rinqebo_rules.specs.Runs.{filtering_place}
use Rattle.rinqebo_rules.specs.declared.evaluated_filters.FilterPlace.{FilterPlace}
use Rattle.rinqebo_rules.specs.declared.evaluated_filters.FilterPlace.TheVariants as places
use Rattle.rinqebo_rules.specs.declared.evaluated_filters.PlacedFilter.{PlacedFilter}

-- Where a filter is written: it is the default filter of a chain of profiles, the default filter of
-- the override at a place, or the filter of the rule at a place.
pub data Site : Type 0 where
  chain_default : Site
  default_of : Place → Site
  filter_of : Place → Site

-- where a filter is written, as code holds it
abbrev pub site_view : FilterPlace → Site
site_view places.Chain = chain_default
site_view (places.DefaultOf place) = default_of (place_view place)
site_view (places.Rule place) = filter_of (place_view place)

-- a filter with where it is written, as code holds it
abbrev pub placed_view : PlacedFilter → Site × Filter
placed_view placed = (site_view placed.place, marks_view names_of placed.filter.now)

-- the rule that writes a filter, if one does
abbrev pub site_rule : Site → Option Place
site_rule chain_default = None
site_rule (default_of place) = Some place
site_rule (filter_of place) = Some place

-- the key at which a filter is written
abbrev pub site_key : Site → List ℕ
site_key chain_default = codes "default-filter"
site_key (default_of place) = codes "default-filter"
site_key (filter_of place) = codes "filter"

-- whether a filter uses one of some fields
abbrev pub asks_any : List Field → Filter → Bool
asks_any fields filter = list_any (λ field. asks field filter) fields

-- a filter with where it is written, where there is one that has something
abbrev pub which_has : {M : Type 0} → (M → Bool) → Site → Option M → List (Site × M)
which_has P site None = []
which_has P site (Some filter) = if P filter then (site, filter) ∷ [] else []

-- The filter of a rule, where it has something and is evaluated: the platforms of the rule hold for
-- binaries of the host or of the target.
abbrev pub evaluated_of : {M W : Type 0} → (M → Bool) → (W → Place) → EvaluatedRule M W
    → List (Site × M)
evaluated_of P place rule =
    if rule.for_host || rule.for_target then which_has P (filter_of (place rule.writes)) rule.filter
    else []

-- where the default filter is written that counts
abbrev pub default_site : Option Place → Site
default_site None = chain_default
default_site (Some place) = default_of place

-- The filters of a profile that are evaluated and have something: the default filter that counts,
-- then those of overrides in order, and then those of script rules in order.
abbrev pub evaluated_filters : {M : Type 0} → (M → Bool) → EvaluatableModel M → List (Site × M)
evaluated_filters P profile =
    which_has P (default_site (filtering_place profile)) (Some profile.default_filter.filter)
    ++ flat_map (evaluated_of P (λ w. id_place w.id)) profile.overrides
    ++ flat_map (evaluated_of P (λ w. script_place w.id)) profile.script_rules

-- The filters of a profile that are evaluated and have sets of packages that were not looked up, by
-- what is known of packages.
abbrev pub open_filters : Packages → EvaluatableModel Filter → List (Site × Filter)
open_filters packages profile = evaluated_filters (leaves_open packages) profile
