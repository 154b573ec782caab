-- The filters of a profile that are evaluated, and those that are left open.
use Rattle.std.proofs.Common.{◌≡◌, ◌∙◌, ◌&&◌, ◌||◌, Bool, true, false, if◌then◌else◌, List, [], ◌∷◌, ◌++◌, None, Option, Some, ap, refl, sym}
use mathlib.Core.Path.{fun_ext}
use Rattle.std.specs.List.{flat_map}
use Rattle.filter_engine.specs.Engine.{Filter}
use Rattle.filter_engine.specs.Open.{asks_for_packages, is_open, leaves_open}
use Rattle.filter_engine.specs.declared.engine.Packages.{Packages}
use Rattle.filter_language.specs.Asks.{asks}
use Rattle.filter_language.specs.declared.words.Field.TheVariants.{Deps, Rdeps}
use Rattle.nextest_settings.specs.Platforms.{EvaluatedRule}
use Rattle.nextest_settings.specs.Profile.{EvaluatableModel}
use Rattle.rinqebo_rules.specs.EvaluatedFilters.{Site, asks_any, evaluated_filters, evaluated_of, filter_of, open_filters, which_has}
use Rattle.rinqebo_origins.specs.RulePlaces.{Place, id_place, script_place}

or_false : (b : Bool) → (b || false) ≡ b
or_false true = refl
or_false false = refl

-- a filter asks for packages where it asks for dependencies or for dependents
packages_asked : (filter : Filter) → asks_for_packages filter ≡ asks_any (Deps ∷ Rdeps ∷ []) filter
packages_asked filter = ap (λ b. asks Deps filter || b) (sym (or_false (asks Rdeps filter)))

open_asks : (packages : Packages) (filter : Filter) → is_open packages ≡ true
    → leaves_open packages filter ≡ asks_any (Deps ∷ Rdeps ∷ []) filter
open_asks packages filter is = ap (λ b. b && asks_for_packages filter) is ∙ packages_asked filter

-- Where sets of packages are left open, the filters with one are left open.
pub all_open : (packages : Packages) (profile : EvaluatableModel Filter) → is_open packages ≡ true
    → open_filters packages profile ≡ evaluated_filters (asks_any (Deps ∷ Rdeps ∷ [])) profile
all_open packages profile is =
    ap (λ (P : Filter → Bool). evaluated_filters P profile)
    (fun_ext (λ (filter : Filter). open_asks packages filter is))

none_has : {M : Type 0} (site : Site) (b : Bool) (filter : Option M)
    → (if b then which_has (λ _. false) site filter else []) ≡ []
none_has site true None = refl
none_has site true (Some filter) = refl
none_has site false filter = refl

none_of_rules : {M W : Type 0} (place : W → Place) (rules : List (EvaluatedRule M W))
    → flat_map (evaluated_of (λ _. false) place) rules ≡ []
none_of_rules place [] = refl
none_of_rules place (rule ∷ rules) =
    ap (λ found. found ++ flat_map (evaluated_of (λ _. false) place) rules)
    (none_has (filter_of (place rule.writes)) (rule.for_host || rule.for_target) rule.filter)
    ∙ none_of_rules place rules

none_evaluated : {M : Type 0} (profile : EvaluatableModel M) → evaluated_filters (λ _. false) profile ≡ []
none_evaluated {M} profile =
    ap (λ (found : List (Site × M)). found ++ flat_map (evaluated_of (λ _. false) (λ w. script_place w.id)) profile.script_rules)
    (none_of_rules (λ w. id_place w.id) profile.overrides)
    ∙ none_of_rules (λ w. script_place w.id) profile.script_rules

-- Where they are not left open, no filter is.
pub none_open : (packages : Packages) (profile : EvaluatableModel Filter) → is_open packages ≡ false
    → [] ≡ open_filters packages profile
none_open packages profile isnt =
    sym (ap (λ (P : Filter → Bool). evaluated_filters P profile)
    (fun_ext (λ (filter : Filter). ap (λ b. b && asks_for_packages filter) isnt))
    ∙ none_evaluated profile)
