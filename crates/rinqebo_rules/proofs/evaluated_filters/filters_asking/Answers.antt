use Rattle.std.proofs.Common.{◌≡◌, ◌∙◌, ◌++◌, List, Some, ap, map}
use Rattle.std.specs.List.{flat_map}
use Rattle.filter_engine.specs.Compiling.{names_of}
use Rattle.filter_language.specs.Filtersets.{marks_view}
use Rattle.nextest_settings.specs.View.{evaluated_override_view, evaluated_script_rule_view}
use Rattle.rinqebo_rules.proofs.NoneHold.{meant_overrides}
use Rattle.rinqebo_rules.proofs.ScriptRules.{meant_scripts}
use Rattle.rinqebo_rules.specs.EvaluatedFilters.{asks_any, evaluated_of, placed_view, site_view, which_has}
use Rattle.rinqebo_origins.specs.RulePlaces.{id_place, script_place}
use Rattle.rinqebo_rules.specs.declared.evaluated_filters.PlacedFilter.{PlacedFilter}
use Rattle.rinqebo_rules.proofs.evaluated_filters.filters_asking.Goals as goal

-- lists behind one another
joined : {X : Type 0} {first more all a o s b p t : List X} → first ≡ a → a ≡ b → more ≡ first ++ o → o ≡ p
    → all ≡ more ++ s → s ≡ t → all ≡ b ++ p ++ t
joined {X} {first} {more} {all} {a} {o} {s} {b} {p} {t} is_first same_a is_more same_o is_all same_s =
    is_all ∙ ap (λ (xs : List X). xs ++ s) (is_more ∙ ap (λ (xs : List X). xs ++ o) is_first)
    ∙ (λ i. same_a i ++ same_o i ++ same_s i)

pub returns : goal.returns
returns c =
    let f = marks_view names_of in
    let profile = c.args.profile.now in
    let asks = asks_any c.args.fields.now in
    let default = which_has asks (site_view c.default_place.result) (Some (f c.filterset_ecx.result.default_filter.now)) in
    joined
    (c.in_ok-first.ensures ∙ ap (λ (none : List PlacedFilter). map placed_view none ++ default) c.new-none.ensures.items)
    (λ i. which_has asks (c.default_place.ensures i) (Some (f (c.filterset_ecx.ensures i))))
    c.in_ok-more.ensures
    (ap (flat_map (evaluated_of asks (λ w. id_place w.id)))
    (meant_overrides f profile _ (ap (map evaluated_override_view) c.deref.ensures.value ∙ c.rules-rules.ensures.overrides)))
    c.in_ok-all.ensures
    (ap (flat_map (evaluated_of asks (λ w. script_place w.id)))
    (meant_scripts f profile _ (ap (map evaluated_script_rule_view) c.deref-2.ensures.value ∙ c.rules-rules.ensures.script_rules)))
