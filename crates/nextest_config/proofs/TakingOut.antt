-- An override that does not hold for a test, and whose default filter is not chosen, may go.
use Rattle.std.proofs.Common.{◌≡◌, ◌∙◌, List, ◌∷◌, ◌++◌, map, Bool, false, None, IsSome, unwrap_or, sym, ap}
use Rattle.std.proofs.lemmas.List.{map-append}
use Rattle.std.specs.Option.{option_or}
use Rattle.nextest_engines.specs.Engines.{Test}
use Rattle.nextest_engines.specs.Readings.{Readings}
use Rattle.nextest_engines.specs.declared.queries.BuildPlatforms.{BuildPlatforms}
use Rattle.nextest_rules.specs.Rules.{Compiled, OverrideUse}
use Rattle.nextest_settings.specs.Chains.{first_of, match_all_filter}
use Rattle.nextest_settings.specs.Deciding.{QueryContext, rule_holds, winner}
use Rattle.nextest_settings.specs.Platforms.{EvaluatedRule, filter_of_override}
use Rattle.nextest_settings.specs.Profile.{EarlyModel, EvaluatableModel, profile_on}
use Rattle.nextest_settings.specs.Queries.{query_in, test_query, value_by, origin_by, fallback_origin}
use Rattle.nextest_settings.specs.Settings.{is_set, fallback_of}
use Rattle.nextest_settings.proofs.Deciding.{winner_without, value_same, origin_same}
use Rattle.nextest_settings.proofs.FirstOf.{first_without}
use Rattle.nextest_config.specs.Laws.{GiveTestTheSame, held_on, with_overrides, IsChosenFilter}

module _ {M K P : Type 0} (engines : Readings M K P) (platforms : BuildPlatforms P) (p : EarlyModel M K)
    (before : List (Compiled M K (OverrideUse M))) (rule : Compiled M K (OverrideUse M))
    (after : List (Compiled M K (OverrideUse M))) (test : Test)
    (is : p.overrides ≡ before ++ rule ∷ after) where
  abbrev held : Compiled M K (OverrideUse M) → EvaluatedRule M (OverrideUse M)
  held r = held_on engines platforms r

  abbrev whole : EvaluatableModel M
  whole = profile_on engines.meets platforms p

  abbrev rest : EvaluatableModel M
  rest = profile_on engines.meets platforms (with_overrides (before ++ after) p)

  with_rule : map held p.overrides ≡ map held before ++ held rule ∷ map held after
  with_rule = ap (map held) is ∙ map-append held before (rule ∷ after)

  without_rule : map held (before ++ after) ≡ map held before ++ map held after
  without_rule = map-append held before after

  pub filter_stays : ¬ IsChosenFilter (map held before) (held rule) → whole.default_filter ≡ rest.default_filter
  filter_stays unchosen =
      let not_both : IsSome (filter_of_override (held rule))
      → first_of filter_of_override (map held before) ≡ None → ⊥ =
      λ one none. unchosen (record { has_one = one; first = none }) in
      ap (λ o. unwrap_or (option_or o p.nearest_filter) (match_all_filter p.match_all))
      (ap (first_of filter_of_override) with_rule
      ∙ first_without filter_of_override (map held before) (held rule) (map held after) not_both
      ∙ ap (first_of filter_of_override) (sym without_rule))

  winners_stay : (query : QueryContext M) → rule_holds query (held rule) ≡ false
      → (wants : OverrideUse M → Bool)
      → winner query wants (map held p.overrides) ≡ winner query wants (map held (before ++ after))
  winners_stay query fails wants =
      ap (winner query wants) with_rule
      ∙ winner_without query wants (map held before) (held rule) (map held after) fails
      ∙ ap (winner query wants) (sym without_rule)

  pub test_stays : rule_holds (query_in engines.matches_test whole test) (held rule) ≡ false
      → ¬ IsChosenFilter (map held before) (held rule) → GiveTestTheSame engines whole rest test
  test_stays fails unchosen mode s =
      let query = query_in engines.matches_test whole test in
      let filter = filter_stays unchosen in
      let decides_same = winners_stay query fails (λ w. is_set w.settings mode s) in
      record {
        value =
            ap (λ o. option_or o (fallback_of p.facts.fields mode s))
            (value_same query mode whole.overrides rest.overrides whole.script_rules s decides_same)
            ∙ ap (λ choice. value_by (test_query engines.matches_test choice.filter test) mode rest.overrides
            rest.script_rules p.facts.fields s) filter;
        origin =
            ap (λ o. option_or o (fallback_origin s))
            (origin_same query mode whole.overrides rest.overrides whole.script_rules s decides_same)
            ∙ ap (λ choice. origin_by (test_query engines.matches_test choice.filter test) mode rest.overrides
            rest.script_rules s) filter;
      }
