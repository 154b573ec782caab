-- One more override behind all others, whose default filter is not chosen, decides only the rest.
use Rattle.std.proofs.Common.{◌≡◌, ◌∙◌, [], ◌∷◌, ◌++◌, None, IsSome, unwrap_or, append-nil, ap}
use Rattle.std.proofs.lemmas.List.{map-append}
use Rattle.std.specs.Option.{option_or}
use Rattle.nextest_elements.specs.declared.run_mode.NextestRunMode.{NextestRunMode}
use Rattle.nextest_engines.specs.Engines.{Test}
use Rattle.nextest_engines.specs.Readings.{Readings}
use Rattle.nextest_engines.specs.declared.queries.BuildPlatforms.{BuildPlatforms}
use Rattle.nextest_rules.specs.Rules.{Compiled, OverrideUse}
use Rattle.nextest_settings.specs.Chains.{first_of, match_all_filter}
use Rattle.nextest_settings.specs.Platforms.{EvaluatedRule, filter_of_override}
use Rattle.nextest_settings.specs.Profile.{EarlyModel, EvaluatableModel, profile_on}
use Rattle.nextest_settings.specs.Queries.{query_in, test_query, value_by, origin_by, fallback_origin}
use Rattle.nextest_settings.specs.Settings.{is_set, fallback_of}
use Rattle.nextest_elements.specs.declared.setting.Setting.{Setting}
use Rattle.nextest_settings.proofs.Deciding.{winner_before, value_same, origin_same, value_taken, origin_taken}
use Rattle.nextest_settings.proofs.FirstOf.{first_without}
use Rattle.nextest_config.specs.Laws.{held_on, with_overrides, IsChosenFilter, DecidesTheRest}

module _ {M K P : Type 0} (engines : Readings M K P) (platforms : BuildPlatforms P) (p : EarlyModel M K)
    (rule : Compiled M K (OverrideUse M)) (test : Test) where
  abbrev old : EvaluatableModel M
  old = profile_on engines.meets platforms p

  abbrev new : EvaluatableModel M
  new = profile_on engines.meets platforms (with_overrides (p.overrides ++ rule ∷ []) p)

  abbrev last : EvaluatedRule M (OverrideUse M)
  last = held_on engines platforms rule

  one_more : new.overrides ≡ old.overrides ++ last ∷ []
  one_more = map-append (held_on engines platforms) p.overrides (rule ∷ [])

  module _ (unchosen : ¬ IsChosenFilter old.overrides last) where
    pub filter_kept : new.default_filter ≡ old.default_filter
    filter_kept =
        let not_both : IsSome (filter_of_override last) → first_of filter_of_override old.overrides ≡ None
        → ⊥ = λ one none. unchosen (record { has_one = one; first = none }) in
        ap (λ o. unwrap_or (option_or o p.nearest_filter) (match_all_filter p.match_all))
        (ap (first_of filter_of_override) one_more
        ∙ first_without filter_of_override old.overrides last [] not_both
        ∙ ap (first_of filter_of_override) (append-nil old.overrides))

    -- what the test asks of the profile stays, and its overrides are one more
    value_there : (mode : NextestRunMode) (s : Setting)
        → value_by (query_in engines.matches_test new test) mode new.overrides new.script_rules p.facts.fields
        s ≡ value_by (query_in engines.matches_test old test) mode (old.overrides ++ last ∷ [])
        old.script_rules p.facts.fields s
    value_there mode s = λ i. value_by (test_query engines.matches_test (filter_kept i).filter test) mode
        (one_more i) old.script_rules p.facts.fields s

    origin_there : (mode : NextestRunMode) (s : Setting)
        → origin_by (query_in engines.matches_test new test) mode new.overrides new.script_rules s
        ≡ origin_by (query_in engines.matches_test old test) mode (old.overrides ++ last ∷ []) old.script_rules s
    origin_there mode s = λ i. origin_by (test_query engines.matches_test (filter_kept i).filter test) mode
        (one_more i) old.script_rules s

    pub rest_decided : DecidesTheRest engines old new last test
    rest_decided =
        let query = query_in engines.matches_test old test in
        record {
          kept = λ mode s h.
              let same = winner_before query (λ w. is_set w.settings mode s) old.overrides last h in
              record {
                value = value_there mode s
                    ∙ ap (λ o. option_or o (fallback_of p.facts.fields mode s))
                    (value_same query mode (old.overrides ++ last ∷ []) old.overrides old.script_rules s same);
                origin = origin_there mode s
                    ∙ ap (λ o. option_or o (fallback_origin s))
                    (origin_same query mode (old.overrides ++ last ∷ []) old.overrides old.script_rules s same);
              };
          decided = λ mode s none takes. (
            value_there mode s ∙ value_taken query mode old.overrides last old.script_rules p.facts.fields s none takes,
            origin_there mode s ∙ origin_taken query mode old.overrides last old.script_rules p.facts.fields s
                none takes,
          );
        }
