-- Profiles with the same rules, fallbacks and default filter give the same.
use Rattle.std.proofs.Common.{◌≡◌, ◌∙◌, List, map, Bool, cond, None, sym}
use Rattle.std.specs.List.{list_any}
use Rattle.std.specs.Option.{option_or}
use Rattle.nextest_elements.specs.declared.run_mode.NextestRunMode.{NextestRunMode}
use Rattle.nextest_engines.specs.Engines.{Test}
use Rattle.nextest_engines.specs.Readings.{Readings}
use Rattle.nextest_rules.specs.Rules.{at_name}
use Rattle.nextest_rules.proofs.AtName.{at_filtered}
use Rattle.nextest_settings.specs.Profile.{EvaluatableModel}
use Rattle.nextest_settings.specs.Queries.{test_query, binary_query, written_value, written_origin, fallback_origin, list_wrapper_by, is_enabled_for}
use Rattle.nextest_settings.specs.Settings.{fallback_of}
use Rattle.nextest_elements.specs.declared.setting.Setting.{Setting}
use Rattle.nextest_tables.specs.Written.{Name}
use Rattle.nextest_config.specs.Laws.{GiveTestTheSame, GiveTheSame, enabled_for}

module _ {M K P : Type 0} (engines : Readings M K P) (p q : EvaluatableModel M)
    (same_filter : p.default_filter ≡ q.default_filter) (same_overrides : p.overrides ≡ q.overrides)
    (same_rules : p.script_rules ≡ q.script_rules)
    (same_fallback : (mode : NextestRunMode) (s : Setting)
    → fallback_of p.facts.fields mode s ≡ fallback_of q.facts.fields mode s)
    (same_wrappers : (id : Name) → at_name id p.facts.scripts.wrapper ≡ at_name id q.facts.scripts.wrapper)
    (same_setups : (id : Name) → at_name id p.facts.scripts.setup ≡ at_name id q.facts.scripts.setup) where
  tests_same : (test : Test) → GiveTestTheSame engines p q test
  tests_same test mode s = record {
    value = λ i. option_or (written_value (test_query engines.matches_test (same_filter i).filter test) mode
        (same_overrides i) (same_rules i) s) (same_fallback mode s i);
    origin = λ i. option_or (written_origin (test_query engines.matches_test (same_filter i).filter test) mode
        (same_overrides i) (same_rules i) s) (fallback_origin s);
  }

  enabled_same : (tests : List Test) (id : Name)
      → at_name id (enabled_for engines p tests) ≡ at_name id (enabled_for engines q tests)
  enabled_same tests id =
      let enables : 𝕀 → Name → Bool =
      λ i id. list_any (λ query. is_enabled_for query (same_rules i) id)
      (map (test_query engines.matches_test (same_filter i).filter) tests) in
      at_filtered (enables 0) id p.facts.scripts.setup
      ∙ (λ i. cond (enables i id) (same_setups id i) None)
      ∙ sym (at_filtered (enables 1) id q.facts.scripts.setup)

  pub give_the_same : GiveTheSame engines p q
  give_the_same = record {
    tests = tests_same;
    binaries = λ binary i. list_wrapper_by (binary_query engines.matches_binary (same_filter i).filter binary)
        (same_rules i);
    wrappers = same_wrappers;
    setup_scripts = enabled_same;
    default_filter = same_filter;
  }
