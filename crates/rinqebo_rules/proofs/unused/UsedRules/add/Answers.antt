use Rattle.std.proofs.Common.{◌≡◌, ◌∙◌, ◌++◌, ◌∷◌, [], ℕ, Bool, IsTrue, ap, is_some, length, map, subst, sym}
use Rattle.std.proofs.lemmas.List.{length-map}
use Rattle.std.specs.List.{AllZip}
use Rattle.nextest_engines.specs.Engines.{test_view}
use Rattle.nextest_settings.specs.Profiles.Meaning.{profile_meaning}
use Rattle.nextest_settings.specs.Queries.{query_in, test_query}
use Rattle.nextest_settings.specs.Settings.{is_set}
use Rattle.nextest_elements.specs.Settings.{settings}
use Rattle.nextest_elements.specs.declared.setting.Setting.{Setting}
use Rattle.nextest_rules.specs.Rules.{OverrideUse, ScriptRuleUse}
use Rattle.nextest_settings.specs.View.{evaluated_override_view, evaluated_script_rule_view, meant_override}
use Rattle.rinqebo_rules.proofs.Evaluated.{evaluated_both, open_in}
use Rattle.rinqebo_rules.proofs.Marked.{marks_alike}
use Rattle.rinqebo_rules.proofs.NoneHold.{meant_overrides}
use Rattle.rinqebo_rules.proofs.ScriptRules.{meant_scripts}
use Rattle.rinqebo_rules.proofs.SetMarks.{taken_back}
use Rattle.rinqebo_rules.proofs.Unneeded.{override_unneeded, script_rule_unneeded}
use Rattle.rinqebo_rules.specs.BinaryRules.{AreKnownIn}
use Rattle.rinqebo_rules.specs.Distinct.{AreDistinct}
use Rattle.rinqebo_rules.specs.Evaluations.{EvaluatesOnly, IsOpenAt}
use Rattle.rinqebo_rules.specs.Passed.{AreWritten, IsPassed, IsShown, IsShownBy, ids_of}
use Rattle.rinqebo_rules.specs.Unused.{is_used, written_at}
use Rattle.rinqebo_rules.proofs.unused.UsedRules.add.Goals as goal

pub returns-clause-used : goal.returns-clause-used
returns-clause-used g c = λ tests mode knows knows_scripts of_profile are.
    let F = g.F.Filters in
    let profile = c.args.profile.now in
    let meaning = profile_meaning F.meaning profile in
    let test = test_view c.args.query.now in
    let query = query_in F.holds meaning test in
    let same_query = ap (λ default. test_query F.holds (F.meaning default) test) c.filterset_ecx-cx.ensures in
    let walked = meant_overrides F.meaning profile c.deref.result.now
    (ap (map evaluated_override_view) c.deref.ensures.value ∙ c.rules-rules.ensures.overrides) in
    let overrides = meant_overrides F.meaning profile c.deref-2.result.now
    (ap (map evaluated_override_view) c.deref-2.ensures.value ∙ c.rules-rules.ensures.overrides) in
    let searched = meant_scripts F.meaning profile c.deref-4.result.now
    (ap (map evaluated_script_rule_view) c.deref-4.ensures.value ∙ c.rules-rules.ensures.script_rules) in
    let scripts = meant_scripts F.meaning profile c.deref-5.result.now
    (ap (map evaluated_script_rule_view) c.deref-5.ensures.value ∙ c.rules-rules.ensures.script_rules) in
    let used = c.deref_mut.result.now in
    let written = c.deref-3.result.now in
    let passed = c.passed_in-passed.result in
    let after = c.mark_overrides.new.used in
    let used_scripts = c.deref_mut-2.result.now in
    let count = c.passed_for_wrapper-passed.result in
    let after_scripts = c.mark_script_rules.new.used in
    let known = c.args.overrides.now in
    let known_scripts = c.args.script_rules.now in
    let are_distinct = c.args.self.now.are_overrides_distinct in
    let are_scripts_distinct = c.args.self.now.are_script_rules_distinct in
    record {
      overrides = taken_back after _ _ (c.mark_overrides.auto.used ∙ c.deref_mut.ensures.len) ∙ marks_alike (λ q rules. AllZip (AreWritten mode) rules written
          → AllZip (λ s. IsPassed q (λ w. is_set w.settings mode s) (λ w. w.id) rules) settings passed
          → (IsTrue are_distinct → AreDistinct (ids_of (λ w. w.id) rules)) → AreKnownIn q rules known
          → used ≡ map (is_used tests) rules
          → after ≡ map (is_used (tests ++ q ∷ [])) rules) _ query _ meaning.overrides same_query overrides
          (λ writes passes distinct holds marks.
          c.mark_overrides.ensures.marks mode writes passes distinct holds tests marks)
          (subst (AllZip (AreWritten mode) meaning.overrides) (sym c.deref-3.ensures.value) are.written)
          (c.passed_in-passed.ensures query mode meaning (sym walked) of_profile)
          are.distinct_overrides
          knows
          (c.deref_mut.ensures.value ∙ are.overrides);
      script_rules = taken_back after_scripts _ _ (c.mark_script_rules.auto.used ∙ c.deref_mut-2.ensures.len) ∙ marks_alike (λ q rules. IsPassed q (λ w. is_some w.scripts.run_wrapper) (λ w. w.id) rules count
          → (IsTrue are_scripts_distinct → AreDistinct (ids_of (λ w. w.id) rules))
          → AreKnownIn q rules known_scripts → used_scripts ≡ map (is_used tests) rules
          → after_scripts ≡ map (is_used (tests ++ q ∷ [])) rules) _ query _ meaning.script_rules same_query scripts
          (λ passes distinct holds marks. c.mark_script_rules.ensures.marks passes distinct holds tests marks)
          (c.passed_for_wrapper-passed.ensures query mode meaning (sym searched) of_profile)
          are.distinct_script_rules
          knows_scripts
          (c.deref_mut-2.ensures.value ∙ are.script_rules);
      written = are.written;
      distinct_overrides = are.distinct_overrides;
      distinct_script_rules = are.distinct_script_rules;
    }

pub returns-clause-tally : goal.returns-clause-tally
returns-clause-tally g c = λ tests mode of_profile are.
    let F = g.F.Filters in
    let profile = c.args.profile.now in
    let meaning = profile_meaning F.meaning profile in
    let test = test_view c.args.query.now in
    let query = query_in F.holds meaning test in
    let same_query = ap (λ default. test_query F.holds (F.meaning default) test) c.filterset_ecx-cx.ensures in
    let all = c.rules-rules.result.now in
    let listed = meant_overrides F.meaning profile all.overrides.items c.rules-rules.ensures.overrides in
    let walked = meant_overrides F.meaning profile c.deref.result.now
    (ap (map evaluated_override_view) c.deref.ensures.value ∙ c.rules-rules.ensures.overrides) in
    let overrides = meant_overrides F.meaning profile c.deref-2.result.now
    (ap (map evaluated_override_view) c.deref-2.ensures.value ∙ c.rules-rules.ensures.overrides) in
    let searched = meant_scripts F.meaning profile c.deref-4.result.now
    (ap (map evaluated_script_rule_view) c.deref-4.ensures.value ∙ c.rules-rules.ensures.script_rules) in
    let scripts = meant_scripts F.meaning profile c.deref-5.result.now
    (ap (map evaluated_script_rule_view) c.deref-5.ensures.value ∙ c.rules-rules.ensures.script_rules) in
    let used = c.deref_mut.result.now in
    let written = c.deref-3.result.now in
    let passed = c.passed_in-passed.result in
    let used_scripts = c.deref_mut-2.result.now in
    let count = c.passed_for_wrapper-passed.result in
    let known = c.args.overrides.now in
    let known_scripts = c.args.script_rules.now in
    let are_distinct = c.args.self.now.are_overrides_distinct in
    let are_scripts_distinct = c.args.self.now.are_script_rules_distinct in
    let first = c.len-first.result in
    let counted : first ≡ length meaning.overrides =
    c.len-first.ensures ∙ all.overrides.ok.0 ∙ sym (length-map all.overrides.items (meant_override F.meaning))
    ∙ ap length listed in
    let old = g.F.Tally.Tally.numbers c.args.tally.now in
    let now = g.F.Tally.Tally.numbers c.mark_overrides.new.tally in
    let new = g.F.Tally.Tally.numbers c.mark_script_rules.new.tally in
    let wants : Setting → OverrideUse F.Meaning → Bool = λ s w. is_set w.settings mode s in
    let wraps : ScriptRuleUse → Bool = λ w. is_some w.scripts.run_wrapper in
    let shows : ℕ → OverrideUse F.Meaning → Bool → Type 0 = λ n w. IsShownBy (written_at written n) n passed are_distinct in
    let shows_wrapping : ℕ → ScriptRuleUse → Bool → Type 0 =
    λ n w holds. IsTrue (wraps w) × IsShown are_scripts_distinct n count holds in
    evaluated_both (IsOpenAt query used known shows 0 meaning.overrides) _
    (IsOpenAt query used_scripts known_scripts shows_wrapping (length meaning.overrides) meaning.script_rules) _
    0 (length meaning.overrides) old now new
    (open_in tests query wants are_distinct used known shows 0 meaning.overrides
    (c.deref_mut.ensures.value ∙ are.overrides)
    (λ n rule stands hidden. override_unneeded query wants (λ w. w.id) meaning.overrides n are_distinct written passed
    (subst (AllZip (AreWritten mode) meaning.overrides) (sym c.deref-3.ensures.value) are.written)
    (c.passed_in-passed.ensures query mode meaning (sym walked) of_profile) are.distinct_overrides hidden))
    (open_in tests query (λ (wrapper : Unit {0}) w. wraps w) are_scripts_distinct used_scripts known_scripts shows_wrapping
    (length meaning.overrides) meaning.script_rules (c.deref_mut-2.ensures.value ∙ are.script_rules)
    (λ n rule stands hidden. script_rule_unneeded query wraps (λ w. w.id) meaning.script_rules n count are_scripts_distinct
    rule stands (c.passed_for_wrapper-passed.ensures query mode meaning (sym searched) of_profile)
    are.distinct_script_rules hidden))
    (marks_alike (λ q rules. EvaluatesOnly (IsOpenAt q used known shows 0 rules) 0 old now) _ query _ meaning.overrides
    same_query overrides c.mark_overrides.ensures.tally)
    (subst (λ k. EvaluatesOnly (IsOpenAt query used_scripts known_scripts shows_wrapping k meaning.script_rules) k now new)
    counted
    (marks_alike (λ q rules. EvaluatesOnly (IsOpenAt q used_scripts known_scripts shows_wrapping first rules) first now new)
    _ query _ meaning.script_rules same_query scripts c.mark_script_rules.ensures.tally))
