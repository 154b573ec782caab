use Rattle.std.proofs.Common.{◌≡◌, ◌∙◌, ℕ, Bool, IfOk, IsTrue, ap, is_some, length, map, subst, sym}
use Rattle.std.proofs.lemmas.List.{length-map}
use Rattle.std.proofs.lemmas.Result.{IfOk-weaker}
use Rattle.nextest_engines.specs.Engines.{test_view}
use Rattle.nextest_rules.specs.Rules.{ScriptRuleUse}
use Rattle.nextest_settings.specs.Profiles.Meaning.{profile_meaning}
use Rattle.nextest_settings.specs.Queries.{query_in, test_query}
use Rattle.nextest_settings.specs.View.{evaluated_script_rule_view, meant_override}
use Rattle.rinqebo_rules.proofs.Evaluated.{only_more}
use Rattle.rinqebo_rules.proofs.KnownMore.{named_in}
use Rattle.rinqebo_rules.proofs.Marked.{marks_alike}
use Rattle.rinqebo_rules.proofs.NoneHold.{meant_overrides}
use Rattle.rinqebo_rules.proofs.ScriptRules.{meant_scripts}
use Rattle.rinqebo_rules.proofs.Unneeded.{script_rule_unneeded}
use Rattle.rinqebo_rules.specs.BinaryRules.{AreKnownIn}
use Rattle.rinqebo_rules.specs.Distinct.{AreDistinct}
use Rattle.rinqebo_rules.specs.Evaluations.{EvaluatesOnly, IsNamedAt, IsOpenNamed}
use Rattle.rinqebo_rules.specs.Passed.{IsPassed, IsShown, ids_of}
use Rattle.rinqebo_rules.specs.SetupRules.{AreKnownMore}
use Rattle.rinqebo_rules.proofs.unused.UsedRules.known_with_setup.Goals as goal

pub returns-clause-known : goal.returns-clause-known
returns-clause-known g c = λ tests mode knows of_profile are.
    let F = g.F.Filters in
    let profile = c.args.profile.now in
    let meaning = profile_meaning F.meaning profile in
    let test = test_view c.args.query.now in
    let query = query_in F.holds meaning test in
    let same_query = ap (λ default. test_query F.holds (F.meaning default) test) c.filterset_ecx-cx.ensures in
    let searched = meant_scripts F.meaning profile c.deref.result.now
    (ap (map evaluated_script_rule_view) c.deref.ensures.value ∙ c.rules-rules.ensures.script_rules) in
    let scripts = meant_scripts F.meaning profile c.deref-2.result.now
    (ap (map evaluated_script_rule_view) c.deref-2.ensures.value ∙ c.rules-rules.ensures.script_rules) in
    let count = c.passed_for_wrapper-passed.result in
    let known = c.args.known.now in
    let are_distinct = c.args.self.now.are_script_rules_distinct in
    marks_alike (λ q rules. IsPassed q (λ w. is_some w.scripts.run_wrapper) (λ w. w.id) rules count
    → (IsTrue are_distinct → AreDistinct (ids_of (λ w. w.id) rules)) → AreKnownIn q rules known
    → IfOk c.known_rules.result (λ more. AreKnownMore q rules known more.items)) _ query _ meaning.script_rules same_query
    scripts c.known_rules.ensures.known
    (c.passed_for_wrapper-passed.ensures query mode meaning (sym searched) of_profile) are.distinct_script_rules knows

pub returns-clause-tally : goal.returns-clause-tally
returns-clause-tally g c = λ tests mode of_profile are.
    let F = g.F.Filters in
    let profile = c.args.profile.now in
    let meaning = profile_meaning F.meaning profile in
    let test = test_view c.args.query.now in
    let query = query_in F.holds meaning test in
    let same_query = ap (λ default. test_query F.holds (F.meaning default) test) c.filterset_ecx-cx.ensures in
    let all = c.rules-rules.result.now in
    let listed = meant_overrides F.meaning profile all.overrides.items c.rules-rules.ensures.overrides in
    let searched = meant_scripts F.meaning profile c.deref.result.now
    (ap (map evaluated_script_rule_view) c.deref.ensures.value ∙ c.rules-rules.ensures.script_rules) in
    let scripts = meant_scripts F.meaning profile c.deref-2.result.now
    (ap (map evaluated_script_rule_view) c.deref-2.ensures.value ∙ c.rules-rules.ensures.script_rules) in
    let count = c.passed_for_wrapper-passed.result in
    let known = c.args.known.now in
    let used = c.args.self.now in
    let are_distinct = used.are_script_rules_distinct in
    let first = c.len-first.result in
    let counted : first ≡ length meaning.overrides =
    c.len-first.ensures ∙ all.overrides.ok.0 ∙ sym (length-map all.overrides.items (meant_override F.meaning))
    ∙ ap length listed in
    let old = g.F.Tally.Tally.numbers c.args.tally.now in
    let new = g.F.Tally.Tally.numbers c.known_rules.new.tally in
    let wraps : ScriptRuleUse → Bool = λ w. is_some w.scripts.run_wrapper in
    let shows : ℕ → ScriptRuleUse → Bool → Type 0 =
    λ n w holds. IsTrue (wraps w) × IsShown are_distinct n count holds in
    let overrides = length meaning.overrides in
    IfOk-weaker c.known_rules.result
    (λ more. EvaluatesOnly (IsNamedAt query known shows overrides meaning.script_rules) overrides old new)
    (λ more. EvaluatesOnly (IsOpenNamed query meaning used known) overrides old new)
    (λ more. only_more _ _ overrides old new (named_in query meaning used known shows
    (λ n rule stands hidden. script_rule_unneeded query wraps (λ w. w.id) meaning.script_rules n count are_distinct
    rule stands (c.passed_for_wrapper-passed.ensures query mode meaning (sym searched) of_profile)
    are.distinct_script_rules hidden)))
    (subst (λ k. IfOk c.known_rules.result
    (λ more. EvaluatesOnly (IsNamedAt query known shows k meaning.script_rules) k old new)) counted
    (marks_alike (λ q rules. IfOk c.known_rules.result
    (λ more. EvaluatesOnly (IsNamedAt q known shows first rules) first old new)) _ query _ meaning.script_rules same_query
    scripts c.known_rules.ensures.tally))
