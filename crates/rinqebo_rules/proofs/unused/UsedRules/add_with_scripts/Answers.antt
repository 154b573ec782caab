use Rattle.std.proofs.Common.{◌≡◌, ◌∙◌, List, None, Option, Some, ap, length, map, option_and_then, refl, subst, sym}
use Rattle.std.specs.Option.{option_or}
use Rattle.nextest_elements.specs.declared.setting.Setting.TheVariants as at
use Rattle.nextest_engines.specs.Engines.{test_view}
use Rattle.nextest_rules.specs.Rules.{ScriptRuleUse}
use Rattle.nextest_scripts.specs.ScriptId.{script_text}
use Rattle.nextest_settings.specs.Deciding.{QueryContext}
use Rattle.nextest_settings.specs.Platforms.{EvaluatedRule}
use Rattle.nextest_settings.specs.Profiles.Meaning.{profile_meaning}
use Rattle.nextest_settings.specs.Queries.{is_enabled_for, query_in, wrapping_rule}
use Rattle.nextest_settings.specs.View.{evaluated_script_rule_view}
use Rattle.nextest_tables.specs.Written.{Name}
use Rattle.nextest_tree.specs.Schema.{is_one_of}
use Rattle.rinqebo_rules.proofs.Evaluated.{rising_more}
use Rattle.rinqebo_rules.proofs.KnownMore.{unnamed_in}
use Rattle.rinqebo_rules.proofs.ScriptRules.{meant_scripts}
use Rattle.rinqebo_rules.specs.BinaryRules.{AreKnownIn}
use Rattle.rinqebo_rules.specs.SetupRules.{AreKnownMore}
use Rattle.rinqebo_rules.proofs.unused.UsedRules.add_with_scripts.Goals as goal

or_none : {X : Type 0} (o : Option X) → option_or o None ≡ o
or_none None = refl
or_none (Some x) = refl

pub returns-clause-used : goal.returns-clause-used
returns-clause-used g c = λ tests mode of_overrides of_scripts of_profile are.
    let F = g.F.Filters in
    let profile = profile_meaning F.meaning c.args.profile.now in
    let query = query_in F.holds profile (test_view c.args.query.now) in
    let more = c.in_ok-more.ensures.known tests mode of_scripts of_profile are in
    c.add.ensures.used tests mode of_overrides
    (subst (AreKnownIn query profile.script_rules) (sym c.deref.ensures.value) (λ n rule stands. (more n rule stands).so))
    of_profile are

pub returns-clause-scripts : goal.returns-clause-scripts
returns-clause-scripts g c = λ tests mode of_scripts of_profile are.
    let F = g.F.Filters in
    let meaning = profile_meaning F.meaning c.args.profile.now in
    let query = query_in F.holds meaning (test_view c.args.query.now) in
    let more = c.in_ok-more.ensures.known tests mode of_scripts of_profile are in
    let scripts = meant_scripts F.meaning c.args.profile.now c.deref-2.result.now
    (ap (map evaluated_script_rule_view) c.deref-2.ensures.value ∙ c.rules-rules.ensures.script_rules) in
    let known = subst (AreKnownMore query meaning.script_rules c.args.script_rules.now) (sym c.deref-3.ensures.value) more in
    let Enabled : List (EvaluatedRule F.Meaning ScriptRuleUse) → Type 0 = λ rules.
    (id : Name) → is_one_of (map (λ id. script_text id.now) c.in_ok-setup.setup.items) id
    ≡ is_enabled_for query rules id in
    record {
      wrapper = c.run_wrapper_id.ensures ∙ of_profile.values at.RunWrapper
          ∙ or_none (option_and_then (λ r. r.writes.scripts.run_wrapper) (wrapping_rule query meaning.script_rules));
      enabled = subst Enabled scripts
          (c.in_ok-setup.ensures query c.args.script_rules.now
          (subst (λ rules. AreKnownMore query rules c.args.script_rules.now c.deref-3.result.now) (sym scripts) known));
    }

pub returns-clause-tally : goal.returns-clause-tally
returns-clause-tally g c = λ tests mode of_scripts of_profile are.
    let F = g.F.Filters in
    let meaning = profile_meaning F.meaning c.args.profile.now in
    let query = query_in F.holds meaning (test_view c.args.query.now) in
    let known = c.args.script_rules.now in
    let more = subst (AreKnownMore query meaning.script_rules known) (sym c.deref.ensures.value)
    (c.in_ok-more.ensures.known tests mode of_scripts of_profile are) in
    let beside = c.add.ensures.tally tests mode of_profile are in (
      g.F.Tally.Tally.numbers c.known_with_setup.new.tally,
      c.in_ok-more.ensures.tally tests mode of_profile are,
      (
        beside.0,
        beside.1,
        beside.2,
        beside.3,
        rising_more _ _ (length meaning.overrides) beside.1
            (unnamed_in query meaning c.args.self.now known tests c.deref.result.now more) beside.4,
      ),
    )
