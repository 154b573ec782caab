use Rattle.std.proofs.Common.{◌≡◌, ◌∷◌, ◌+◌, map, drop, refl, sym, ap, ◌∙◌}
use Rattle.std.proofs.lemmas.List.{drop_more, drop_all}
use Rattle.nextest_sources.specs.Causes.{ScriptFaults}
use Rattle.nextest_sources.specs.Errors.{list_filter_view, script_errors_view}
use Rattle.nextest_rules.specs.KnownView.{known_view}
use Rattle.nextest_rules.specs.Meaning.{script_rule_meaning}
use Rattle.nextest_rules.specs.RuleFaults.{list_filters_of, rule_script_faults, unknown_scripts_of, uses_of, wrong_scripts_of}
use Rattle.nextest_rules.specs.View.{script_rule_view}
use Rattle.nextest_rules.proofs.Joining.{are_joined, part_more, all_there}
use Rattle.nextest_rules.proofs.Listing.{list_more}
use Rattle.nextest_rules.proofs.scripts.add_rules.Goals as goal

pub loop-rule-init : goal.loop-rule-init
loop-rule-init g c = are_joined (script_errors_view c.args.errors.now) _

pub loop-rule-preserved : goal.loop-rule-preserved
loop-rule-preserved g c =
    let leaves = g.F.Filters.leaves in
    let known = known_view c.args.known.now in
    let profile = c.args.profile.now in
    let rules = c.args.rules.now in
    let i = c.loop-rule.rule-index in
    let rule = c.rule-item.result in
    let r = script_rule_meaning g.F.Filters.meaning g.S.Specs.spec_meaning (script_rule_view rule) in
    let left = map (script_rule_meaning g.F.Filters.meaning g.S.Specs.spec_meaning)
    (map script_rule_view (drop (i + 1) rules)) in
    let next : drop i rules ≡ rule ∷ drop (i + 1) rules =
    drop_more rules i rule c.loop-rule-test.true ∙ ap (λ x. x ∷ drop (i + 1) rules) (sym c.rule-item.is) in
    let one : ScriptFaults = record {
      unknown_scripts = unknown_scripts_of known profile (uses_of r.writes.scripts);
      wrong_scripts = wrong_scripts_of known profile (uses_of r.writes.scripts);
      list_filters = list_filters_of leaves known profile r;
    } in
    let old = c.loop-rule.errors in
    let mid = c.add_uses.new.errors in
    let new = c.push_some.new.list in
    let used = c.in_ok-add_uses.ensures in
    part_more (script_errors_view old) one _ (rule_script_faults leaves known profile left)
    (rule_script_faults leaves known profile (r ∷ left)) _
    (record {
      unknown = used.unknown;
      wrong = used.wrong;
      lists = list_more list_filter_view old.list_scripts_using_run_filters.items
          mid.list_scripts_using_run_filters.items new.items c.in_ok-error.error _ used.lists
          c.in_ok-push_some.ensures c.in_ok-error.ensures;
    })
    (record { unknown = refl; wrong = refl; lists = refl })
    (rw next at c.loop-rule.invariant)

pub returns : goal.returns
returns g c =
    let none = drop_all c.loop-rule.rule-index c.args.rules.now c.loop-rule-test.false in
    all_there _ _ _ (rw none at c.loop-rule.invariant)
