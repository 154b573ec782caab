use Rattle.std.proofs.Common.{◌≡◌, ◌∷◌, ◌++◌, ◌+◌, map, drop, sym, ap, ◌∙◌}
use Rattle.std.specs.BTreeSet.{contains_text}
use Rattle.std.specs.List.{filter_map}
use Rattle.std.proofs.lemmas.List.{drop_more}
use Rattle.nextest_sources.specs.Errors.{group_error_view}
use Rattle.nextest_rules.specs.Meaning.{override_meaning}
use Rattle.nextest_rules.specs.RuleFaults.{group_fault}
use Rattle.nextest_rules.specs.View.{override_rule_view}
use Rattle.nextest_rules.proofs.Listing.{option_more}
use Rattle.nextest_rules.proofs.groups.add_unknown.Goals as goal

pub loop-rule-preserved : goal.loop-rule-preserved
loop-rule-preserved g c =
    let known = contains_text c.args.known.now in
    let profile = c.args.profile.now in
    let rules = c.args.overrides.now in
    let i = c.loop-rule.rule-index in
    let rule = c.rule-item.result in
    let next : drop i rules ≡ rule ∷ drop (i + 1) rules =
    drop_more rules i rule c.loop-rule-test.true ∙ ap (λ x. x ∷ drop (i + 1) rules) (sym c.rule-item.is) in
    option_more group_error_view c.loop-rule.errors.items c.push_some.new.list.items
    c.in_ok-unknown_group.field-0 _ _ c.in_ok-push_some.ensures c.in_ok-unknown_group.ensures
    ∙ ap (λ rs. map group_error_view c.loop-rule.errors.items
    ++ filter_map (λ r. group_fault known profile r.writes.settings.test_group)
    (map (override_meaning g.F.Filters.meaning g.S.Specs.spec_meaning) (map override_rule_view rs))) (sym next)
    ∙ c.loop-rule.invariant
