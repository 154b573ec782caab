use Rattle.std.proofs.Common.{◌∙◌, ◌+◌, ◌++◌, drop, ap, sym, map, subst}
use Rattle.std.proofs.lemmas.List.{at_drop_all, at_drop_more}
use Rattle.nextest_tree.specs.View.{nodes_view, tree_view}
use Rattle.rinqebo_faults.specs.FileNamings.{Adds, rule_names, rules_names}
use Rattle.rinqebo_faults.specs.Repairs.{items_or_none}
use Rattle.rinqebo_faults.proofs.Named.{left_all, left_more, left_none}
use Rattle.rinqebo_faults.proofs.namings.add_profile.Goals as goal

pub loop-position-init : goal.loop-position-init
loop-position-init c = left_all _ _

pub loop-position-preserved : goal.loop-position-preserved
loop-position-preserved c =
    let l = c.loop-position in
    let rules = c.in-Some.rules.now in
    let profile = c.args.profile.now in
    let keys = map (λ k. k.now) c.args.keys.now in
    let rule = c.index-rules-position.result in
    left_more _ l.firsts c.add_rule.new.firsts
    (rule_names profile keys l.position (tree_view rule))
    (rules_names profile keys (l.position + 1) (nodes_view (drop (l.position + 1) rules))) _ _ l.invariant
    (at_drop_more (λ xs. rules_names profile keys l.position (nodes_view xs)) rules l.position rule c.loop-position-test.true
    ∙ ap (λ x. rule_names profile keys l.position (tree_view x)
    ++ rules_names profile keys (l.position + 1) (nodes_view (drop (l.position + 1) rules))) (sym c.index-rules-position.is))
    c.in_ok-add_rule.ensures

pub returns : goal.returns
returns c =
    let l = c.loop-position in
    let rules = c.in-Some.rules.now in
    let keys = map (λ k. k.now) c.args.keys.now in
    subst (λ found. Adds c.args.firsts.now l.firsts (rules_names c.args.profile.now keys 0 (items_or_none found)))
    c.in-Some.ensures
    (left_none _ l.firsts _ _ l.invariant
    (at_drop_all (λ xs. rules_names c.args.profile.now keys l.position (nodes_view xs)) rules l.position c.loop-position-test.false))
