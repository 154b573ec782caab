use Rattle.std.proofs.Common.{◌+◌, drop, map}
use Rattle.std.proofs.lemmas.List.{at_drop_all, at_drop_more}
use Rattle.nextest_tree.specs.View.{tree_view}
use Rattle.rinqebo_faults.specs.FileNamings.{rule_names}
use Rattle.rinqebo_faults.proofs.Named.{left_all, left_more, left_none}
use Rattle.rinqebo_faults.proofs.namings.add_rule.Goals as goal

pub loop-key-init : goal.loop-key-init
loop-key-init c = left_all _ _

pub loop-key-preserved : goal.loop-key-preserved
loop-key-preserved c =
    let l = c.loop-key in
    let keys = c.args.keys.now in
    let profile = c.args.profile.now in
    let rule = tree_view c.args.rule.now in
    left_more _ l.firsts c.add_key.new.firsts _
    (rule_names profile (map (λ k. k.now) (drop (l.key-index + 1) keys)) c.args.position rule) _ _ l.invariant
    (at_drop_more (λ ks. rule_names profile (map (λ k. k.now) ks) c.args.position rule) keys l.key-index _ c.loop-key-test.true)
    c.in_ok-add_key.ensures

pub returns : goal.returns
returns c =
    let l = c.loop-key in
    left_none _ l.firsts _ _ l.invariant
    (at_drop_all (λ ks. rule_names c.args.profile.now (map (λ k. k.now) ks) c.args.position (tree_view c.args.rule.now))
    c.args.keys.now l.key-index c.loop-key-test.false)
