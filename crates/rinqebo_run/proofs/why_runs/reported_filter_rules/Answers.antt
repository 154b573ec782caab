use Rattle.std.proofs.Common.{◌≡◌, length, length-append}
use Rattle.std.proofs.lemmas.Slice.Zip.{zip_turn, zip_end}
use Rattle.std.specs.Iterator.Adapters.{zip_first, zip_second}
use Rattle.std.specs.Slice.Iter.{iter_rest}
use Rattle.rinqebo_rules.specs.FilterRules.{filter_rule_view}
use Rattle.rinqebo_run.proofs.Pairs.{pair_more, pairs_all}
use Rattle.rinqebo_results.specs.RunsReasons.{IsFilterRuleReported}
use Rattle.rinqebo_run.proofs.why_runs.reported_filter_rules.Goals as goal

pub loop-rule-preserved : goal.loop-rule-preserved
loop-rule-preserved c =
    let rules = c.args.rules.now in
    let verdicts = c.args.verdicts.now in
    let first : iter_rest (zip_first c.into_iter-rule-iterator.result) ≡ rules = cc in
    let second : iter_rest (zip_second c.into_iter-rule-iterator.result) ≡ verdicts = cc in
    let turn = zip_turn rules verdicts c.loop-rule.yielded c.into_iter-rule-iterator.result c.loop-rule.rule-iterator
    c.next.new.self c.next.result first second c.loop-rule.yielded_by _ c.in-Some.is c.next.ensures.steps in
    pair_more (λ p. IsFilterRuleReported c.args.layers.now c.args.matches (filter_rule_view p.0) p.1) rules verdicts
    (length c.loop-rule.yielded) _
    c.in-Some.rule.now c.in-Some.verdict.now c.loop-rule.reported.items _ c.in_ok-reported_filter_rule.field-0 turn.0 turn.1
    (turn.2 _) (turn.3 _) (length-append c.loop-rule.yielded _) c.loop-rule.invariant c.in_ok-reported_filter_rule.ensures
    c.in_ok-push.ensures.items

pub returns : goal.returns
returns c =
    let rules = c.args.rules.now in
    let verdicts = c.args.verdicts.now in
    let first : iter_rest (zip_first c.into_iter-rule-iterator.result) ≡ rules = cc in
    let second : iter_rest (zip_second c.into_iter-rule-iterator.result) ≡ verdicts = cc in
    let all = zip_end rules verdicts c.loop-rule.yielded c.into_iter-rule-iterator.result c.loop-rule.rule-iterator
    c.next.new.self c.next.result first second c.loop-rule.yielded_by c.in-None.is c.next.ensures.steps in
    pairs_all (λ p. IsFilterRuleReported c.args.layers.now c.args.matches (filter_rule_view p.0) p.1) rules verdicts
    (length c.loop-rule.yielded) c.loop-rule.reported.items all c.loop-rule.invariant
