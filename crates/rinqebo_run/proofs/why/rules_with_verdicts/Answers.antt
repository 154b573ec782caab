use Rattle.std.proofs.Common.{◌≡◌, length, length-append, option_map}
use Rattle.std.proofs.lemmas.List.Elements.{All-push}
use Rattle.std.proofs.lemmas.Slice.Zip.{zip_turn, zip_end}
use Rattle.std.specs.Iterator.Adapters.{zip_first, zip_second}
use Rattle.std.specs.Slice.Iter.{iter_rest}
use Rattle.rinqebo_rules.specs.RuleViews.{setting_rule_view}
use Rattle.rinqebo_run.proofs.Pairs.{pair_more, pairs_all}
use Rattle.rinqebo_origins.specs.Origins.{key_steps}
use Rattle.rinqebo_results.specs.Reasons.{IsRuleAsWritten, IsRuleReported}
use Rattle.rinqebo_run.proofs.why.rules_with_verdicts.Goals as goal

pub loop-rule-preserved : goal.loop-rule-preserved
loop-rule-preserved c =
    let rules = c.args.rules.now in
    let verdicts = c.args.verdicts.now in
    let first : iter_rest (zip_first c.into_iter-rule-iterator.result) ≡ rules = cc in
    let second : iter_rest (zip_second c.into_iter-rule-iterator.result) ≡ verdicts = cc in
    let turn = zip_turn rules verdicts c.loop-rule.yielded c.into_iter-rule-iterator.result c.loop-rule.rule-iterator
    c.next.new.self c.next.result first second c.loop-rule.yielded_by _ c.in-Some.is c.next.ensures.steps in
    let key = c.args.key in
    record {
      told = pair_more (λ p. IsRuleReported c.args.layers.now (setting_rule_view p.0).writes p.0.answers p.1) rules verdicts
          (length c.loop-rule.yielded) _
          c.in-Some.rule.now c.in-Some.verdict.now c.loop-rule.reported.items _ c.in_ok-reported_rule.field-0 turn.0 turn.1
          (turn.2 _) (turn.3 _) (length-append c.loop-rule.yielded _) c.loop-rule.invariant.told
          c.in_ok-reported_rule.ensures.told c.in_ok-push.ensures.items;
      written = rw c.in_ok-push.ensures.items (All-push (IsRuleAsWritten c.args.layers.now
          (key_steps (option_map (λ table. table.now) key.table) key.key.now)) _ _ c.loop-rule.invariant.written
          c.in_ok-reported_rule.ensures.written);
    }

pub returns-clause-told : goal.returns-clause-told
returns-clause-told c =
    let rules = c.args.rules.now in
    let verdicts = c.args.verdicts.now in
    let first : iter_rest (zip_first c.into_iter-rule-iterator.result) ≡ rules = cc in
    let second : iter_rest (zip_second c.into_iter-rule-iterator.result) ≡ verdicts = cc in
    let all = zip_end rules verdicts c.loop-rule.yielded c.into_iter-rule-iterator.result c.loop-rule.rule-iterator
    c.next.new.self c.next.result first second c.loop-rule.yielded_by c.in-None.is c.next.ensures.steps in
    pairs_all (λ p. IsRuleReported c.args.layers.now (setting_rule_view p.0).writes p.0.answers p.1) rules verdicts
    (length c.loop-rule.yielded) c.loop-rule.reported.items all c.loop-rule.invariant.told

pub returns-clause-written : goal.returns-clause-written
returns-clause-written c = c.loop-rule.invariant.written
