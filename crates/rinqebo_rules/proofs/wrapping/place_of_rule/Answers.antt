use Rattle.std.proofs.Common.{◌≡◌, ◌∙◌, Some, ap, arith, map, slice_get, sym}
use Rattle.std.proofs.lemmas.Bool.{true≢false}
use Rattle.std.proofs.lemmas.List.{length-map}
use Rattle.nextest_rules.specs.View.{script_rule_id_view, script_rule_view}
use Rattle.nextest_settings.specs.View.{meant_script_rule}
use Rattle.rinqebo_rules.proofs.Marked.{mapped_at}
use Rattle.rinqebo_rules.proofs.Passing.{none_more, place_behind, place_found}
use Rattle.rinqebo_rules.proofs.wrapping.place_of_rule.Goals as goal

pub loop-number-preserved : goal.loop-number-preserved
loop-number-preserved g c =
    let meant = meant_script_rule g.F.Filters.meaning in
    let rules = map meant c.args.rules.now in
    let n = c.loop-number.number in
    let rule = c.index-rules-number.result in
    let stands : slice_get rules n ≡ Some (meant rule) =
    mapped_at meant c.args.rules.now n _ _ c.loop-number-test.true c.index-rules-number.is in
    none_more (λ w. w.id) (script_rule_id_view c.args.id.now) rules n (meant rule) stands
    (λ same. true≢false (sym (c.is_same_script_rule.ensures.1
    (c.id.ensures ∙ ap (λ r. (script_rule_view r.now).writes.id) c.rule.ensures ∙ same)) ∙ c.if-is_same_script_rule.false))
    c.loop-number.invariant

pub returns-then-is_same_script_rule : goal.returns-then-is_same_script_rule
returns-then-is_same_script_rule g c =
    let meant = meant_script_rule g.F.Filters.meaning in
    let rules = map meant c.args.rules.now in
    let n = c.loop-number.number in
    let rule = c.index-rules-number.result in
    let stands : slice_get rules n ≡ Some (meant rule) =
    mapped_at meant c.args.rules.now n _ _ c.loop-number-test.true c.index-rules-number.is in
    place_found (λ w. w.id) (script_rule_id_view c.args.id.now) rules n (meant rule) stands
    (sym (c.id.ensures ∙ ap (λ r. (script_rule_view r.now).writes.id) c.rule.ensures)
    ∙ c.is_same_script_rule.ensures.0 c.if-is_same_script_rule.true)
    c.loop-number.invariant

pub returns : goal.returns
returns g c =
    let rules = map (meant_script_rule g.F.Filters.meaning) c.args.rules.now in
    let count = length-map c.args.rules.now (meant_script_rule g.F.Filters.meaning) in
    place_behind (λ w. w.id) (script_rule_id_view c.args.id.now) rules _ (omega (arith, count))
    (λ n rule below stands. c.loop-number.invariant n rule (omega (arith, c.loop-number-test.false, below, count)) stands)
