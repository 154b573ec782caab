use Rattle.std.proofs.Common.{◌≡◌, ◌∙◌, Some, ap, arith, map, slice_get, sym}
use Rattle.std.proofs.lemmas.Bool.{true≢false}
use Rattle.std.proofs.lemmas.List.{length-map}
use Rattle.nextest_rules.specs.View.{id_view, override_rule_view}
use Rattle.nextest_settings.specs.View.{meant_override}
use Rattle.rinqebo_rules.proofs.Marked.{mapped_at}
use Rattle.rinqebo_rules.proofs.Passing.{none_more, place_behind, place_found}
use Rattle.rinqebo_rules.proofs.passed.place_of_id.Goals as goal

pub loop-number-preserved : goal.loop-number-preserved
loop-number-preserved g c =
    let meant = meant_override g.F.Filters.meaning in
    let rules = map meant c.args.rules.now in
    let n = c.loop-number.number in
    let rule = c.index-rules-number.result in
    let stands : slice_get rules n ≡ Some (meant rule) =
    mapped_at meant c.args.rules.now n _ _ c.loop-number-test.true c.index-rules-number.is in
    none_more (λ w. w.id) (id_view c.args.id.now) rules n (meant rule) stands
    (λ same. true≢false (sym (c.is_same_override.ensures.1
    (c.id.ensures ∙ ap (λ r. (override_rule_view r.now).writes.id) c.rule.ensures ∙ same)) ∙ c.if-is_same_override.false))
    c.loop-number.invariant

pub returns-then-is_same_override : goal.returns-then-is_same_override
returns-then-is_same_override g c =
    let meant = meant_override g.F.Filters.meaning in
    let rules = map meant c.args.rules.now in
    let n = c.loop-number.number in
    let rule = c.index-rules-number.result in
    let stands : slice_get rules n ≡ Some (meant rule) =
    mapped_at meant c.args.rules.now n _ _ c.loop-number-test.true c.index-rules-number.is in
    place_found (λ w. w.id) (id_view c.args.id.now) rules n (meant rule) stands
    (sym (c.id.ensures ∙ ap (λ r. (override_rule_view r.now).writes.id) c.rule.ensures)
    ∙ c.is_same_override.ensures.0 c.if-is_same_override.true)
    c.loop-number.invariant

pub returns : goal.returns
returns g c =
    let rules = map (meant_override g.F.Filters.meaning) c.args.rules.now in
    let count = length-map c.args.rules.now (meant_override g.F.Filters.meaning) in
    place_behind (λ w. w.id) (id_view c.args.id.now) rules _ (omega (arith, count))
    (λ n rule below stands. c.loop-number.invariant n rule (omega (arith, c.loop-number-test.false, below, count)) stands)
