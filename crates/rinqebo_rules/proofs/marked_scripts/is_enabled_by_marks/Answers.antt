use Rattle.std.proofs.Common.{◌≡◌, ◌∙◌, Some, ap, map, slice_get, sym}
use Rattle.std.specs.List.{list_any}
use Rattle.nextest_scripts.specs.ScriptId.{script_text}
use Rattle.nextest_settings.specs.View.{meant_script_rule}
use Rattle.rinqebo_rules.proofs.Enabling.{by_mark, enabled_alike, enabled_here, is_used_for, not_enabled_more}
use Rattle.rinqebo_rules.proofs.Marked.{all_mapped, mapped_at}
use Rattle.rinqebo_rules.proofs.marked_scripts.is_enabled_by_marks.Goals as goal

pub returns-then-is_marked_for : goal.returns-then-is_marked_for
returns-then-is_marked_for g c = λ tests are.
    let meant = meant_script_rule g.F.Filters.meaning in
    let rules = map meant c.args.rules.now in
    let n = c.loop-number.number in
    let rule = meant c.index-rules-number.result in
    let id = script_text c.args.id.now in
    let stands : slice_get rules n ≡ Some rule =
    mapped_at meant c.args.rules.now n _ _ c.loop-number-test.true c.index-rules-number.is in
    sym (enabled_here tests id rules n rule stands
    (by_mark tests id rules n rule c.args.marks.now are stands _ _ c.is_marked_for.ensures c.if-is_marked_for.true))

pub loop-number-preserved : goal.loop-number-preserved
loop-number-preserved g c = λ tests are.
    let meant = meant_script_rule g.F.Filters.meaning in
    let rules = map meant c.args.rules.now in
    let n = c.loop-number.number in
    let rule = meant c.index-rules-number.result in
    let id = script_text c.args.id.now in
    let stands : slice_get rules n ≡ Some rule =
    mapped_at meant c.args.rules.now n _ _ c.loop-number-test.true c.index-rules-number.is in
    not_enabled_more tests id rules n rule stands
    (by_mark tests id rules n rule c.args.marks.now are stands _ _ c.is_marked_for.ensures c.if-is_marked_for.false)
    (c.loop-number.invariant tests are)

pub returns : goal.returns
returns g c = λ tests are.
    let meant = meant_script_rule g.F.Filters.meaning in
    let rules = map meant c.args.rules.now in
    let id = script_text c.args.id.now in
    sym (c.loop-number.invariant tests are)
    ∙ ap (list_any (is_used_for tests id))
    (all_mapped meant c.args.rules.now c.loop-number.number c.loop-number-test.false)
    ∙ enabled_alike tests id rules
