use Rattle.std.proofs.Common.{◌∙◌, map, sym}
use Rattle.nextest_scripts.specs.ScriptId.{script_text}
use Rattle.nextest_settings.specs.Queries.{is_enabled_for}
use Rattle.nextest_settings.specs.View.{meant_script_rule}
use Rattle.rinqebo_diff.proofs.Judging.{some_behind_it, some_here}
use Rattle.rinqebo_diff.proofs.list_scripts.is_enabled_by_some.Goals as goal

pub loop-binary-preserved : goal.loop-binary-preserved
loop-binary-preserved g c =
    let F = g.F.Filters in
    let rules = map (meant_script_rule F.meaning) c.args.rules.now in
    some_behind_it F.holds (F.meaning c.args.cx.now.default_filter.now)
    (λ query. is_enabled_for query rules (script_text c.args.id.now)) c.args.binaries.now c.loop-binary.binary-index
    c.binary-item.result c.binary-item.result c.loop-binary-test.true c.binary-item.is
    (sym c.is_enabled_in.ensures ∙ c.if-is_enabled_in.false)
    ∙ c.loop-binary.invariant

pub returns-then-is_enabled_in : goal.returns-then-is_enabled_in
returns-then-is_enabled_in g c =
    let F = g.F.Filters in
    let rules = map (meant_script_rule F.meaning) c.args.rules.now in
    sym (some_here F.holds (F.meaning c.args.cx.now.default_filter.now)
    (λ query. is_enabled_for query rules (script_text c.args.id.now)) c.args.binaries.now c.loop-binary.binary-index
    c.binary-item.result c.binary-item.result c.loop-binary-test.true c.binary-item.is
    (sym c.is_enabled_in.ensures ∙ c.if-is_enabled_in.true))
    ∙ c.loop-binary.invariant
