use Rattle.std.proofs.Common.{◌≡◌, ◌∙◌, ap, arith, map, subst, sym}
use Rattle.nextest_sources.specs.Sources.{tool_file_view}
use Rattle.rinqebo_checks.specs.ReadAgain.{reading_view, tool_again}
use Rattle.rinqebo_checks.proofs.ReadAgain.{none_read, tool_not_read, tool_read, tools_read}
use Rattle.rinqebo_checks.proofs.edited_files.Reading.tools_of.Goals as goal

pub loop-index-init : goal.loop-index-init
loop-index-init c =
    none_read (reading_view c.args.self.now) c.args.layers.now c.args.tools.now c.new-read.result.items
    c.new-read.ensures.items

pub loop-index-preserved-then-contains : goal.loop-index-preserved-then-contains
loop-index-preserved-then-contains c =
    let reading = reading_view c.args.self.now in
    tool_not_read reading c.args.layers.now c.args.tools.now c.loop-index.index c.index-tools-index.result
    c.loop-index-test.true c.index-tools-index.is (map tool_file_view c.loop-index.read.items) _
    (ap reading.unread (sym c.saturating_sub-place.ensures) ∙ sym c.contains.ensures ∙ c.if-contains.true)
    c.loop-index.invariant

pub loop-index-preserved : goal.loop-index-preserved
loop-index-preserved c =
    let reading = reading_view c.args.self.now in
    tool_read reading c.args.layers.now c.args.tools.now c.loop-index.index c.index-tools-index.result
    c.loop-index-test.true c.index-tools-index.is c.loop-index.read.items c.push.new.self.items
    c.in_ok-tool_at.field-0 _
    (ap reading.unread (sym c.saturating_sub-place.ensures) ∙ sym c.contains.ensures ∙ c.if-contains.false)
    c.in_ok-push.ensures.items
    (subst
    (λ place. tool_file_view c.in_ok-tool_at.field-0
    ≡ tool_again reading c.args.layers.now place (tool_file_view c.index-tools-index.result))
    c.saturating_sub-place.ensures c.in_ok-tool_at.ensures)
    c.loop-index.invariant

pub returns : goal.returns
returns c =
    tools_read (reading_view c.args.self.now) c.args.layers.now c.args.tools.now c.loop-index.index
    (map tool_file_view c.loop-index.read.items) _ (omega arith) c.loop-index.invariant
