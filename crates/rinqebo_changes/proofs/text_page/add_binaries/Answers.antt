use Rattle.std.proofs.Common.{◌∙◌, ◌++◌, ap, string_bytes}
use Rattle.rinqebo_report.proofs.Pages.{page_more}
use Rattle.rinqebo_report.specs.Pieces.{page_text}
use Rattle.rinqebo_changes.specs.Pages.{binary_runs}
use Rattle.rinqebo_changes.proofs.text_page.add_binaries.Goals as goal

pub loop-binary-preserved : goal.loop-binary-preserved
loop-binary-preserved c =
    let all = c.args.diff.now.binaries.items in
    let old = string_bytes c.loop-binary.out in
    page_more c.args.colour (λ class. binary_runs all c.args.lists_all class.items.items) c.args.binaries.now
    c.loop-binary.binary-index c.binary-item.result c.loop-binary-test.true c.binary-item.is _ old _
    c.loop-binary.invariant
    (c.in_ok-add_binary.ensures
    ∙ ap (λ items. old ++ page_text c.args.colour (binary_runs all c.args.lists_all items)) c.deref.ensures.value)
