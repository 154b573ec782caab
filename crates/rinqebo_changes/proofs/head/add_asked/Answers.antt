use Rattle.std.proofs.Common.{◌≡◌, ◌∙◌, ◌++◌, string_bytes}
use Rattle.rinqebo_report.proofs.WholeTexts.{on_ok}
use Rattle.rinqebo_changes.specs.Heads.{asked_parts, both_runs, head_view}
use Rattle.rinqebo_report.specs.Pieces.{page_text}
use Rattle.rinqebo_changes.proofs.head.add_asked.Goals as goal

pub returns : goal.returns
returns c =
    let old = string_bytes c.args.out.now in
    let new = string_bytes c.add_both.new.out in
    let tint = c.args.paper.colour in
    let columns = c.args.paper.columns in
    on_ok c.add_both.result
    (new ≡ old ++ page_text tint (both_runs columns (head_view c.in_ok-from.from) (head_view c.in_ok-to.to)))
    (new ≡ old ++ page_text tint (both_runs columns (asked_parts c.args.from.now) (asked_parts c.args.to.now)))
    (λ written.
    written
    ∙ (λ i. old ++ page_text tint (both_runs columns (c.in_ok-from.ensures i) (c.in_ok-to.ensures i))))
    c.add_both.ensures
