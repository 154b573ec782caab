use Rattle.std.proofs.Common.{◌≡◌, ◌∙◌, ◌++◌, List, ap, codes, flat_map, length, string_bytes}
use Rattle.rinqebo_report.proofs.Pages.{and_runs}
use Rattle.rinqebo_report.proofs.WholeTexts.{on_ok}
use Rattle.rinqebo_report.specs.Pieces.{page_text}
use Rattle.rinqebo_report.specs.declared.report.TestId.{TestId}
use Rattle.rinqebo_changes.specs.Heads.{head_runs}
use Rattle.rinqebo_changes.specs.Pages.{count_runs, diff_runs, group_runs, listed_runs, run_runs}
use Rattle.rinqebo_changes.proofs.text_page.add_page.Goals as goal

pub returns : goal.returns
returns c =
    let tint = c.args.paper.colour in
    let columns = c.args.paper.columns in
    let diff = c.args.diff.now in
    let groups = flat_map (group_runs columns diff c.args.lists_all) c.args.groups.now in
    let removed = listed_runs (codes "removed:") diff.removed.items in
    let added = listed_runs (codes "added:") diff.added.items in
    let run = run_runs columns diff in
    let count = count_runs (length diff.changed.items) diff.compared in
    on_ok c.add_count.result
    (string_bytes c.add_count.new.out ≡ string_bytes c.add_run.new.out
    ++ page_text tint (count_runs c.changed_count.result diff.compared))
    (string_bytes c.add_count.new.out ≡ string_bytes c.args.out.now
    ++ page_text tint (diff_runs columns diff c.args.lists_all c.args.groups.now))
    (λ ended.
    and_runs tint (head_runs columns diff) (groups ++ (removed ++ (added ++ (run ++ count)))) _ _ _ c.in_ok-add_head.ensures
    (and_runs tint groups (removed ++ (added ++ (run ++ count))) _ _ _ c.in_ok-add_groups.ensures
    (and_runs tint removed (added ++ (run ++ count)) _ _ _
    (c.in_ok-add_listed.ensures
    ∙ ap (λ (tests : List TestId). string_bytes c.add_groups.new.out ++ page_text tint (listed_runs (codes "removed:") tests))
    c.deref.ensures.value)
    (and_runs tint added (run ++ count) _ _ _
    (c.in_ok-add_listed-2.ensures
    ∙ ap (λ (tests : List TestId). string_bytes c.add_listed.new.out ++ page_text tint (listed_runs (codes "added:") tests))
    c.deref-2.ensures.value)
    (and_runs tint run count _ _ _ c.in_ok-add_run.ensures
    (ended
    ∙ ap (λ n. string_bytes c.add_run.new.out ++ page_text tint (count_runs n diff.compared)) c.changed_count.ensures))))))
    c.add_count.ensures
