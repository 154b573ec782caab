use Rattle.std.proofs.Common.{◌≡◌, ◌∙◌, ◌++◌, List, ap, codes, flat_map, string_bytes}
use Rattle.rinqebo_report.proofs.WholeTexts.{on_ok}
use Rattle.rinqebo_report.specs.declared.report.TestId.{TestId}
use Rattle.rinqebo_changes.specs.MarkdownPage.{alone_line, group_line, head_text, last_text, run_line, table_text}
use Rattle.rinqebo_changes.proofs.TextParts.{and_text}
use Rattle.rinqebo_changes.proofs.markdown_page.add_table.Goals as goal

pub returns : goal.returns
returns c =
    let diff = c.args.diff.now in
    let groups = flat_map (group_line diff c.args.lists_all) c.args.groups.now in
    let removed = alone_line (codes "removed") diff.removed.items in
    let added = alone_line (codes "added") diff.added.items in
    let runs = flat_map (run_line diff) diff.run.items in
    let last = last_text diff in
    on_ok c.add_last.result (string_bytes c.add_last.new.out ≡ string_bytes c.add_runs.new.out ++ last)
    (string_bytes c.add_last.new.out
    ≡ string_bytes c.args.out.now ++ table_text diff c.args.lists_all c.args.groups.now)
    (λ ended.
    and_text head_text (groups ++ (removed ++ (added ++ (runs ++ last)))) (string_bytes c.args.out.now)
    (string_bytes c.push_str.new.self) _ c.in_ok-push_str.ensures.bytes
    (and_text groups (removed ++ (added ++ (runs ++ last))) (string_bytes c.push_str.new.self)
    (string_bytes c.add_groups.new.out) _ c.in_ok-add_groups.ensures
    (and_text removed (added ++ (runs ++ last)) (string_bytes c.add_groups.new.out) (string_bytes c.add_alone.new.out) _
    (c.in_ok-add_alone.ensures
    ∙ ap (λ (tests : List TestId). string_bytes c.add_groups.new.out ++ alone_line (codes "removed") tests)
    c.deref.ensures.value)
    (and_text added (runs ++ last) (string_bytes c.add_alone.new.out) (string_bytes c.add_alone-2.new.out) _
    (c.in_ok-add_alone-2.ensures
    ∙ ap (λ (tests : List TestId). string_bytes c.add_alone.new.out ++ alone_line (codes "added") tests)
    c.deref-2.ensures.value)
    (and_text runs last (string_bytes c.add_alone-2.new.out) (string_bytes c.add_runs.new.out) _
    c.in_ok-add_runs.ensures ended)))))
    c.add_last.ensures
