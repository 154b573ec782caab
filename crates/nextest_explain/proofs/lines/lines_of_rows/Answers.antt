use Rattle.std.proofs.Common.{◌∙◌, ◌++◌, ap, string_bytes}
use Rattle.std.proofs.lemmas.List.{take_all}
use Rattle.std.specs.List.{flat_map}
use Rattle.nextest_config.specs.RowView.{row_view}
use Rattle.nextest_explain.specs.Lines.{row_lines}
use Rattle.nextest_explain.proofs.LineLists.{lines_more, lines_of_views}
use Rattle.nextest_explain.proofs.lines.lines_of_rows.Goals as goal

pub loop-row-preserved : goal.loop-row-preserved
loop-row-preserved c =
    lines_more (λ row. row_lines c.args.places (row_view row)) c.args.rows.now c.loop-row.row-index
    c.row-item.result _ c.loop-row-test.true c.row-item.is _ _ c.loop-row.invariant
    (c.in_ok-push_str.ensures.bytes
    ∙ ap (λ lines. string_bytes c.loop-row.text ++ lines) (c.as_str.ensures.value ∙ c.in_ok-row_lines.ensures))

pub returns : goal.returns
returns c =
    c.loop-row.invariant
    ∙ ap (flat_map (λ row. row_lines c.args.places (row_view row)))
    (take_all c.loop-row.row-index c.args.rows.now c.loop-row-test.false)
    ∙ lines_of_views (row_lines c.args.places) row_view c.args.rows.now
