use Rattle.std.proofs.Common.{◌≡◌, take, string_bytes}
use Rattle.std.specs.List.{flat_map}
use Rattle.nextest_config.specs.RowView.{row_view}
use Rattle.nextest_explain.specs.Lines.{row_lines}
use Rattle.nextest_explain.proofs.lines.lines_of_rows.Given as goal

-- the lines of the rows so far
abbrev pub invariant-loop-row : goal.invariant-loop-row
invariant-loop-row l =
    string_bytes l.text ≡ flat_map (λ row. row_lines l.places (row_view row)) (take l.row-index l.rows)
