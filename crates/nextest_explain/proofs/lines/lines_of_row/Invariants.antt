use Rattle.std.proofs.Common.{◌≡◌, take, string_bytes}
use Rattle.std.specs.List.{flat_map}
use Rattle.nextest_config.specs.RowView.{row_view}
use Rattle.nextest_elements.specs.Settings.{settings}
use Rattle.nextest_explain.specs.Lines.{line_of}
use Rattle.nextest_explain.proofs.lines.lines_of_row.Given as goal

-- the lines of the settings so far
abbrev pub invariant-loop-setting : goal.invariant-loop-setting
invariant-loop-setting l =
    string_bytes l.text ≡ flat_map (line_of l.places (row_view l.row)) (take l.setting-index settings)
