use Rattle.std.proofs.Common.{◌∙◌, ap, refl}
use Rattle.std.proofs.lemmas.List.{take_all}
use Rattle.std.specs.List.{flat_map}
use Rattle.nextest_config.specs.RowView.{row_view}
use Rattle.nextest_elements.specs.Settings.{settings}
use Rattle.nextest_explain.specs.Lines.{line_of}
use Rattle.nextest_explain.proofs.LineLists.{lines_more}
use Rattle.nextest_explain.proofs.lines.lines_of_row.Goals as goal

pub loop-setting-preserved : goal.loop-setting-preserved
unfolding settings
loop-setting-preserved c =
    lines_more (line_of c.args.places (row_view c.args.row.now)) settings c.loop-setting.setting-index _ _
    c.loop-setting-test.true refl _ _ c.loop-setting.invariant c.in_ok-add_line.ensures

pub returns : goal.returns
unfolding settings
returns c =
    c.loop-setting.invariant ∙ ap (flat_map (line_of c.args.places (row_view c.args.row.now)))
    (take_all c.loop-setting.setting-index settings c.loop-setting-test.false)
