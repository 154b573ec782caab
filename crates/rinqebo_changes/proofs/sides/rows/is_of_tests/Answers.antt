use Rattle.std.proofs.Common.{◌∙◌, codes, refl, sym}
use Rattle.nextest_elements.specs.Settings.{settings}
use Rattle.rinqebo_changes.specs.Sides.RunRows.{is_below, is_of_setting}
use Rattle.rinqebo_changes.proofs.sides.RunRows.{none_more, none_passes, some_passes}
use Rattle.rinqebo_changes.proofs.sides.rows.is_of_tests.Goals as goal

pub loop-setting-preserved : goal.loop-setting-preserved
unfolding settings
loop-setting-preserved c =
    none_more (is_of_setting c.args.key.now) settings c.loop-setting.setting-index _ _ c.loop-setting-test.true refl
    c.loop-setting.invariant (sym c.in_ok-is_of_setting.ensures ∙ c.if-branch.false)

pub returns-then-branch : goal.returns-then-branch
unfolding settings
returns-then-branch c =
    some_passes (is_of_setting c.args.key.now) settings c.loop-setting.setting-index _ _ c.loop-setting-test.true refl
    (sym c.in_ok-is_of_setting.ensures ∙ c.if-branch.true) (is_below c.args.key.now (codes "default-filter"))

pub returns : goal.returns
unfolding settings
returns c =
    c.is_below.ensures
    ∙ none_passes (is_of_setting c.args.key.now) settings c.loop-setting.setting-index c.loop-setting-test.false
    c.loop-setting.invariant (is_below c.args.key.now (codes "default-filter"))
