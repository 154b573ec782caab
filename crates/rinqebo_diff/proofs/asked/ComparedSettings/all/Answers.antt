use Rattle.std.proofs.Common.{◌∙◌, refl, subst, sym}
use Rattle.std.proofs.lemmas.List.{take_all}
use Rattle.nextest_elements.specs.Settings.{settings}
use Rattle.rinqebo_changes.proofs.Zips.{taken_one}
use Rattle.rinqebo_diff.specs.Asked.{AreAll}
use Rattle.rinqebo_diff.proofs.asked.ComparedSettings.all.Goals as goal

pub loop-setting-preserved : goal.loop-setting-preserved
unfolding settings
loop-setting-preserved c =
    taken_one settings c.loop-setting.setting-index _ _ c.loop-setting-test.true refl _ _ c.loop-setting.invariant
    c.in_ok-push.ensures.items

pub returns : goal.returns
unfolding settings
returns c =
    subst AreAll (sym c.new.ensures)
    (refl, c.loop-setting.invariant ∙ take_all c.loop-setting.setting-index settings c.loop-setting-test.false)
