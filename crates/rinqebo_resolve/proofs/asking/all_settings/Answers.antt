use Rattle.std.proofs.Common.{◌∙◌, refl}
use Rattle.std.proofs.lemmas.List.{take_all}
use Rattle.nextest_elements.specs.Settings.{settings}
use Rattle.rinqebo_resolve.proofs.Taking.{one_more}
use Rattle.rinqebo_resolve.proofs.asking.all_settings.Goals as goal

pub loop-setting-preserved : goal.loop-setting-preserved
unfolding settings
loop-setting-preserved c =
    rw c.in_ok-push.ensures.items (
    one_more settings c.loop-setting.setting-index c.loop-setting.all.items _ _ c.loop-setting-test.true refl
    c.loop-setting.invariant
    )

pub returns : goal.returns
unfolding settings
returns c = c.loop-setting.invariant ∙ take_all c.loop-setting.setting-index settings c.loop-setting-test.false
