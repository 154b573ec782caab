use Rattle.std.proofs.Common.{◌≡◌, map, option_map, subst, refl}
use Rattle.std.proofs.lemmas.List.{take_all}
use Rattle.nextest_elements.specs.Settings.{settings}
use Rattle.nextest_settings.specs.SettingsView.{origin_at}
use Rattle.nextest_config.specs.RowView.{origin_view}
use Rattle.nextest_config.proofs.AreRows.{sources_more}
use Rattle.nextest_config.proofs.run.row.sources.sources_of.Goals as goal

pub loop-setting-preserved : goal.loop-setting-preserved
unfolding settings
loop-setting-preserved g c =
    rw c.in_ok-push.ensures.items (
    sources_more (option_map origin_view) (origin_at c.args.test_settings.now) settings
    c.loop-setting.setting-index c.loop-setting.sources.items c.in_ok-source_at.field-0 _ _
    c.loop-setting-test.true refl c.loop-setting.invariant c.in_ok-source_at.ensures
    )

pub returns : goal.returns
unfolding settings
returns g c =
    subst (λ ss. map (option_map origin_view) c.loop-setting.sources.items
    ≡ map (origin_at c.args.test_settings.now) ss)
    (take_all c.loop-setting.setting-index settings c.loop-setting-test.false) c.loop-setting.invariant
