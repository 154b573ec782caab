use Rattle.std.proofs.Common.{◌∙◌, ap}
use Rattle.nextest_rules.specs.View.{override_rule_view}
use Rattle.nextest_settings.specs.SettingValues.{by_kind, setting_value_view}
use Rattle.nextest_settings.specs.Settings.{is_set}
use Rattle.rinqebo_rules.proofs.Passing.{some_alike}
use Rattle.rinqebo_rules.proofs.passed.writes.Goals as goal

pub returns : goal.returns
returns g c =
    c.is_some.ensures ∙ some_alike setting_value_view (by_kind c.args.setting) _ _ c.value.ensures
    ∙ ap (λ w. is_set w c.args.mode c.args.setting)
    (c.settings.ensures ∙ ap (λ r. (override_rule_view r.now).writes.settings) c.rule.ensures)
