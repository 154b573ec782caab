use Rattle.std.proofs.Common.{◌≡◌, Bool, Global, List, Vec, ap, filter, refl, subst, sym, ◌∙◌}
use Rattle.std.proofs.lemmas.List.{take_all}
use Rattle.nextest_elements.specs.Settings.{settings}
use Rattle.nextest_settings.specs.SettingsView.{origin_at}
use Rattle.nextest_elements.specs.declared.setting.Setting.{Setting}
use Rattle.rinqebo_origins.specs.Settings.{is_by_rule}
use Rattle.rinqebo_origins.proofs.RowsMore.{filter_more, filter_same}
use Rattle.rinqebo_rules.proofs.rows.decided_settings.Goals as goal
use Rattle.rinqebo_rules.proofs.rows.decided_settings.Goals.{then-is_by_rule+in_ok-push, else-is_by_rule}

pub loop-setting-preserved : goal.loop-setting-preserved
unfolding settings
loop-setting-preserved g c =
    let items : Vec Setting Global → List Setting = λ v. v.items in
    let passes : Setting → Bool = λ s. is_by_rule (origin_at c.args.settings.now s) in
    elim c.if-is_by_rule.branch [
      | then-is_by_rule+in_ok-push w ↦ filter_more passes settings c.loop-setting.setting-index _ _
          c.loop-setting-test.true refl c.loop-setting.decided.items c.if-is_by_rule.decided.items
          c.loop-setting.invariant (sym c.is_by_rule.ensures ∙ w.if-is_by_rule.true)
          (ap items w.decided-is ∙ w.in_ok-push.ensures.items)
      | else-is_by_rule w ↦ ap items w.decided-is ∙ filter_same passes settings c.loop-setting.setting-index _ _
          c.loop-setting-test.true refl c.loop-setting.decided.items c.loop-setting.invariant
          (sym c.is_by_rule.ensures ∙ w.if-is_by_rule.false)
    ]

pub returns : goal.returns
unfolding settings
returns g c =
    subst (λ ss. c.loop-setting.decided.items ≡ filter (λ s. is_by_rule (origin_at c.args.settings.now s)) ss)
    (take_all c.loop-setting.setting-index settings c.loop-setting-test.false) c.loop-setting.invariant
