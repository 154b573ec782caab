use Rattle.std.proofs.Common.{◌≡◌, Bool, Global, List, Vec, ap, filter, refl, subst, sym, ◌∙◌}
use Rattle.std.proofs.lemmas.List.{take_all}
use Rattle.nextest_elements.specs.Settings.{settings}
use Rattle.nextest_settings.specs.Settings.{is_set}
use Rattle.nextest_settings.specs.View.{meant_override}
use Rattle.nextest_elements.specs.declared.setting.Setting.{Setting}
use Rattle.rinqebo_origins.proofs.RowsMore.{filter_more, filter_same}
use Rattle.rinqebo_rules.proofs.passed.written_by.Goals as goal
use Rattle.rinqebo_rules.proofs.passed.written_by.Goals.{then-writes+in_ok-push, else-writes}

pub loop-setting-preserved : goal.loop-setting-preserved
unfolding settings
loop-setting-preserved g c =
    let items : Vec Setting Global → List Setting = λ v. v.items in
    let passes : Setting → Bool =
    λ s. is_set (meant_override g.F.Filters.meaning c.args.rule.now).writes.settings c.args.mode s in
    elim c.if-writes.branch [
      | then-writes+in_ok-push w ↦ filter_more passes settings c.loop-setting.setting-index _ _
          c.loop-setting-test.true refl c.loop-setting.written.items c.if-writes.written.items
          c.loop-setting.invariant (sym c.writes.ensures ∙ w.if-writes.true)
          (ap items w.written-is ∙ w.in_ok-push.ensures.items)
      | else-writes w ↦ ap items w.written-is ∙ filter_same passes settings c.loop-setting.setting-index _ _
          c.loop-setting-test.true refl c.loop-setting.written.items c.loop-setting.invariant
          (sym c.writes.ensures ∙ w.if-writes.false)
    ]

pub returns : goal.returns
unfolding settings
returns g c =
    subst (λ ss. c.loop-setting.written.items
    ≡ filter (λ s. is_set (meant_override g.F.Filters.meaning c.args.rule.now).writes.settings c.args.mode s) ss)
    (take_all c.loop-setting.setting-index settings c.loop-setting-test.false) c.loop-setting.invariant
