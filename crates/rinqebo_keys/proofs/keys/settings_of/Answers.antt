use Rattle.std.proofs.Common.{◌≡◌, Global, List, Vec, ap, filter, refl, subst, sym, ◌∙◌}
use Rattle.std.proofs.lemmas.List.{take_all}
use Rattle.nextest_elements.specs.Settings.{settings}
use Rattle.nextest_elements.specs.declared.setting.Setting.{Setting}
use Rattle.rinqebo_keys.specs.Keys.{is_named_by}
use Rattle.rinqebo_keys.proofs.KeyLists.{filter_more, filter_same}
use Rattle.rinqebo_keys.proofs.keys.settings_of.Goals as goal
use Rattle.rinqebo_keys.proofs.keys.settings_of.Goals.{then-branch+in_ok-push, else-branch}

pub loop-setting-preserved : goal.loop-setting-preserved
unfolding settings
loop-setting-preserved c =
    let items : Vec Setting Global → List Setting = λ v. v.items in
    let passes = is_named_by c.args.key.now c.args.mode in
    elim c.if-branch.branch [
      | then-branch+in_ok-push w ↦ filter_more passes settings c.loop-setting.setting-index _ _
          c.loop-setting-test.true refl c.loop-setting.found.items c.if-branch.found.items
          c.loop-setting.invariant (sym c.in_ok-is_named_by.ensures ∙ w.if-branch.true)
          (ap items w.found-is ∙ w.in_ok-push.ensures.items)
      | else-branch w ↦ ap items w.found-is ∙ filter_same passes settings c.loop-setting.setting-index _ _
          c.loop-setting-test.true refl c.loop-setting.found.items c.loop-setting.invariant
          (sym c.in_ok-is_named_by.ensures ∙ w.if-branch.false)
    ]

pub returns : goal.returns
unfolding settings
returns c =
    subst (λ ss. c.loop-setting.found.items ≡ filter (is_named_by c.args.key.now c.args.mode) ss)
    (take_all c.loop-setting.setting-index settings c.loop-setting-test.false) c.loop-setting.invariant
