use Rattle.std.proofs.Common.{◌∙◌, List, Vec, Global, ap, map, refl}
use Rattle.nextest_engines.specs.Engines.{binary_view}
use Rattle.nextest_settings.specs.Profiles.Meaning.{profile_meaning}
use Rattle.nextest_settings.proofs.FilterMap.{filter_turn}
use Rattle.rinqebo_rules.specs.Scripts.{wrapper_at, wrapper_view}
use Rattle.rinqebo_rules.proofs.ScriptRules.{wrapper_given, wrapper_more, wrapper_none}
use Rattle.rinqebo_report.specs.declared.report.ListWrapper.{ListWrapper}
use Rattle.rinqebo_rules.proofs.scripts.list_wrappers.Goals as goal
use Rattle.rinqebo_rules.proofs.scripts.list_wrappers.Goals.{in-Some+in_ok-from_str+in_ok-from_str-2+in_ok-push, in_default}

pub loop-binary-preserved : goal.loop-binary-preserved
loop-binary-preserved g c =
    let F = g.F.Filters in
    let profile = profile_meaning F.meaning c.args.profile.now in
    let items : Vec ListWrapper Global → List ListWrapper = λ v. v.items in
    let old = c.loop-binary.wrappers in
    let new = c.match-wrapper_of.wrappers in
    let gives = wrapper_given F.holds_binary profile _ _ c.wrapper_of.ensures in
    filter_turn (wrapper_at F.holds_binary profile) binary_view c.args.binaries.now c.loop-binary.binary-index
    (map wrapper_view old.items) (map wrapper_view new.items) _ _ c.loop-binary.invariant c.loop-binary-test.true refl
    (elim c.match-wrapper_of.branch [
      | in-Some+in_ok-from_str+in_ok-from_str-2+in_ok-push w ↦ wrapper_more _ old.items new.items _ _ w.in-Some.id
          (record { binary = w.in_ok-from_str.field-0; value = w.in_ok-from_str-2.field-0 })
          (ap items w.wrappers-is ∙ w.in_ok-push.ensures.items) gives w.in-Some.is w.in_ok-from_str.ensures.ok
          (w.in_ok-from_str-2.ensures.ok ∙ w.as_str.ensures.text ∙ w.as_identifier.ensures)
      | in_default w ↦ wrapper_none _ old.items new.items _ _ (ap items w.wrappers-is) gives w.in_default.is
    ])
