use Rattle.std.proofs.Common.{rules, ◌≡◌, ◌∙◌, ◌++◌, ◌∷◌, [], Bor, Global, List, Some, Vec, ap, false, map, slice_get, subst, sym, true}
use Rattle.std.proofs.lemmas.List.{map-append}
use Rattle.nextest_rules.specs.Rules.{RuleId}
use Rattle.nextest_rules.specs.View.{id_view, override_rule_view}
use Rattle.nextest_rules.specs.declared.overrides.OverrideId.{OverrideId}
use Rattle.nextest_settings.specs.View.{meant_override}
use Rattle.rinqebo_rules.proofs.Marked.{all_mapped, mapped_at, unused_more, unused_same}
use Rattle.rinqebo_rules.specs.Unused.{unused_among}
use Rattle.rinqebo_rules.proofs.unused.unmarked_overrides.Goals as goal
use Rattle.rinqebo_rules.proofs.unused.unmarked_overrides.Goals.{then-not-is_marked+in_ok-push, else-not-is_marked}

pub loop-number-preserved : goal.loop-number-preserved
loop-number-preserved g c = λ tests are.
    let meant = meant_override g.F.Filters.meaning in
    let all = map meant c.args.rules.now in
    let n = c.loop-number.number in
    let rule = meant c.index-rules-number.result in
    let view : Bor OverrideId → RuleId = λ id. id_view id.now in
    let views : Vec (Bor OverrideId) Global → List RuleId = λ ids. map view ids.items in
    let stands : slice_get all n ≡ Some rule =
    mapped_at meant c.args.rules.now n _ _ c.loop-number-test.true c.index-rules-number.is in
    let so_far = c.loop-number.invariant tests are in
    elim c.if-not-is_marked.branch [
      | then-not-is_marked+in_ok-push w ↦
          let fails : c.is_marked.result ≡ false = search rules in
          unused_more tests all n rule (λ u. u.id) stands c.args.used.now are (views c.loop-number.ids) _ so_far
          (sym c.is_marked.ensures ∙ fails)
          (ap views w.ids-is ∙ ap (map view) w.in_ok-push.ensures.items
          ∙ map-append view c.loop-number.ids.items (w.id.result ∷ [])
          ∙ ap (λ id. views c.loop-number.ids ++ id ∷ [])
          (w.id.ensures ∙ ap (λ r. (override_rule_view r.now).writes.id) w.rule.ensures))
      | else-not-is_marked w ↦
          let holds : c.is_marked.result ≡ true = search rules in
          ap views w.ids-is
          ∙ unused_same tests all n rule (λ u. u.id) stands c.args.used.now are (views c.loop-number.ids) so_far
          (sym c.is_marked.ensures ∙ holds)
    ]

pub returns : goal.returns
returns g c = λ tests are.
    subst (λ some. map (λ id. id_view id.now) c.loop-number.ids.items
    ≡ map (λ rule. rule.writes.id) (unused_among tests some))
    (all_mapped (meant_override g.F.Filters.meaning) c.args.rules.now c.loop-number.number c.loop-number-test.false)
    (c.loop-number.invariant tests are)
