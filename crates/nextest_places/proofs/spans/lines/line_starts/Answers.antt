use Rattle.std.proofs.Common.{◌≡◌, [], ◌∷◌, ◌++◌, ◌∙◌, ◌+◌, ◌-◌, ◌<◌, arith, ap, length, subst, sym}
use Rattle.nextest_places.specs.declared.spans.position.ColumnUnit.TheVariants.{Byte}
use Rattle.nextest_places.proofs.spans.Lined.{Lined, lined_on, lined_start, lined_turn}
use Rattle.nextest_places.proofs.spans.Stepping.{step_fits, stepped}
use Rattle.nextest_places.proofs.spans.lines.line_starts.Goals.{then-step-at+in_ok-push-2, else-step-at}
use Rattle.nextest_places.proofs.spans.lines.line_starts.Goals as goal

pub places-init : goal.places-init
places-init c =
    let items : c.push.new.self.items ≡ 0 ∷ [] = c.in_ok-push.ensures.items ∙ ap (λ xs. xs ++ 0 ∷ []) c.new-starts.ensures.items in
    subst (λ xs. Lined c.args.text.now 0 (record { line = 0; column = 0 }) xs) (sym items) (lined_start c.args.text.now c.utf8.text)

pub next_step-requires : goal.next_step-requires
next_step-requires c =
    let fits = step_fits Byte c.args.text.now c.range_from.result.now c.places.at c.places.byte c.utf8.text c.places.invariant.place
    c.places.invariant.position c.range_from.ensures.value in
    omega (arith, fits)

pub overflow_add-byte : goal.overflow_add-byte
overflow_add-byte c =
    let step = stepped Byte c.args.text.now c.places.byte c.utf8.text c.places.invariant.place c.in-Some.ensures c.range_from.ensures.value
    c.places.invariant.position in
    omega (arith, step.within)

pub places-smaller : goal.places-smaller
places-smaller c =
    let step = stepped Byte c.args.text.now c.places.byte c.utf8.text c.places.invariant.place c.in-Some.ensures c.range_from.ensures.value
    c.places.invariant.position in
    let less : length c.args.text.now - (c.places.byte + c.in-Some.step.len) < length c.args.text.now - c.places.byte =
    omega (arith, step.some, step.within) in
    less

pub places-preserved : goal.places-preserved
places-preserved c =
    let step = stepped Byte c.args.text.now c.places.byte c.utf8.text c.places.invariant.place c.in-Some.ensures c.range_from.ensures.value
    c.places.invariant.position in
    elim c.if-step-at.branch [
      | then-step-at+in_ok-push-2 w ↦
          let turned = lined_turn c.args.text.now c.range_from.result.now c.places.byte c.places.at c.places.starts.items c.in-Some.step.len c.in-Some.step.next
          c.places.invariant c.in-Some.ensures step w.if-step-at.true in
          subst (λ xs. Lined c.args.text.now (c.places.byte + c.in-Some.step.len) c.in-Some.step.next xs)
          (sym (ap (λ v. v.items) w.starts-is ∙ w.in_ok-push-2.ensures.items)) turned
      | else-step-at w ↦
          subst (λ xs. Lined c.args.text.now (c.places.byte + c.in-Some.step.len) c.in-Some.step.next xs)
          (sym (ap (λ v. v.items) w.starts-is))
          (lined_on c.args.text.now c.places.byte c.places.at c.places.starts.items c.in-Some.step.len c.in-Some.step.next c.places.invariant step w.if-step-at.false)
    ]
