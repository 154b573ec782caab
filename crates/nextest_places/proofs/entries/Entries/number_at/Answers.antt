use Rattle.std.proofs.Common.{◌≡◌, ◌∙◌, ap, arith, length, subst, sym}
use Rattle.nextest_places.proofs.Along.{IsItsNumber, all_passed, element_missing, header_passed, header_there, header_within, key_missing, key_there, pair_there}
use Rattle.nextest_places.proofs.Branched.{at_first}
use Rattle.nextest_places.proofs.entries.Entries.number_at.Goals as goal
use Rattle.nextest_places.proofs.entries.Entries.number_at.Goals.{in-Key+in-Some, in-Position+in-Some-header+else-is_before+else-at-path}

pub loop-at-init : goal.loop-at-init
loop-at-init c =
    at_first c.args.self.now c.args.path.now c.self.inside.by_key c.number_from-pair.result
    (rw c.self.view_is at c.self.invariant) (rw c.deref.ensures.value at c.number_from-pair.ensures)

pub returns-in-None : goal.returns-in-None
returns-in-None c =
    key_missing c.args.self.now c.args.path.now c.loop-at.at _ c.loop-at.branch.now c.loop-at.from c.loop-at.pair
    c.loop-at-test.true c.loop-at.invariant c.in-Key.key c.in-Key.is (sym c.in-None.ensures.value)

pub returns-in-None-header : goal.returns-in-None-header
returns-in-None-header c =
    element_missing c.args.self.now c.args.path.now c.loop-at.at _ c.loop-at.branch.now c.loop-at.from c.loop-at.pair
    c.loop-at-test.true c.loop-at.invariant c.in-Position.position c.number_from-header.result c.in-Position.is
    (rw c.deref-in-Position.ensures.value at c.number_from-header.ensures) c.in-None-header.is

pub returns-then-is_before : goal.returns-then-is_before
returns-then-is_before c =
    pair_there c.args.self.now c.args.path.now c.loop-at.at _ c.loop-at.branch.now c.loop-at.from c.loop-at.pair
    c.loop-at-test.true c.loop-at.invariant c.in-Position.position c.number_from-header.result c.in-Some-header.element
    c.in-Position.is (rw c.deref-in-Position.ensures.value at c.number_from-header.ensures) c.in-Some-header.is
    (sym c.is_before.ensures ∙ c.if-is_before.true)

pub returns-then-at-path : goal.returns-then-at-path
returns-then-at-path c =
    header_there c.args.self.now c.args.path.now c.loop-at.at _ c.loop-at.branch.now c.loop-at.from c.loop-at.pair
    c.loop-at-test.true c.loop-at.invariant c.in-Position.position c.number_from-header.result c.in-Some-header.element
    c.in-Position.is (rw c.deref-in-Position.ensures.value at c.number_from-header.ensures) c.in-Some-header.is
    (sym c.is_before.ensures ∙ c.if-is_before.false) c.if-at-path.true

pub returns : goal.returns
returns c =
    subst (IsItsNumber c.args.self.now c.args.path.now) (sym c.earlier.ensures)
    (all_passed c.args.self.now c.args.path.now c.loop-at.at c.loop-at.branch.now c.loop-at.from c.loop-at.pair
    c.number_from-any.result c.loop-at-test.false c.loop-at.invariant
    (rw c.deref-2.ensures.value at c.number_from-any.ensures))

pub overflow_add-from : goal.overflow_add-from
overflow_add-from c =
    let within = header_within c.args.self.now c.args.path.now c.loop-at.at _ c.loop-at.branch.now c.loop-at.from
    c.loop-at.pair c.loop-at-test.true c.loop-at.invariant c.in-Position.position c.number_from-header.result
    c.in-Some-header.element c.in-Position.is (rw c.deref-in-Position.ensures.value at c.number_from-header.ensures)
    c.in-Some-header.is (sym c.is_before.ensures ∙ c.if-is_before.false) in
    let all = c.self.inside.all in
    let same : length all.items ≡ length c.args.self.now = ap length c.self.view_is in
    omega (arith, within, same, all.ok.0, all.ok.1, all.small)

pub loop-at-preserved : goal.loop-at-preserved
loop-at-preserved c =
    elim c.match-step.branch [
      | in-Key+in-Some w ↦
          rw (w.branch'-is, w.from-is, w.pair-is, w.earlier-pair.ensures) (
          key_there c.args.self.now c.args.path.now c.loop-at.at _ c.loop-at.branch.now c.loop-at.from c.loop-at.pair
          c.loop-at-test.true c.loop-at.invariant w.in-Key.key w.in-Some.next.now w.number_from-first.result w.in-Key.is
          (sym w.in-Some.ensures.value) (rw w.deref-in-Some.ensures.value at w.number_from-first.ensures)
          )
      | in-Position+in-Some-header+else-is_before+else-at-path w ↦
          rw (w.branch'-is, w.from-is, w.pair-is) (
          header_passed c.args.self.now c.args.path.now c.loop-at.at _ c.loop-at.branch.now c.loop-at.from
          c.loop-at.pair c.loop-at-test.true c.loop-at.invariant w.in-Position.position w.number_from-header.result
          w.in-Some-header.element w.in-Position.is
          (rw w.deref-in-Position.ensures.value at w.number_from-header.ensures) w.in-Some-header.is
          (sym w.is_before.ensures ∙ w.if-is_before.false) w.if-at-path.false
          )
    ]
