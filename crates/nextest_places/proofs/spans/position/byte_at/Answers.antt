use Rattle.std.proofs.Common.{◌∙◌, ◌+◌, ◌-◌, ◌<◌, arith, length, sym}
use Rattle.std.proofs.lemmas.Bool.{true≢false}
use Rattle.nextest_places.specs.Spans.Positions.{IsByteAt}
use Rattle.nextest_places.proofs.spans.Stepping.{byte_again, start_place, start_position, start_reached, step_fits, stepped, stops, stops_at_end}
use Rattle.nextest_places.proofs.spans.position.byte_at.Goals as goal

pub places-init : goal.places-init
places-init c = (
  start_place c.args.text.now c.utf8.text,
  sym (start_position c.args.unit c.args.text.now),
  start_reached c.args.position,
)

pub next_step-requires : goal.next_step-requires
next_step-requires c =
    let fits = step_fits c.args.unit c.args.text.now c.range_from.result.now c.places.at c.places.byte c.utf8.text c.places.invariant.0
    c.places.invariant.1 c.range_from.ensures.value in
    omega (arith, fits)

pub returns-then-is_before-clause-last : goal.returns-then-is_before-clause-last
returns-then-is_before-clause-last c =
    stops c.args.unit c.args.text.now c.args.position c.places.at c.places.byte c.in-Some.step.len c.in-Some.step.next c.utf8.text c.places.invariant.0
    c.places.invariant.1 c.places.invariant.2
    (stepped c.args.unit c.args.text.now c.places.byte c.utf8.text c.places.invariant.0 c.in-Some.ensures c.range_from.ensures.value c.places.invariant.1)
    (c.is_before.ensures.0 c.if-is_before.true)

pub returns-then-is_before-clause-inverse : goal.returns-then-is_before-clause-inverse
returns-then-is_before-clause-inverse c =
    let last : IsByteAt c.args.unit c.args.text.now c.args.position c.places.byte =
    stops c.args.unit c.args.text.now c.args.position c.places.at c.places.byte c.in-Some.step.len c.in-Some.step.next c.utf8.text c.places.invariant.0
    c.places.invariant.1 c.places.invariant.2
    (stepped c.args.unit c.args.text.now c.places.byte c.utf8.text c.places.invariant.0 c.in-Some.ensures c.range_from.ensures.value c.places.invariant.1)
    (c.is_before.ensures.0 c.if-is_before.true) in
    byte_again c.args.unit c.args.text.now c.args.position c.places.byte c.utf8.text last

pub overflow_add-byte : goal.overflow_add-byte
overflow_add-byte c =
    let step = stepped c.args.unit c.args.text.now c.places.byte c.utf8.text c.places.invariant.0 c.in-Some.ensures c.range_from.ensures.value
    c.places.invariant.1 in
    omega (arith, step.within)

pub places-smaller : goal.places-smaller
places-smaller c =
    let step = stepped c.args.unit c.args.text.now c.places.byte c.utf8.text c.places.invariant.0 c.in-Some.ensures c.range_from.ensures.value
    c.places.invariant.1 in
    let less : length c.args.text.now - (c.places.byte + c.in-Some.step.len) < length c.args.text.now - c.places.byte =
    omega (arith, step.some, step.within) in
    less

pub places-preserved : goal.places-preserved
places-preserved c =
    let step = stepped c.args.unit c.args.text.now c.places.byte c.utf8.text c.places.invariant.0 c.in-Some.ensures c.range_from.ensures.value
    c.places.invariant.1 in
    (step.place, sym step.position, λ beyond. true≢false (sym (c.is_before.ensures.1 beyond) ∙ c.if-is_before.false))

pub returns-clause-inverse : goal.returns-clause-inverse
returns-clause-inverse c =
    let last : IsByteAt c.args.unit c.args.text.now c.args.position c.places.byte =
    stops_at_end c.args.unit c.args.text.now c.args.position c.places.at c.places.byte c.places.invariant.0 c.places.invariant.1 c.places.invariant.2
    (sym c.range_from.ensures.value ∙ c.in_default.ensures) in
    byte_again c.args.unit c.args.text.now c.args.position c.places.byte c.utf8.text last
