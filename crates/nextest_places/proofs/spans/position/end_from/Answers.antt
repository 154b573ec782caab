use Rattle.std.proofs.Common.{◌∙◌, ◌+◌, ◌-◌, ◌<◌, arith, length, sym}
use Rattle.nextest_places.proofs.spans.Stepping.{step_fits, stepped, walked}
use Rattle.nextest_places.proofs.spans.position.end_from.Goals as goal

pub next_step-requires : goal.next_step-requires
next_step-requires c =
    let fits = step_fits c.args.unit c.args.text.now c.range_from.result.now c.places.at c.places.byte c.utf8.text c.places.invariant.0
    c.places.invariant.1 c.range_from.ensures.value in
    omega (arith, fits)

pub overflow_add-byte : goal.overflow_add-byte
overflow_add-byte c =
    let step = stepped c.args.unit c.args.text.now c.places.byte c.utf8.text c.places.invariant.0 c.in-Some.ensures c.range_from.ensures.value
    c.places.invariant.1 in
    omega (arith, step.within)

pub places-smaller : goal.places-smaller
places-smaller c =
    let step = stepped c.args.unit c.args.text.now c.places.byte c.utf8.text c.places.invariant.0 c.in-Some.ensures c.range_from.ensures.value
    c.places.invariant.1 in
    let less : length c.args.text.now - (c.places.byte + c.in-Some.step.len) < length c.args.text.now - c.places.byte =
    omega (arith, step.some, step.within) in
    less

pub places-preserved : goal.places-preserved
places-preserved c =
    let step = stepped c.args.unit c.args.text.now c.places.byte c.utf8.text c.places.invariant.0 c.in-Some.ensures c.range_from.ensures.value
    c.places.invariant.1 in
    (step.place, sym step.position)

pub returns : goal.returns
returns c =
    c.places.invariant.1 ∙ walked c.args.unit c.args.text.now c.places.byte c.places.invariant.0.boundary.0 (sym c.range_from.ensures.value ∙ c.in_default.ensures)
