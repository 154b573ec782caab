use Rattle.std.proofs.Common.{◌≡◌, ◌∙◌, false, true, length, slice_index_or, refl, sym, subst, arith}
use Rattle.std.proofs.lemmas.Option.{slice_get_read}
use Rattle.rinqebo_checks.specs.Faults.{IsFindingOf, IsJoined}
use Rattle.rinqebo_checks.proofs.Reporting.{next_joined, next_own, up_to_end}
use Rattle.rinqebo_checks.proofs.value_faults.fault_findings.Goals as goal

pub loop-place-preserved-then-is_marked : goal.loop-place-preserved-then-is_marked
loop-place-preserved-then-is_marked c =
    let faults = c.args.faults.now in
    let place = c.loop-place.place in
    let fault = c.index-faults-place.result in
    let at = slice_get_read faults (length faults) place fault refl c.loop-place-test.true c.index-faults-place.is in
    next_joined (IsFindingOf c.args.session.now.layers.items c.args.source) (IsJoined faults) faults place fault
    c.loop-place.findings.items c.loop-place-test.true c.index-faults-place.is
    (c.in_ok-marks.ensures place fault
    (subst (λ marks. slice_index_or marks place false ≡ true) c.deref.ensures.value
    (sym c.is_marked.ensures ∙ c.if-is_marked.true)) at) c.loop-place.invariant

pub loop-place-preserved : goal.loop-place-preserved
loop-place-preserved c =
    let faults = c.args.faults.now in
    next_own (IsFindingOf c.args.session.now.layers.items c.args.source) (IsJoined faults) faults c.loop-place.place
    c.index-faults-place.result c.loop-place.findings.items c.push.new.self.items c.in_ok-finding_of.field-0
    c.loop-place-test.true c.index-faults-place.is c.in_ok-push.ensures.items c.in_ok-finding_of.ensures
    c.loop-place.invariant

pub returns : goal.returns
returns c =
    up_to_end (IsFindingOf c.args.session.now.layers.items c.args.source) (IsJoined c.args.faults.now)
    c.args.faults.now c.loop-place.place c.loop-place.findings.items (omega arith) c.loop-place.invariant
