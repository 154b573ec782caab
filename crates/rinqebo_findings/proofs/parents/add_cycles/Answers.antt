use Rattle.std.proofs.Common.{◌∷◌, [], map, String, Vec, Global, string_bytes, subst}
use Rattle.rinqebo_findings.specs.Later.{AddsLater, cycle_fault}
use Rattle.rinqebo_findings.proofs.Each.{taken}
use Rattle.rinqebo_findings.proofs.Later.{adds_next}
use Rattle.rinqebo_findings.proofs.parents.add_cycles.Goals as goal

pub loop-cycle-preserved : goal.loop-cycle-preserved
loop-cycle-preserved c =
    let source = c.args.refused.now.source in
    adds_next source.layers.now source.position
    (λ (cycle : Vec (String Global) Global). cycle_fault (map string_bytes cycle.items) ∷ []) c.args.cycles.now
    c.loop-cycle.cycle-index c.cycle-item.result _ _ _ (taken _ _ _ c.loop-cycle-test.true c.cycle-item.is)
    c.loop-cycle.invariant
    (subst
    (λ names. AddsLater source.layers.now source.position (cycle_fault (map string_bytes names) ∷ [])
    c.loop-cycle.findings.items c.add_cycle.new.findings.items) c.deref.ensures.value c.in_ok-add_cycle.ensures)
