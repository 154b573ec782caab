use Rattle.std.proofs.Common.{arith, map, string_bytes}
use Rattle.rinqebo_faults.specs.Edits.{names_view}
use Rattle.rinqebo_findings.specs.Later.{unknown_group_faults}
use Rattle.rinqebo_findings.proofs.Each.{taken}
use Rattle.rinqebo_findings.proofs.Later.{adds_all, adds_next}
use Rattle.rinqebo_findings.proofs.unknown_names.add_unknown_groups.Goals as goal

pub loop-error-preserved : goal.loop-error-preserved
loop-error-preserved c =
    let source = c.args.refused.now.source in
    let names = names_view c.args.refused.now.left_out.now.groups in
    let known = map string_bytes c.args.known.now.keys in
    adds_next source.layers.now source.position (unknown_group_faults c.in_ok-namings.namings names known)
    c.args.errors.now
    c.loop-error.error-index
    c.error-item.result _ _ _ (taken _ _ _ c.loop-error-test.true c.error-item.is)
    c.loop-error.invariant
    c.in_ok-add_unknown_group.ensures

pub returns : goal.returns
returns c =
    let source = c.args.refused.now.source in
    let names = names_view c.args.refused.now.left_out.now.groups in
    let known = map string_bytes c.args.known.now.keys in
    record {
      namings = c.in_ok-namings.namings;
      adds = adds_all source.layers.now source.position (unknown_group_faults c.in_ok-namings.namings names known)
          c.args.errors.now c.loop-error.error-index _ _ (omega arith) c.loop-error.invariant;
    }
