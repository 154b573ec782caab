use Rattle.std.proofs.Common.{map, string_bytes}
use Rattle.rinqebo_report.specs.declared.codes.code.Code.TheVariants.{InheritanceCycle}
use Rattle.rinqebo_request.specs.declared.files.places.SpanPart.TheVariants as parts
use Rattle.rinqebo_findings.specs.LaterWords.{says_cycle}
use Rattle.rinqebo_findings.proofs.InCycles.{cycle_said}
use Rattle.rinqebo_findings.proofs.Later.{adds_at, adds_part}
use Rattle.rinqebo_findings.proofs.cycles.add_cycle_at.Goals as goal

pub returns : goal.returns
returns c is_text =
    let source = c.args.refused.now.source in
    let profiles = map string_bytes c.args.cycle.now in
    adds_at source.layers.now source.position parts.Value InheritanceCycle _ _ _ _ _ c.parent_path-path.ensures
    (adds_part source.layers.now source.position parts.Value InheritanceCycle c.parent_path-path.result
    (says_cycle profiles) _ _ _ c.in_ok-found.ensures.about c.in_ok-found.ensures.place
    (cycle_said source.layers.now source.position profiles c.args.words.now is_text _ c.in_ok-found.ensures.words)
    c.in_ok-add_finding.ensures)
