use Rattle.std.proofs.Common.{take}
use Rattle.std.specs.Prelude.{flat_map}
use Rattle.rinqebo_faults.specs.Edits.{names_view}
use Rattle.rinqebo_findings.specs.Later.{AddsLater, wrong_kind_faults}
use Rattle.rinqebo_findings.proofs.unknown_names.add_wrong_kinds.Given as goal

-- the findings of the errors so far are added
abbrev pub invariant-loop-error : goal.invariant-loop-error
invariant-loop-error l =
    AddsLater l.refused.source.layers.now l.refused.source.position
    (flat_map (wrong_kind_faults l.namings (names_view l.refused.left_out.now.scripts))
    (take l.error-index l.errors)) l.initial.findings.items l.findings.items
