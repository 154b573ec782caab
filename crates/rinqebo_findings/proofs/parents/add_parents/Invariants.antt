use Rattle.std.proofs.Common.{take}
use Rattle.rinqebo_findings.specs.Later.{AddsLater, parent_faults}
use Rattle.rinqebo_findings.specs.Profiles.{profile_names}
use Rattle.rinqebo_findings.proofs.parents.add_parents.Given as goal

-- the findings of the errors so far are added
abbrev pub invariant-loop-error : goal.invariant-loop-error
invariant-loop-error l =
    AddsLater l.refused.source.layers.now l.refused.source.position
    (parent_faults (profile_names l.refused.source.layers.now) (take l.error-index l.errors))
    l.initial.findings.items l.findings.items
