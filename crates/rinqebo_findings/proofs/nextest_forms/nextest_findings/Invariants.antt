use Rattle.rinqebo_findings.proofs.LayerForms.{LeftLayers}
use Rattle.rinqebo_findings.proofs.nextest_forms.nextest_findings.Given as goal

-- the findings of the layers that are left make the report of all
abbrev pub invariant-loop-position : goal.invariant-loop-position
invariant-loop-position l = LeftLayers l.layers l.position l.findings.items
