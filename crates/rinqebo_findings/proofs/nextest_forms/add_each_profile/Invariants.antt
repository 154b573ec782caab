use Rattle.nextest_tree.specs.Schema.{each_entry}
use Rattle.nextest_tree.specs.View.{entries_view}
use Rattle.rinqebo_findings.specs.NextestForms.{profile_faults}
use Rattle.rinqebo_findings.proofs.Forms.{Left}
use Rattle.rinqebo_findings.proofs.nextest_forms.add_each_profile.Given as goal

-- the profiles that are left
abbrev pub invariant-loop-name : goal.invariant-loop-name
invariant-loop-name l =
    let source = l.refused.source in
    Left source.layers.now source.position l.fn.findings.items l.findings.items
    (each_entry profile_faults (entries_view l.name-iterator))
    (each_entry profile_faults (entries_view l.profiles.entries))
