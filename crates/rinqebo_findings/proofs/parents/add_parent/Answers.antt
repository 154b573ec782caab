use Rattle.std.proofs.Common.{◌∷◌, [], ℕ, List, string_bytes, subst}
use Rattle.std.specs.Prelude.{OnOk}
use Rattle.rinqebo_report.specs.declared.codes.code.Code.TheVariants.{DefaultInherits, InheritsItself, UnknownParent}
use Rattle.rinqebo_faults.specs.Hints.{texts}
use Rattle.rinqebo_findings.specs.Later.{AddsLater, cycle_faults, LaterFault, parent_fault}
use Rattle.rinqebo_findings.specs.LaterWords.{says_default_inherits, says_inherits_itself, says_unknown_parent}
use Rattle.rinqebo_findings.proofs.parents.add_parent.Goals as goal

pub returns-in-DefaultProfileInheritance : goal.returns-in-DefaultProfileInheritance
returns-in-DefaultProfileInheritance c =
    let source = c.args.refused.now.source in
    let Adds = λ (fault : LaterFault). OnOk c.add_default_parent.result (AddsLater source.layers.now source.position
    (fault ∷ []) c.args.findings.now.items c.add_default_parent.new.findings.items) in
    rw c.in-DefaultProfileInheritance.is (subst
    (λ (profile : List ℕ). Adds (parent_fault DefaultInherits profile (says_default_inherits profile)))
    c.as_str.ensures.value c.add_default_parent.ensures)

pub returns-in-SelfReferentialInheritance : goal.returns-in-SelfReferentialInheritance
returns-in-SelfReferentialInheritance c =
    let source = c.args.refused.now.source in
    let Adds = λ (fault : LaterFault). OnOk c.add_own_parent.result (AddsLater source.layers.now source.position
    (fault ∷ []) c.args.findings.now.items c.add_own_parent.new.findings.items) in
    rw c.in-SelfReferentialInheritance.is (subst
    (λ (profile : List ℕ). Adds (parent_fault InheritsItself profile (says_inherits_itself profile)))
    c.as_str-in-SelfReferentialInheritance.ensures.value c.add_own_parent.ensures)

pub returns-in-UnknownInheritance : goal.returns-in-UnknownInheritance
returns-in-UnknownInheritance c =
    let source = c.args.refused.now.source in
    let names = texts c.args.names.now in
    let parent = c.as_str-in-UnknownInheritance in
    let Adds = λ (fault : LaterFault). OnOk c.add_unknown_parent.result (AddsLater source.layers.now source.position
    (fault ∷ []) c.args.findings.now.items c.add_unknown_parent.new.findings.items) in
    let unknown = λ (profile name : List ℕ). parent_fault UnknownParent profile (says_unknown_parent profile name names) in
    rw c.in-UnknownInheritance.is (subst
    (λ (name : List ℕ). Adds (unknown (string_bytes c.in-UnknownInheritance.profile) name)) parent.ensures.value
    (subst (λ (profile : List ℕ). Adds (unknown profile parent.result.now)) c.as_str-profile.ensures.value
    c.add_unknown_parent.ensures))

pub returns-in-InheritanceCycle : goal.returns-in-InheritanceCycle
returns-in-InheritanceCycle c =
    let source = c.args.refused.now.source in
    rw c.in-InheritanceCycle.is (subst
    (λ cycles. OnOk c.add_cycles.result (AddsLater source.layers.now source.position (cycle_faults cycles)
    c.args.findings.now.items c.add_cycles.new.findings.items)) c.deref.ensures.value c.add_cycles.ensures)
