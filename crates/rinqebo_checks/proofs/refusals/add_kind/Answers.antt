use Rattle.std.proofs.Common.{inl, inr, map, string_bytes, subst}
use Rattle.std.specs.Prelude.{OnOk}
use Rattle.rinqebo_faults.specs.Edits.{names_view}
use Rattle.rinqebo_findings.specs.Compile.{compile_faults}
use Rattle.rinqebo_findings.specs.Later.{AddsLater, AddsUnknownGroups, document_at, feature_faults, parent_faults}
use Rattle.rinqebo_findings.specs.Profiles.{profile_names}
use Rattle.rinqebo_checks.proofs.refusals.add_kind.Goals as goal

pub returns-in-ExperimentalFeaturesNotEnabled : goal.returns-in-ExperimentalFeaturesNotEnabled
returns-in-ExperimentalFeaturesNotEnabled c =
    let layers = c.args.refused.now.source.layers.now in
    let position = c.args.refused.now.source.position in
    rw c.in-ExperimentalFeaturesNotEnabled.is (subst
    (λ features. OnOk c.add_features.result (AddsLater layers position
    (feature_faults (document_at layers position) features) c.args.findings.now.items
    c.add_features.new.findings.items))
    c.deref.ensures.value c.add_features.ensures)

pub returns-in-InvalidTestGroupsDefined : goal.returns-in-InvalidTestGroupsDefined
returns-in-InvalidTestGroupsDefined c =
    elim c.in-InvalidTestGroupsDefined.is [
      | inl is ↦ rw is c.add_groups.ensures
      | inr more ↦
          elim more [
            | inl is ↦ rw is c.add_groups.ensures
            | inr is ↦ rw is c.add_groups.ensures
          ]
    ]

pub returns-in-InvalidConfigScriptsDefined : goal.returns-in-InvalidConfigScriptsDefined
returns-in-InvalidConfigScriptsDefined c =
    elim c.in-InvalidConfigScriptsDefined.is [
      | inl is ↦ rw is c.add_scripts-in-InvalidConfigScriptsDefined.ensures
      | inr more ↦
          elim more [
            | inl is ↦ rw is c.add_scripts-in-InvalidConfigScriptsDefined.ensures
            | inr is ↦ rw is c.add_scripts-in-InvalidConfigScriptsDefined.ensures
          ]
    ]

pub returns-in-InheritanceErrors : goal.returns-in-InheritanceErrors
returns-in-InheritanceErrors c =
    let source = c.args.refused.now.source in
    rw c.in-InheritanceErrors.is (subst
    (λ errors. OnOk c.add_parents.result (AddsLater source.layers.now source.position
    (parent_faults (profile_names source.layers.now) errors)
    c.args.findings.now.items c.add_parents.new.findings.items))
    c.deref-in-InheritanceErrors.ensures.value c.add_parents.ensures)

pub returns-in-CompileErrors : goal.returns-in-CompileErrors
returns-in-CompileErrors c =
    let layers = c.args.refused.now.source.layers.now in
    let position = c.args.refused.now.source.position in
    rw c.in-CompileErrors.is (subst
    (λ errors. OnOk c.add_compiles.result (AddsLater layers position
    (compile_faults (document_at layers position) errors) c.args.findings.now.items
    c.add_compiles.new.findings.items))
    c.deref-in-CompileErrors.ensures.value c.add_compiles.ensures)

pub returns-in-UnknownTestGroups : goal.returns-in-UnknownTestGroups
returns-in-UnknownTestGroups c =
    let source = c.args.refused.now.source in
    let left_out = names_view c.args.refused.now.left_out.now.groups in
    rw c.in-UnknownTestGroups.is (subst
    (λ errors. OnOk c.add_unknown_groups.result (AddsUnknownGroups source.layers.now source.position left_out
    (map string_bytes c.in-UnknownTestGroups.known_groups.keys) errors
    c.args.findings.now.items c.add_unknown_groups.new.findings.items))
    c.deref-in-UnknownTestGroups.ensures.value c.add_unknown_groups.ensures)
