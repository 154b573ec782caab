use Rattle.std.proofs.Common.{◌∷◌, [], ℕ, List, codes, map, string_bytes, subst}
use Rattle.rinqebo_report.specs.declared.codes.code.Code.TheVariants.{EmptyScriptRule, ReservedProfile}
use Rattle.rinqebo_faults.specs.Paths.{profile_path}
use Rattle.rinqebo_findings.specs.Each.{AreOfEach}
use Rattle.rinqebo_findings.specs.Warnings.{profile_steps, WarnsOf, WarnsOfKey}
use Rattle.rinqebo_findings.proofs.load_warnings.findings_at.Goals as goal

pub returns-in_ok-unknown_keys-in-UnknownConfigKeys : goal.returns-in_ok-unknown_keys-in-UnknownConfigKeys
returns-in_ok-unknown_keys-in-UnknownConfigKeys c =
    let source = c.args.source in
    rw c.in-UnknownConfigKeys.is (subst
    (λ paths. AreOfEach (λ (key : List ℕ). WarnsOfKey source.layers.now source.position) (map string_bytes paths)
    c.in_ok-unknown_keys-in-UnknownConfigKeys.field-0.items)
    c.deref.ensures.value c.in_ok-unknown_keys-in-UnknownConfigKeys.ensures)

pub returns-in_ok-reserved_profiles-in-UnknownReservedProfiles :
    goal.returns-in_ok-reserved_profiles-in-UnknownReservedProfiles
returns-in_ok-reserved_profiles-in-UnknownReservedProfiles c =
    let source = c.args.source in
    rw c.in-UnknownReservedProfiles.is (subst
    (λ names. AreOfEach
    (λ (name : List ℕ). WarnsOf source.layers.now source.position ReservedProfile (profile_steps name))
    (map string_bytes names) c.in_ok-reserved_profiles-in-UnknownReservedProfiles.field-0.items)
    c.deref-in-UnknownReservedProfiles.ensures.value
    c.in_ok-reserved_profiles-in-UnknownReservedProfiles.ensures)

pub returns-in_ok-old_scripts-in-DeprecatedScriptConfig : goal.returns-in_ok-old_scripts-in-DeprecatedScriptConfig
returns-in_ok-old_scripts-in-DeprecatedScriptConfig c =
    rw c.in-DeprecatedScriptConfig.is c.in_ok-old_scripts-in-DeprecatedScriptConfig.ensures

pub returns-in_ok-empty_rules-in-EmptyScriptSections : goal.returns-in_ok-empty_rules-in-EmptyScriptSections
returns-in_ok-empty_rules-in-EmptyScriptSections c =
    let source = c.args.source in
    rw c.in-EmptyScriptSections.is (subst
    (λ profile. AreOfEach (WarnsOf source.layers.now source.position EmptyScriptRule)
    (profile_path profile (codes "scripts") ∷ []) c.in_ok-empty_rules-in-EmptyScriptSections.field-0.items)
    c.as_str.ensures.value c.in_ok-empty_rules-in-EmptyScriptSections.ensures)
