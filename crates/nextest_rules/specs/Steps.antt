-- The steps of what one source defines and of its rules, in order.
use Rattle.std.specs.Prelude.{ℕ, List, [], ◌∷◌, ◌++◌, map, length, Bool, ◌&&◌, ◌||◌, not, Option, None, Some, filter, flat_map, if◌then◌else◌}
use Rattle.nextest_tree.specs.Schema.{is_one_of}
use Rattle.nextest_engines.specs.Readings.{Readings}
use Rattle.nextest_inheritance.specs.Faults.{inheritance_faults}
use Rattle.nextest_inheritance.specs.Names.{default_first, is_reserved}
use Rattle.nextest_inheritance.specs.Parents.{WrittenParents}
use Rattle.nextest_tables.specs.FileTexts.{ProfileText, FileText, names_in, setup_ids_of, new_ids_of, script_ids_of}
use Rattle.nextest_tables.specs.Written.{Name}
use Rattle.nextest_sources.specs.Causes.{NameSet, ScriptFaults, LoadCause, ill_named_groups, ill_named_scripts, both_script_keys, missing_features, both_script_kinds, bad_parents, compile_refusals, unknown_groups, bad_scripts}
use Rattle.nextest_sources.specs.Sources.{Source}
use Rattle.nextest_sources.specs.Steps.{LoadStep, warn, check}
use Rattle.nextest_sources.specs.Warnings.{Warning, reserved_profiles, deprecated_scripts, empty_sections}
use Rattle.nextest_rules.specs.CompileFaults.{compile_faults}
use Rattle.nextest_rules.specs.Definitions.{source_class, forbidden_names, common_names, Features, is_nonempty, features_missing}
use Rattle.nextest_rules.specs.Known.{KnownSets, with_global, known_scripts}
use Rattle.nextest_rules.specs.RuleFaults.{group_faults_in, script_faults_in, names_none}
use Rattle.nextest_rules.specs.Rules.{LayerProfile, layer_of}

-- a cause with what was found, if anything was
abbrev pub if_some : {X : Type 0} → (List X → LoadCause) → List X → Option LoadCause
if_some cause [] = None
if_some cause (x ∷ xs) = Some (cause (x ∷ xs))

-- a warning with what was found, if anything was
abbrev pub warn_if_some : {X : Type 0} → (List X → Warning) → List X → List LoadStep
warn_if_some warning [] = []
warn_if_some warning (x ∷ xs) = warn (warning (x ∷ xs)) ∷ []

-- a cause, where a test passes
abbrev pub if_true : LoadCause → Bool → Option LoadCause
if_true cause b = if b then Some cause else None

-- groups that a source may not define
abbrev pub group_name_cause : Source → FileText → Option LoadCause
group_name_cause source file =
    if_some (λ names. ill_named_groups (source_class source.kind) (is_one_of names))
    (forbidden_names source.kind (names_in file.groups))

-- scripts that a source may not define
abbrev pub script_name_cause : Source → FileText → Option LoadCause
script_name_cause source file =
    if_some (λ names. ill_named_scripts (source_class source.kind) (is_one_of names))
    (forbidden_names source.kind (script_ids_of file))

-- scripts under `script` and under `scripts`
abbrev pub key_cause : FileText → Option LoadCause
key_cause file = if_true both_script_keys
    (is_nonempty file.old_setup_scripts && is_nonempty (new_ids_of file))

-- features that a file needs and that are not enabled
abbrev pub feature_cause : Features → FileText → Option LoadCause
feature_cause features file = if_some missing_features (features_missing features file)

-- scripts of both kinds
abbrev pub kind_cause : FileText → Option LoadCause
kind_cause file = if_some (λ names. both_script_kinds (is_one_of names))
    (common_names (setup_ids_of file) file.wrapper_scripts)

-- the warning of scripts under the old key, if there are any
abbrev pub deprecated_steps : Source → FileText → List LoadStep
deprecated_steps source file = warn_if_some (λ _. deprecated_scripts source) file.old_setup_scripts

-- the warning of profiles with reserved names, if there are any
abbrev pub reserved_steps : Source → FileText → List LoadStep
reserved_steps source file =
    warn_if_some (reserved_profiles source) (filter is_reserved (names_in file.profiles))

-- The steps of what a source defines, in order.
abbrev pub definition_steps : Features → Source → FileText → List LoadStep
definition_steps features source file =
    check source (group_name_cause source file)
    ∷ check source (key_cause file)
    ∷ deprecated_steps source file
    ++ check source (feature_cause features file)
    ∷ check source (kind_cause file)
    ∷ check source (script_name_cause source file)
    ∷ reserved_steps source file

-- the parents that profiles write
abbrev pub written_parents : List (Name × ProfileText) → WrittenParents
written_parents profiles = map (λ p. (p.0, p.1.parent)) profiles

-- parents that are not sound beside the profiles of lower files
abbrev pub parent_cause : (lower : NameSet) → List (Name × ProfileText) → Option LoadCause
parent_cause lower profiles =
    if_some bad_parents (inheritance_faults lower (written_parents profiles))

-- rules and default filters that do not compile
abbrev pub compile_cause : {M K P : Type 0} → Readings M K P → List (Name × ProfileText)
    → Option LoadCause
compile_cause engines profiles = if_some compile_refusals (compile_faults engines profiles)

-- groups that rules write and that are not known, in the order of the profiles: reported with those
-- that are known
abbrev pub group_cause_in : {M K : Type 0} → NameSet → (order : List (Name × LayerProfile M K))
    → Option LoadCause
group_cause_in is_known order =
    if_some (λ faults. unknown_groups faults (with_global is_known))
    (group_faults_in is_known order)

-- nothing is wrong with the scripts that rules name
abbrev pub are_none : ScriptFaults → Bool
are_none faults =
    not (is_nonempty faults.unknown_scripts
    || (is_nonempty faults.wrong_scripts || is_nonempty faults.list_filters))

-- what is wrong with the scripts that rules name, in the order of the profiles: reported with those
-- that are known
abbrev pub script_cause_in : {M K : Type 0} → (M → List (List ℕ)) → KnownSets
    → (order : List (Name × LayerProfile M K)) → Option LoadCause
script_cause_in leaves known order =
    let faults = script_faults_in leaves known order in
    if_true (bad_scripts faults (known_scripts known)) (not (are_none faults))

-- the warning of the script rules of a profile that name no script, if there are any: how many
abbrev pub empty_steps_of : {M K : Type 0} → Source → Name → LayerProfile M K → List LoadStep
empty_steps_of source name p =
    warn_if_some (λ rules. empty_sections source name (length rules))
    (filter (λ r. names_none r.writes.scripts) p.script_rules)

-- the warnings of script rules that name no script, in the order of the profiles
abbrev pub empty_steps_in : {M K : Type 0} → Source → (order : List (Name × LayerProfile M K))
    → List LoadStep
empty_steps_in source order = flat_map (λ p. empty_steps_of source p.0 p.1) order

-- the steps of the groups and scripts that rules name, in the order of the profiles
abbrev pub name_steps : {M K : Type 0} → (M → List (List ℕ)) → KnownSets → Source
    → (order : List (Name × LayerProfile M K)) → List LoadStep
name_steps leaves known source order =
    check source (group_cause_in known.groups order)
    ∷ empty_steps_in source order
    ++ check source (script_cause_in leaves known order)
    ∷ []

-- The steps of the rules of a source over lower files, in order.
abbrev pub rule_steps : {M K P : Type 0} → Readings M K P → (lower : NameSet) → KnownSets → Source
    → FileText → List LoadStep
rule_steps engines lower known source file =
    check source (parent_cause lower file.profiles)
    ∷ check source (compile_cause engines file.profiles)
    ∷ name_steps engines.leaves known source
    (default_first (layer_of engines source file.profiles).profiles)
