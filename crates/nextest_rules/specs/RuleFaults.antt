-- What is wrong with the groups and the scripts that rules name.
use Rattle.std.specs.Prelude.{◌≡◌, ℕ, List, [], ◌∷◌, ◌++◌, map, Bool, true, false, ◌&&◌, ◌||◌, not, Option, None, Some, option_to_list, is_none, filter_map, flat_map, if◌then◌else◌}
use Rattle.nextest_elements.specs.TestGroup.{custom_group_text}
use Rattle.nextest_elements.specs.declared.test_group.TestGroup.{TestGroup}
use Rattle.nextest_elements.specs.declared.test_group.TestGroup.TheVariants as groups
use Rattle.nextest_scripts.specs.declared.script_type.ScriptType.{ScriptType}
use Rattle.nextest_scripts.specs.declared.script_type.ScriptType.TheVariants as kinds
use Rattle.nextest_scripts.specs.declared.script_type.ProfileScriptType.{ProfileScriptType}
use Rattle.nextest_scripts.specs.declared.script_type.ProfileScriptType.TheVariants as uses
use Rattle.nextest_tables.specs.FileTexts.{ScriptUse}
use Rattle.nextest_tables.specs.Written.{Name}
use Rattle.nextest_sources.specs.Causes.{NameSet, UnknownGroup, UnknownScript, WrongScript, ListFilter, ScriptFaults}
use Rattle.nextest_rules.specs.Known.{KnownSets}
use Rattle.nextest_rules.specs.Rules.{Compiled, ScriptRuleUse, LayerProfile}

-- what is wrong with the group that a rule of a profile writes: a custom group has to be known
abbrev pub group_fault : NameSet → Name → Option TestGroup → Option UnknownGroup
group_fault is_known profile (Some (groups.Custom group)) =
    if is_known (custom_group_text group) then None
    else Some (record { profile = profile; group = custom_group_text group })
group_fault is_known profile (Some groups.Global) = None
group_fault is_known profile None = None

-- the groups that the overrides of a profile write and that are not known, by position
abbrev pub unknown_groups_of : {M K : Type 0} → NameSet → Name → LayerProfile M K
    → List UnknownGroup
unknown_groups_of is_known name p =
    filter_map (λ r. group_fault is_known name r.writes.settings.test_group) p.overrides

-- the groups that the overrides of profiles write and that are not known, in the order of the
-- profiles
abbrev pub group_faults_in : {M K : Type 0} → NameSet → List (Name × LayerProfile M K)
    → List UnknownGroup
group_faults_in is_known order = flat_map (λ p. unknown_groups_of is_known p.0 p.1) order

-- the ids that a rule names, each with its use: setup scripts, list wrapper, run wrapper
abbrev pub uses_of : ScriptUse → List (Name × ProfileScriptType)
uses_of scripts =
    map (λ id. (id, uses.Setup)) scripts.setup
    ++ map (λ id. (id, uses.ListWrapper)) (option_to_list scripts.list_wrapper)
    ++ map (λ id. (id, uses.RunWrapper)) (option_to_list scripts.run_wrapper)

-- whether an id is known for a use: as a setup script, or as a wrapper
abbrev pub serves : KnownSets → ProfileScriptType → Name → Bool
serves known uses.Setup id = known.setup_scripts id
serves known uses.ListWrapper id = known.wrapper_scripts id
serves known uses.RunWrapper id = known.wrapper_scripts id

-- whether an id is known, for any use
abbrev pub is_known_script : KnownSets → Name → Bool
is_known_script known id = known.setup_scripts id || known.wrapper_scripts id

-- the kind that a use does not require
abbrev pub other_kind : ProfileScriptType → ScriptType
other_kind uses.Setup = kinds.Wrapper
other_kind uses.ListWrapper = kinds.Setup
other_kind uses.RunWrapper = kinds.Setup

-- a script that is not known
abbrev pub unknown_script : KnownSets → Name → Name → Option UnknownScript
unknown_script known profile id =
    if is_known_script known id then None else Some (record { profile = profile; script = id })

-- a script that is known, and not for its use
abbrev pub wrong_script : KnownSets → Name → Name × ProfileScriptType → Option WrongScript
wrong_script known profile u =
    if is_known_script known u.0 && not (serves known u.1 u.0)
    then Some (record {
      profile = profile;
      script = u.0;
      attempted = u.1;
      actual = other_kind u.1;
    })
    else None

-- the scripts that are not known, among uses of a rule
abbrev pub unknown_scripts_of : KnownSets → Name → List (Name × ProfileScriptType)
    → List UnknownScript
unknown_scripts_of known profile uses = filter_map (λ u. unknown_script known profile u.0) uses

-- the scripts that are known and not for their use, among uses of a rule
abbrev pub wrong_scripts_of : KnownSets → Name → List (Name × ProfileScriptType) → List WrongScript
wrong_scripts_of known profile uses = filter_map (wrong_script known profile) uses

-- the parts of a filter that only a test can decide, none where there is no filter
abbrev pub test_parts : {M : Type 0} → (M → List (List ℕ)) → Option M → List (List ℕ)
test_parts leaves None = []
test_parts leaves (Some m) = leaves m

-- a fault of a filter with such parts
abbrev pub list_filter_with : Name → Name → List (List ℕ) → Option ListFilter
list_filter_with profile id [] = None
list_filter_with profile id (part ∷ parts) =
    Some (record { profile = profile; script = id; filters = part ∷ parts })

-- a filter with such parts beside a list wrapper that is known
abbrev pub list_filter : {M : Type 0} → (M → List (List ℕ)) → KnownSets → Name → Option M
    → Option Name → Option ListFilter
list_filter leaves known profile filter None = None
list_filter leaves known profile filter (Some id) =
    if is_known_script known id then list_filter_with profile id (test_parts leaves filter)
    else None

-- what is wrong with the filter of a script rule, as a list
abbrev pub list_filters_of : {M K : Type 0} → (M → List (List ℕ)) → KnownSets → Name
    → Compiled M K ScriptRuleUse → List ListFilter
list_filters_of leaves known profile r =
    option_to_list (list_filter leaves known profile r.filter r.writes.scripts.list_wrapper)

-- what is wrong with uses of a rule
abbrev pub use_faults : KnownSets → Name → List (Name × ProfileScriptType) → ScriptFaults
use_faults known profile uses = record {
  unknown_scripts = unknown_scripts_of known profile uses;
  wrong_scripts = wrong_scripts_of known profile uses;
  list_filters = [];
}

-- what is wrong with the scripts that script rules of a profile name
abbrev pub rule_script_faults : {M K : Type 0} → (M → List (List ℕ)) → KnownSets → Name
    → List (Compiled M K ScriptRuleUse) → ScriptFaults
rule_script_faults leaves known profile rules = record {
  unknown_scripts = flat_map (λ r. unknown_scripts_of known profile
      (uses_of r.writes.scripts)) rules;
  wrong_scripts = flat_map (λ r. wrong_scripts_of known profile (uses_of r.writes.scripts)) rules;
  list_filters = flat_map (list_filters_of leaves known profile) rules;
}

-- what is wrong with the scripts that the rules of profiles name, in the order of the profiles
abbrev pub script_faults_in : {M K : Type 0} → (M → List (List ℕ)) → KnownSets
    → List (Name × LayerProfile M K) → ScriptFaults
script_faults_in leaves known order = record {
  unknown_scripts = flat_map
      (λ p. (rule_script_faults leaves known p.0 p.1.script_rules).unknown_scripts) order;
  wrong_scripts = flat_map
      (λ p. (rule_script_faults leaves known p.0 p.1.script_rules).wrong_scripts) order;
  list_filters = flat_map
      (λ p. (rule_script_faults leaves known p.0 p.1.script_rules).list_filters) order;
}

-- faults are some faults, and then more
pub record AreMore (some more all : ScriptFaults) : Type 0 where
  pub unknown : all.unknown_scripts ≡ some.unknown_scripts ++ more.unknown_scripts
  pub wrong : all.wrong_scripts ≡ some.wrong_scripts ++ more.wrong_scripts
  pub lists : all.list_filters ≡ some.list_filters ++ more.list_filters

-- whether a list has no item
abbrev pub is_empty : {X : Type 0} → List X → Bool
is_empty [] = true
is_empty (x ∷ xs) = false

-- whether a script rule names no script
abbrev pub names_none : ScriptUse → Bool
names_none scripts =
    is_empty scripts.setup && (is_none scripts.list_wrapper && is_none scripts.run_wrapper)
