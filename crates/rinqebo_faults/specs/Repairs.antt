-- What files are read without where a later check refuses them.
use Rattle.std.specs.Prelude.{ℕ, ◌+◌, Bool, ◌||◌, List, [], ◌∷◌, ◌++◌, codes, decimal, flat_map, is_some, length, map, Option, None, Some, string_bytes, if◌then◌else◌}
use Rattle.std.specs.List.{list_any, range_with_len}
use Rattle.std.specs.Option.{option_and_then}
use Rattle.std.specs.Str.{bytes_eq}
use Rattle.nextest_elements.specs.TestGroup.{custom_group_text}
use Rattle.nextest_elements.specs.declared.test_group.CustomTestGroup.{CustomTestGroup}
use Rattle.nextest_inheritance.specs.declared.error.InheritsError.{InheritsError}
use Rattle.nextest_inheritance.specs.declared.error.InheritsError.TheVariants as inherits
use Rattle.nextest_places.specs.Spans.Paths.{PathStep}
use Rattle.nextest_places.specs.Spans.Paths as paths
use Rattle.nextest_scripts.specs.ScriptId.{script_text}
use Rattle.nextest_scripts.specs.declared.script_id.ScriptId.{ScriptId}
use Rattle.nextest_sources.specs.declared.error.compile.ConfigCompileError.{ConfigCompileError}
use Rattle.nextest_sources.specs.declared.error.compile.ConfigCompileErrorKind.{ConfigCompileErrorKind}
use Rattle.nextest_sources.specs.declared.error.compile.ConfigCompileErrorKind.TheVariants as kinds
use Rattle.nextest_sources.specs.declared.error.compile.ConfigCompileSection.{ConfigCompileSection}
use Rattle.nextest_sources.specs.declared.error.compile.ConfigCompileSection.TheVariants as sections
use Rattle.nextest_sources.specs.declared.error.groups.UnknownTestGroupError.{UnknownTestGroupError}
use Rattle.nextest_sources.specs.declared.error.scripts.ProfileScriptErrors.{ProfileScriptErrors}
use Rattle.nextest_tree.specs.Node.{Node, Nodes, no_nodes, Entries, no_entries, as_array, as_table, as_text, keys, member_of}
use Rattle.rinqebo_faults.specs.Edits.{Edit, add, mark_of, omit_group, omit_script, remove, replace}
use Rattle.rinqebo_faults.specs.Given.{profiles_in}
use Rattle.rinqebo_faults.specs.Paths.{profile_path, section_path}

-- the path of a group
abbrev pub group_path : List ℕ → List PathStep
group_path name = paths.key (codes "test-groups") ∷ paths.key name ∷ []

-- a group of a source is left out
abbrev pub group_edits : ℕ → List ℕ → List Edit
group_edits place name = remove (mark_of place (group_path name)) ∷ omit_group name ∷ []

-- groups of a source are left out
abbrev pub groups_edits : ℕ → List CustomTestGroup → List Edit
groups_edits place groups = flat_map (group_edits place) (map custom_group_text groups)

-- the path of a script of a kind
abbrev pub kind_path : (kind name : List ℕ) → List PathStep
kind_path kind name = paths.key (codes "scripts") ∷ paths.key kind ∷ paths.key name ∷ []

-- the path of a script of the old table
abbrev pub old_script_path : List ℕ → List PathStep
old_script_path name = paths.key (codes "script") ∷ paths.key name ∷ []

-- a script of a source is left out, wherever the source defines it
abbrev pub script_edits : ℕ → List ℕ → List Edit
script_edits place name =
    remove (mark_of place (kind_path (codes "setup") name))
    ∷ remove (mark_of place (kind_path (codes "wrapper") name))
    ∷ remove (mark_of place (old_script_path name)) ∷ omit_script name ∷ []

-- scripts of a source are left out
abbrev pub scripts_edits : ℕ → List ScriptId → List Edit
scripts_edits place scripts = flat_map (script_edits place) (map script_text scripts)

-- the names in the old table of scripts of a file
abbrev pub old_names : Option Entries → List (List ℕ)
old_names None = []
old_names (Some scripts) = keys scripts

-- the old table of scripts of a source is left out
abbrev pub old_scripts_edits : ℕ → Option Node → List Edit
old_scripts_edits place file =
    remove (mark_of place (paths.key (codes "script") ∷ []))
    ∷ map omit_script
    (old_names (option_and_then as_table (option_and_then (member_of (codes "script")) file)))

-- the parent of a profile is left out in a source
abbrev pub left_out_in : List ℕ → ℕ → Edit
left_out_in profile place = remove (mark_of place (profile_path profile (codes "inherits")))

-- the parent of a profile is left out, in each of so many sources
abbrev pub parent_edits : ℕ → List ℕ → List Edit
parent_edits sources profile = map (left_out_in profile) (range_with_len 0 sources)

-- the profiles whose parents an error refuses
abbrev pub refused_children : InheritsError → List (List ℕ)
refused_children (inherits.DefaultProfileInheritance profile) = string_bytes profile ∷ []
refused_children (inherits.SelfReferentialInheritance profile) = string_bytes profile ∷ []
refused_children (inherits.UnknownInheritance profile parent) = string_bytes profile ∷ []
refused_children (inherits.InheritanceCycle cycles) =
    flat_map (λ cycle. map string_bytes cycle.items) cycles.items

-- parents that profiles may not have are left out
abbrev pub parents_edits : ℕ → List InheritsError → List Edit
parents_edits sources errors =
    flat_map (λ error. flat_map (parent_edits sources) (refused_children error)) errors

-- the text by which a name is found that rules of a profile have at a key
unfoldable pub naming_mark : (profile key name : List ℕ) → List ℕ
naming_mark profile key name =
    decimal (length profile)
    ++ (codes ":" ++ (profile ++ (codes " " ++ (key ++ (codes " " ++ name)))))

-- the group that an override sets
abbrev pub group_of : Node → Option (List ℕ)
group_of rule = option_and_then as_text (member_of (codes "test-group") rule)

-- the path of a key of an override
abbrev pub override_path : (profile : List ℕ) → (index : ℕ) → (key : List ℕ) → List PathStep
override_path profile index key =
    paths.key (codes "profile") ∷ paths.key profile ∷ paths.key (codes "overrides")
    ∷ paths.position index ∷ paths.key key ∷ []

-- the group that the override at a position of a profile sets is left out, if it is refused
abbrev pub rule_edits : ℕ → (refused : List ℕ → Bool) → (profile : List ℕ) → ℕ
    → Option (List ℕ) → List Edit
rule_edits place refused profile index None = []
rule_edits place refused profile index (Some group) =
    if refused (naming_mark profile (codes "test-group") group)
    then remove (mark_of place (override_path profile index (codes "test-group"))) ∷ []
    else []

-- the same of all overrides from a position on
abbrev pub overrides_edits : ℕ → (refused : List ℕ → Bool) → (profile : List ℕ) → ℕ → Nodes
    → List Edit
overrides_edits place refused profile index no_nodes = []
overrides_edits place refused profile index (Nodes.node rule rules) =
    rule_edits place refused profile index (group_of rule)
    ++ overrides_edits place refused profile (index + 1) rules

-- the items of an array, if a value is one
abbrev pub items_or_none : Option Nodes → Nodes
items_or_none None = no_nodes
items_or_none (Some items) = items

-- the overrides of a profile
abbrev pub overrides_in : Node → Nodes
overrides_in profile =
    items_or_none (option_and_then as_array (member_of (codes "overrides") profile))

-- the same of all profiles
abbrev pub profiles_edits : ℕ → (refused : List ℕ → Bool) → Entries → List Edit
profiles_edits place refused no_entries = []
profiles_edits place refused (Entries.entry profile settings profiles) =
    overrides_edits place refused profile 0 (overrides_in settings)
    ++ profiles_edits place refused profiles

-- an error names a group that an override sets
abbrev pub names_group : List ℕ → UnknownTestGroupError → Bool
names_group mark error =
    bytes_eq (naming_mark (string_bytes error.profile_name) (codes "test-group")
    (custom_group_text error.name)) mark

-- the entries of a table, if there is one
abbrev pub entries_or_none : Option Entries → Entries
entries_or_none None = no_entries
entries_or_none (Some entries) = entries

-- groups that overrides set and no file defines are left out
abbrev pub unknown_groups_edits : ℕ → Option Node → List UnknownTestGroupError → List Edit
unknown_groups_edits place file errors =
    profiles_edits place (λ mark. list_any (names_group mark) errors)
    (entries_or_none (profiles_in file))

-- the script rules of a profile are left out
abbrev pub rules_edit : ℕ → List ℕ → Edit
rules_edit place profile = remove (mark_of place (profile_path profile (codes "scripts")))

-- the profiles in which a rule names a script that it may not
abbrev pub refused_profiles : ProfileScriptErrors → List (List ℕ)
refused_profiles errors =
    map (λ error. string_bytes error.profile_name) errors.unknown_scripts.items
    ++ (map (λ error. string_bytes error.profile_name) errors.wrong_script_types.items
    ++ map (λ error. string_bytes error.profile_name) errors.list_scripts_using_run_filters.items)

-- the script rules of those profiles are left out
abbrev pub script_rules_edits : ℕ → ProfileScriptErrors → List Edit
script_rules_edits place errors = map (rules_edit place) (refused_profiles errors)

-- what is read in place of a refused platform, and of a refused filter
abbrev pub any_platform : List ℕ
any_platform = codes "\"cfg(unix)\""

abbrev pub any_filter : List ℕ
any_filter = codes "\"all()\""

-- a text is read in place of what is at a key of a section, if that is refused
abbrev pub text_edits : ℕ → List PathStep → (key text : List ℕ) → Bool → List Edit
text_edits place section key text is_refused =
    if is_refused then replace (mark_of place (section ++ paths.key key ∷ [])) text ∷ [] else []

-- what is read in place of a section that is refused for this
abbrev pub kind_edits : ℕ → List PathStep → ConfigCompileErrorKind → List Edit
kind_edits place section (kinds.ConstraintsNotSpecified has_default_filter) =
    add (mark_of place section) (codes "platform = \"cfg(unix)\"") ∷ []
kind_edits place section kinds.FilterAndDefaultFilterSpecified =
    remove (mark_of place (section ++ paths.key (codes "filter") ∷ [])) ∷ []
kind_edits place section (kinds.Parse host target filter default_filter) =
    text_edits place section (codes "platform") any_platform (is_some host || is_some target)
    ++ (text_edits place section (codes "filter") any_filter (is_some filter)
    ++ text_edits place section (codes "default-filter") any_filter (is_some default_filter))

-- the same of a default filter, which is replaced whatever is wrong with it, and of a rule
abbrev pub part_edits : ℕ → (profile : List ℕ) → ConfigCompileSection → ConfigCompileErrorKind
    → List Edit
part_edits place profile sections.DefaultFilter kind =
    replace (mark_of place (section_path profile sections.DefaultFilter)) any_filter ∷ []
part_edits place profile section kind = kind_edits place (section_path profile section) kind

-- what is read in place of what an error refuses
abbrev pub section_edits : ℕ → ConfigCompileError → List Edit
section_edits place error =
    part_edits place (string_bytes error.profile_name) error.section error.kind

-- the same of all errors
abbrev pub sections_edits : ℕ → List ConfigCompileError → List Edit
sections_edits place errors = flat_map (section_edits place) errors
