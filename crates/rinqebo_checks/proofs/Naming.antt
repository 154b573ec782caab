-- What a load refuses names something.
use Rattle.std.proofs.Common.{◌≡◌, ℕ, List, [], ◌∷◌, ◌++◌, map, flat_map, filter, length, Bool, true, false, ◌||◌, not, Option, None, Some, option_map, option_and_then, refl, sym, ap, subst, if◌then◌else◌}
use Rattle.std.specs.List.{cons_option, filter_map, list_any}
use Rattle.std.specs.Option.{IfSome, option_or}
use Rattle.std.specs.Str.{bytes_eq}
use Rattle.std.proofs.lemmas.Slice.Eq.{bytes_eq-Decides}
use Rattle.nextest_documents.specs.Text.{tree_of}
use Rattle.nextest_engines.specs.Readings.{Readings}
use Rattle.nextest_inheritance.specs.Cycles.{cycles_in}
use Rattle.nextest_inheritance.specs.Faults.{ParentFault, base_with_parent, own_parent, unknown_parent, cyclic, cycle_faults, inheritance_faults, is_known, parent_fault}
use Rattle.nextest_inheritance.specs.Names.{default_first, is_base}
use Rattle.nextest_inheritance.specs.Parents.{WrittenParents}
use Rattle.nextest_rules.specs.CompileFaults.{compile_faults}
use Rattle.nextest_rules.specs.Definitions.{Features, source_class}
use Rattle.nextest_rules.specs.Known.{KnownSets, known_to, known_scripts, sets_of, with_global}
use Rattle.nextest_rules.specs.RuleFaults.{names_none, script_faults_in}
use Rattle.nextest_rules.specs.Rules.{LayerProfile, layer_of}
use Rattle.nextest_rules.specs.Steps.{are_none, if_some, if_true, warn_if_some, written_parents, parent_cause, group_name_cause, script_name_cause, key_cause, feature_cause, kind_cause, compile_cause, group_cause_in, script_cause_in, deprecated_steps, empty_steps_of, empty_steps_in, definition_steps, name_steps, rule_steps}
use Rattle.nextest_sources.specs.Causes.{NameSet, LoadCause, LoadFault, ScriptFaults, duplicate_tool, no_text, no_document, bad_element, ill_named_groups, ill_named_scripts, both_script_keys, missing_features, both_script_kinds, bad_parents, compile_refusals, unknown_groups, bad_scripts}
use Rattle.nextest_sources.specs.Endings.{WentThrough, Ran, ending_at, ending_with, error_view}
use Rattle.nextest_sources.specs.Errors.{cause_view, source_of}
use Rattle.nextest_sources.specs.InputFaults.{first_path, second_cause, outcome_cause, tool_steps}
use Rattle.nextest_sources.specs.Inputs.{Input, LoadInputs, SourceText, inputs_of, source_texts_of, sources_in, repository_of, tool_source}
use Rattle.nextest_sources.specs.Sources.{Source, SourceKind, may_be_missing, Outcome, text, not_found, not_a_directory, failed, ToolFile}
use Rattle.nextest_sources.specs.Steps.{LoadStep, check, first_fault}
use Rattle.nextest_sources.specs.Warnings.{Warning, deprecated_scripts, empty_sections, reserved_profiles, unknown_keys}
use Rattle.nextest_sources.specs.declared.error.ConfigParseError.{ConfigParseError}
use Rattle.nextest_sources.specs.declared.error.ConfigParseErrorKind.{ConfigParseErrorKind}
use Rattle.nextest_sources.specs.declared.error.ConfigParseErrorKind.TheVariants as kinds
use Rattle.nextest_sources.proofs.Runs.{first_fault-append}
use Rattle.nextest_tables.specs.FileTexts.{FileText, file_text}
use Rattle.nextest_tables.specs.Written.{Name}
use Rattle.nextest_tables.specs.Tables.{a_file}
use Rattle.nextest_tree.specs.Node.{Node}
use Rattle.nextest_tree.specs.Schema.{Fault, first, faults, is_one_of}
use Rattle.nextest_load.specs.Steps.{document_cause, element_cause, unknown_steps, own_steps, profiles_in, no_profiles, file_steps, source_steps, one_input_steps, input_steps, merged_steps, load_steps}
use Rattle.nextest_load.specs.Trees.{own_tree, own_file, merged_tree}

-- a list has an item
abbrev pub HasItem : {X : Type 0} → List X → Type 0
HasItem [] = ⊥
HasItem (x ∷ xs) = Unit {0}

-- a set has a name
abbrev pub HasName : NameSet → Type 0
HasName names = (name : List ℕ) × (names name ≡ true)

-- an outcome is not a text
abbrev pub IsUnread : Outcome → Type 0
IsUnread (text t) = ⊥
IsUnread not_found = Unit {0}
IsUnread not_a_directory = Unit {0}
IsUnread (failed message) = Unit {0}

-- a fault of parents names a profile
abbrev pub NamesProfile : ParentFault → Type 0
NamesProfile (base_with_parent profile) = Unit {0}
NamesProfile (own_parent profile) = Unit {0}
NamesProfile (unknown_parent profile parent) = Unit {0}
NamesProfile (cyclic cycles) = HasItem cycles

-- the first of some faults names a profile
abbrev pub FirstNames : List ParentFault → Type 0
FirstNames [] = ⊥
FirstNames (fault ∷ faults) = NamesProfile fault

-- a cause names something that is refused
abbrev pub Names : LoadCause → Type 0
Names (duplicate_tool tool path) = Unit {0}
Names (no_text outcome) = IsUnread outcome
Names no_document = Unit {0}
Names (bad_element fault) = Unit {0}
Names (ill_named_groups class names) = HasName names
Names (ill_named_scripts class names) = HasName names
Names both_script_keys = Unit {0}
Names (missing_features features) = HasItem features
Names (both_script_kinds names) = HasName names
Names (bad_parents faults) = FirstNames faults
Names (compile_refusals faults) = HasItem faults
Names (unknown_groups faults known) = HasItem faults
Names (bad_scripts faults known) = not (are_none faults) ≡ true

-- there is no cause, or one that names something
abbrev pub IfCauseNames : Option LoadCause → Type 0
IfCauseNames None = Unit {0}
IfCauseNames (Some cause) = Names cause

-- ---- what checks find

of_list : {X : Type 0} (cause : List X → LoadCause) → ((x : X) (xs : List X) → Names (cause (x ∷ xs)))
    → (xs : List X) → IfCauseNames (if_some cause xs)
of_list cause h [] = tt
of_list cause h (x ∷ xs) = h x xs

same_bytes : (x : List ℕ) → bytes_eq x x ≡ true
same_bytes x = (bytes_eq-Decides x x).1 refl

-- the first of some names is one of them
has_first : (x : List ℕ) (xs : List (List ℕ)) → HasName (is_one_of (x ∷ xs))
has_first x xs = (x, ap (λ b. b || list_any (λ name. bytes_eq name x) xs) (same_bytes x))

of_both_keys : (b : Bool) → IfCauseNames (if_true both_script_keys b)
of_both_keys true = tt
of_both_keys false = tt

by_test : (faults : ScriptFaults) (known : NameSet) (b : Bool) → not (are_none faults) ≡ b
    → IfCauseNames (if_true (bad_scripts faults known) b)
by_test faults known true is = is
by_test faults known false is = tt

of_scripts : (faults : ScriptFaults) (known : NameSet)
    → IfCauseNames (if_true (bad_scripts faults known) (not (are_none faults)))
of_scripts faults known = by_test faults known (not (are_none faults)) refl

of_tool : (tool : List ℕ) (path : Option (List ℕ)) → IfCauseNames (option_map (duplicate_tool tool) path)
of_tool tool None = tt
of_tool tool (Some path) = tt

if_missing : (b : Bool) (o : Outcome) → IsUnread o → IfCauseNames (if b then None else Some (no_text o))
if_missing true o unread = tt
if_missing false o unread = unread

of_outcome : (kind : SourceKind) (o : Outcome) → IfCauseNames (outcome_cause kind o)
of_outcome kind (text t) = tt
of_outcome kind not_found = if_missing (may_be_missing kind) not_found tt
of_outcome kind not_a_directory = if_missing (may_be_missing kind) not_a_directory tt
of_outcome kind (failed message) = tt

of_document : (n : Option Node) → IfCauseNames (document_cause n)
of_document None = tt
of_document (Some n) = tt

of_element : (found : Option Fault) → IfCauseNames (option_map bad_element found)
of_element None = tt
of_element (Some fault) = tt

-- ---- what is wrong with parents

-- the first of some faults, if there is one, names a profile
abbrev FirstIfAny : List ParentFault → Type 0
FirstIfAny [] = Unit {0}
FirstIfAny (fault ∷ faults) = NamesProfile fault

of_parents : (found : List ParentFault) → FirstIfAny found → IfCauseNames (if_some bad_parents found)
of_parents [] h = tt
of_parents (fault ∷ found) h = h

one_more : (fault : Option ParentFault) (found : List ParentFault) → IfSome fault NamesProfile → FirstIfAny found
    → FirstIfAny (cons_option fault found)
one_more None found is rest = rest
one_more (Some fault) found is rest = is

and_more : (found more : List ParentFault) → FirstIfAny found → FirstIfAny more → FirstIfAny (found ++ more)
and_more [] more is rest = rest
and_more (fault ∷ found) more is rest = is

by_tests : (name parent : Name) (a b c : Bool) → IfSome
    (if a then Some (base_with_parent name) else if b then Some (own_parent name) else if c then None else Some (unknown_parent name parent))
    NamesProfile
by_tests name parent true b c = tt
by_tests name parent false true c = tt
by_tests name parent false false true = tt
by_tests name parent false false false = tt

of_parent : (known : Name → Bool) (name : Name) (parent : Option Name)
    → IfSome (option_and_then (parent_fault known name) parent) NamesProfile
of_parent known name None = tt
of_parent known name (Some parent) = by_tests name parent (is_base name) (bytes_eq name parent) (known parent)

of_each : (known : Name → Bool) (written : WrittenParents)
    → FirstIfAny (filter_map (λ p. option_and_then (parent_fault known p.0) p.1) written)
of_each known [] = tt
of_each known (p ∷ written) =
    one_more (option_and_then (parent_fault known p.0) p.1) _ (of_parent known p.0 p.1) (of_each known written)

of_cycles : (cycles : List (List Name)) → FirstIfAny (cycle_faults cycles)
of_cycles [] = tt
of_cycles (cycle ∷ cycles) = tt

of_written : (lower : NameSet) (written : WrittenParents) → FirstIfAny (inheritance_faults lower written)
of_written lower written =
    and_more _ (cycle_faults (cycles_in written)) (of_each (is_known lower written) (default_first written))
    (of_cycles (cycles_in written))

-- ---- steps

abbrev IfFaultNames : Option LoadFault → Type 0
IfFaultNames None = Unit {0}
IfFaultNames (Some fault) = Names fault.cause

-- the first fault of steps, if there is one, names something
record FirstFaultNames (steps : List LoadStep) : Type 0 where
  first : IfFaultNames (first_fault steps)

no_step : FirstFaultNames []
no_step = record { first = tt }

checked : (source : Source) (found : Option LoadCause) (steps : List LoadStep) → IfCauseNames found
    → FirstFaultNames steps → FirstFaultNames (check source found ∷ steps)
checked source None steps is rest = record { first = rest.first }
checked source (Some cause) steps is rest = record { first = is }

one_of : (a b : Option LoadFault) → IfFaultNames a → IfFaultNames b → IfFaultNames (option_or a b)
one_of None b h k = k
one_of (Some fault) b h k = h

both : (xs ys : List LoadStep) → FirstFaultNames xs → FirstFaultNames ys → FirstFaultNames (xs ++ ys)
both xs ys h k = record {
  first = subst IfFaultNames (sym (first_fault-append xs ys)) (one_of (first_fault xs) (first_fault ys) h.first k.first);
}

warned : {X : Type 0} (w : List X → Warning) (xs : List X) → FirstFaultNames (warn_if_some w xs)
warned w [] = no_step
warned w (x ∷ xs) = record { first = tt }

definitions : (features : Features) (source : Source) (file : FileText)
    → FirstFaultNames (definition_steps features source file)
definitions features source file =
    let by_tool = source_class source.kind in
    checked source (group_name_cause source file) _
    (of_list (λ names. ill_named_groups by_tool (is_one_of names)) has_first _)
    (checked source (key_cause file) _ (of_both_keys _)
    (both (deprecated_steps source file) _ (warned (λ _. deprecated_scripts source) file.old_setup_scripts)
    (checked source (feature_cause features file) _ (of_list missing_features (λ feature features. tt) _)
    (checked source (kind_cause file) _ (of_list (λ names. both_script_kinds (is_one_of names)) has_first _)
    (checked source (script_name_cause source file) _
    (of_list (λ names. ill_named_scripts by_tool (is_one_of names)) has_first _)
    (warned (reserved_profiles source) _))))))

empty_sections_of : {M K : Type 0} (source : Source) (order : List (Name × LayerProfile M K))
    → FirstFaultNames (empty_steps_in source order)
empty_sections_of source [] = no_step
empty_sections_of source (p ∷ order) =
    both (empty_steps_of source p.0 p.1) (empty_steps_in source order)
    (warned (λ rules. empty_sections source p.0 (length rules))
    (filter (λ r. names_none r.writes.scripts) p.1.script_rules)) (empty_sections_of source order)

names_of_rules : {M K : Type 0} (leaves : M → List (List ℕ)) (known : KnownSets) (source : Source)
    (order : List (Name × LayerProfile M K)) → FirstFaultNames (name_steps leaves known source order)
names_of_rules leaves known source order =
    checked source (group_cause_in known.groups order) _
    (of_list (λ faults. unknown_groups faults (with_global known.groups)) (λ fault faults. tt) _)
    (both (empty_steps_in source order) _ (empty_sections_of source order)
    (checked source (script_cause_in leaves known order) []
    (of_scripts (script_faults_in leaves known order) (known_scripts known)) no_step))

module _ {M K P : Type 0} (engines : Readings M K P) (features : Features) where
  rules : (lower : NameSet) (known : KnownSets) (source : Source) (file : FileText)
      → FirstFaultNames (rule_steps engines lower known source file)
  rules lower known source file =
      checked source (parent_cause lower file.profiles) _
      (of_parents (inheritance_faults lower (written_parents file.profiles)) (of_written lower (written_parents file.profiles)))
      (checked source (compile_cause engines file.profiles) _
      (of_list compile_refusals (λ fault faults. tt) (compile_faults engines file.profiles))
      (names_of_rules engines.leaves known source (default_first (layer_of engines source file.profiles).profiles)))

  of_source : (below : List SourceText) (s : SourceText) → FirstFaultNames (source_steps engines features below s)
  of_source below s =
      let n = own_tree s in
      let lower = map own_file below in
      let defined = definition_steps features s.source (own_file s) in
      let ruled = rule_steps engines (profiles_in lower) (sets_of (known_to lower (own_file s))) s.source (own_file s) in
      checked s.source (document_cause (tree_of s.text)) (file_steps engines features lower s.source n)
      (of_document (tree_of s.text))
      (both (own_steps s.source n) (defined ++ ruled)
      (checked s.source (element_cause n) (unknown_steps s.source n) (of_element (first (faults a_file [] n)))
      (warned (unknown_keys s.source) _))
      (both defined ruled (definitions features s.source (own_file s))
      (rules (profiles_in lower) (sets_of (known_to lower (own_file s))) s.source (own_file s))))

  of_texts : (below ss : List SourceText) → FirstFaultNames (flat_map (source_steps engines features below) ss)
  of_texts below [] = no_step
  of_texts below (s ∷ ss) =
      both (source_steps engines features below s) (flat_map (source_steps engines features below) ss)
      (of_source below s) (of_texts below ss)

  of_inputs : (below : List SourceText) (is : List Input) → FirstFaultNames (input_steps engines features below is)
  of_inputs below [] = no_step
  of_inputs below (i ∷ is) =
      both (one_input_steps engines features below i) (input_steps engines features (below ++ source_texts_of i) is)
      (checked i.source (outcome_cause i.source.kind i.outcome) _ (of_outcome i.source.kind i.outcome)
      (of_texts below (source_texts_of i)))
      (of_inputs (below ++ source_texts_of i) is)

  of_tools : (before tools : List ToolFile) → FirstFaultNames (tool_steps before tools)
  of_tools before [] = no_step
  of_tools before (t ∷ tools) =
      checked (tool_source t) (second_cause before t) (tool_steps (before ++ t ∷ []) tools)
      (of_tool t.tool (first_path t.tool before)) (of_tools (before ++ t ∷ []) tools)

  of_merged : (repository : Source) (ss : List SourceText) → FirstFaultNames (merged_steps repository ss)
  of_merged repository ss =
      let profiles = (file_text (merged_tree ss)).profiles in
      checked repository (element_cause (merged_tree ss)) _ (of_element (first (faults a_file [] (merged_tree ss))))
      (checked repository (parent_cause no_profiles profiles) []
      (of_parents (inheritance_faults no_profiles (written_parents profiles)) (of_written no_profiles (written_parents profiles)))
      no_step)

  of_load : (files : LoadInputs) → FirstFaultNames (load_steps engines features files)
  of_load files =
      let inputs = input_steps engines features [] (inputs_of files) in
      let whole = merged_steps (repository_of files) (sources_in files) in
      both (tool_steps [] files.tools) (inputs ++ whole) (of_tools [] files.tools)
      (both inputs whole (of_inputs [] (inputs_of files)) (of_merged (repository_of files) (sources_in files)))

-- ---- refusals

module _ (steps : List LoadStep) (old new : List Warning) (names : FirstFaultNames steps) where
  by_cause : (source : Source) (cause : Option LoadCause) → WentThrough steps old new (ending_at source cause)
      → IfCauseNames cause
  by_cause source None went = tt
  by_cause source (Some cause) went = subst IfFaultNames went.0 names.first

  by_kind : (source : Option Source) (kind : ConfigParseErrorKind) → WentThrough steps old new (ending_with source kind)
      → IfCauseNames (cause_view kind)
  by_kind (Some source) kind went = by_cause source (cause_view kind) went
  by_kind None kinds.Memory went = tt
  by_kind None kind went = absurd went

  by_error : (error : ConfigParseError) → WentThrough steps old new (error_view error)
      → IfCauseNames (cause_view error.kind)
  unfolding error_view
  by_error error went = by_kind (source_of error) error.kind went

-- a refusal of a load names something
pub names_something : {M K P : Type 0} (engines : Readings M K P) (features : Features) (files : LoadInputs)
    (old new : List Warning) (error : ConfigParseError)
    → Ran (load_steps engines features files) old new (error_view error) → IfCauseNames (cause_view error.kind)
names_something engines features files old new error ran =
    by_error (load_steps engines features files) old new (of_load engines features files) error ran.is
