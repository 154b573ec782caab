-- What a load reports of a tree is exact.
use Rattle.std.proofs.Common.{◌≡◌, ℕ, arith, List, [], ◌∷◌, ◌++◌, map, flat_map, filter, length, Contains, Bool, true, false, Option, None, Some, option_map, refl, sym, ap, subst, ◌∙◌, if◌then◌else◌}
use Rattle.std.specs.Option.{option_or}
use Rattle.std.proofs.lemmas.Bool.{false≢true}
use Rattle.std.proofs.lemmas.List.Elements.{Contains-append_left, Contains-append_right}
use Rattle.nextest_documents.specs.Text.{tree_of}
use Rattle.nextest_engines.specs.Readings.{Readings}
use Rattle.nextest_inheritance.specs.Faults.{ParentFault, inheritance_faults}
use Rattle.nextest_inheritance.specs.Names.{default_first}
use Rattle.nextest_rules.specs.CompileFaults.{compile_faults}
use Rattle.nextest_rules.specs.Definitions.{Features, source_class}
use Rattle.nextest_rules.specs.Known.{KnownSets, known_to, known_scripts, sets_of, with_global}
use Rattle.nextest_rules.specs.RuleFaults.{names_none, script_faults_in}
use Rattle.nextest_rules.specs.Rules.{LayerProfile, layer_of}
use Rattle.nextest_rules.specs.Steps.{if_some, if_true, warn_if_some, written_parents, parent_cause, group_name_cause, script_name_cause, key_cause, feature_cause, kind_cause, compile_cause, group_cause_in, script_cause_in, deprecated_steps, empty_steps_of, empty_steps_in, definition_steps, name_steps, rule_steps}
use Rattle.nextest_sources.specs.Causes.{NameSet, LoadCause, LoadFault, at_source, duplicate_tool, no_text, bad_element, ill_named_groups, ill_named_scripts, both_script_keys, missing_features, both_script_kinds, bad_parents, compile_refusals, unknown_groups, bad_scripts}
use Rattle.nextest_sources.specs.Endings.{Ending, passed, refused, no_memory, malformed, WentThrough, Ran}
use Rattle.nextest_sources.specs.InputFaults.{first_path, second_cause, missing_cause, outcome_cause, tool_steps}
use Rattle.nextest_sources.specs.Inputs.{Input, LoadInputs, SourceText, inputs_of, source_texts_of, sources_in, repository_of, tool_source}
use Rattle.nextest_sources.specs.Sources.{Source, SourceKind, may_be_missing, Outcome, text, not_found, not_a_directory, failed, ToolFile}
use Rattle.nextest_sources.specs.Steps.{LoadStep, check, first_fault}
use Rattle.nextest_sources.specs.Warnings.{Warning, deprecated_scripts, empty_sections, reserved_profiles, unknown_keys}
use Rattle.nextest_sources.proofs.Runs.{first_fault-append}
use Rattle.nextest_tables.specs.FileTexts.{FileText, file_text}
use Rattle.nextest_tables.specs.Written.{Name}
use Rattle.nextest_tables.specs.Tables.{a_file}
use Rattle.nextest_tree.specs.Node.{Node, IsSorted}
use Rattle.nextest_tree.specs.Schema.{Fault, first, faults, is_one_of}
use Rattle.nextest_load.specs.Exact.{Checks, at_own_tree, at_merged_tree, IsExact}
use Rattle.nextest_load.specs.Laws.{IsLeastFault, TellCycles}
use Rattle.nextest_load.specs.Steps.{document_cause, element_cause, unknown_steps, own_steps, profiles_in, no_profiles, file_steps, source_steps, one_input_steps, input_steps, merged_steps, load_steps}
use Rattle.nextest_load.specs.Trees.{own_tree, own_file, merged_tree}
use Rattle.nextest_load.proofs.LeastFaults.{refuses_cycles, refuses_least}
use Rattle.nextest_load.proofs.SortedTrees.{own_sorted, whole_sorted}

-- a cause that is reported of no tree
abbrev is_apart : LoadCause → Bool
is_apart (bad_element fault) = false
is_apart (bad_parents faults) = false
is_apart cause = true

-- a check reports nothing of a tree
abbrev StaysApart : Option LoadCause → Type 0
StaysApart None = Unit {0}
StaysApart (Some cause) = is_apart cause ≡ true

apart_list : {X : Type 0} (cause : List X → LoadCause) → ((xs : List X) → is_apart (cause xs) ≡ true)
    → (xs : List X) → StaysApart (if_some cause xs)
apart_list cause h [] = tt
apart_list cause h (x ∷ xs) = h (x ∷ xs)

apart_test : (cause : LoadCause) → is_apart cause ≡ true → (b : Bool) → StaysApart (if_true cause b)
apart_test cause h true = h
apart_test cause h false = tt

apart_tool : (tool : List ℕ) (path : Option (List ℕ)) → StaysApart (option_map (duplicate_tool tool) path)
apart_tool tool None = tt
apart_tool tool (Some path) = refl

apart_if : (b : Bool) (o : Outcome) → StaysApart (if b then None else Some (no_text o))
apart_if true o = tt
apart_if false o = refl

apart_missing : (kind : SourceKind) (o : Outcome) → StaysApart (missing_cause kind o)
apart_missing kind o = apart_if (may_be_missing kind) o

apart_outcome : (kind : SourceKind) (o : Outcome) → StaysApart (outcome_cause kind o)
apart_outcome kind (text t) = tt
apart_outcome kind not_found = apart_missing kind not_found
apart_outcome kind not_a_directory = apart_missing kind not_a_directory
apart_outcome kind (failed message) = refl

apart_document : (n : Option Node) → StaysApart (document_cause n)
apart_document None = refl
apart_document (Some n) = tt

module _ (files : LoadInputs) where
  -- what a check of a source finds is exact
  record Finds (source : Source) (found : Option LoadCause) : Type 0 where
    told : (cause : LoadCause) → found ≡ Some cause → IsExact files (at_source source cause)

  -- the first fault of steps is exact
  record AreExact (steps : List LoadStep) : Type 0 where
    first : (fault : LoadFault) → first_fault steps ≡ Some fault → IsExact files fault

  -- ---- what checks find

  nothing : (source : Source) → Finds source None
  nothing source = record { told = λ cause is. cc }

  just : (source : Source) (cause : LoadCause) → IsExact files (at_source source cause) → Finds source (Some cause)
  just source cause h = record {
    told = λ other is. let same : cause ≡ other = cc in
        subst (λ (c : LoadCause). IsExact files (at_source source c)) same h;
  }

  of_no_tree : (source : Source) (cause : LoadCause) → is_apart cause ≡ true → IsExact files (at_source source cause)
  of_no_tree source cause h = record {
    elements = λ fault is. absurd (false≢true (sym (ap is_apart is) ∙ h));
    parents = λ faults is. absurd (false≢true (sym (ap is_apart is) ∙ h));
  }

  apart : (source : Source) (found : Option LoadCause) → StaysApart found → Finds source found
  apart source None h = nothing source
  apart source (Some cause) h = just source cause (of_no_tree source cause h)

  element_of : (source : Source) (n : Node) → Checks files source n → (found : Option Fault)
      → ((fault : Fault) → option_map bad_element found ≡ Some (bad_element fault) → IsLeastFault n fault)
      → Finds source (option_map bad_element found)
  element_of source n checks None least = nothing source
  element_of source n checks (Some fault) least = just source (bad_element fault) (record {
    elements = λ other is. (n, checks, least other (ap Some is));
    parents = λ faults is. cc;
  })

  finds_elements : (source : Source) (n : Node) → Checks files source n → IsSorted n → Finds source (element_cause n)
  finds_elements source n checks sorted =
      element_of source n checks (first (faults a_file [] n)) (refuses_least n sorted)

  parents_of : (source : Source) (n : Node) → Checks files source n → (found : List ParentFault)
      → TellCycles (file_text n) found → Finds source (if_some bad_parents found)
  parents_of source n checks [] tells = nothing source
  parents_of source n checks (f ∷ fs) tells = just source (bad_parents (f ∷ fs)) (record {
    elements = λ fault is. cc;
    parents = λ faults is. let same : f ∷ fs ≡ faults = cc in
        (n, checks, subst (λ (found : List ParentFault). TellCycles (file_text n) found) same tells);
  })

  finds_parents : (lower : NameSet) (source : Source) (n : Node) → Checks files source n → IsSorted n
      → Finds source (parent_cause lower (file_text n).profiles)
  finds_parents lower source n checks sorted =
      parents_of source n checks (inheritance_faults lower (written_parents (file_text n).profiles))
      (refuses_cycles lower n sorted)

  -- ---- steps

  no_step : AreExact []
  no_step = record { first = λ fault is. cc }

  checked : (source : Source) (found : Option LoadCause) (steps : List LoadStep) → Finds source found
      → AreExact steps → AreExact (check source found ∷ steps)
  checked source None steps finds rest = record { first = λ fault is. rest.first fault is }
  checked source (Some cause) steps finds rest = record {
    first = λ fault is. let same : at_source source cause ≡ fault = cc in
        subst (λ (f : LoadFault). IsExact files f) same (finds.told cause refl);
  }

  one_of : (a b : Option LoadFault) → ((fault : LoadFault) → a ≡ Some fault → IsExact files fault)
      → ((fault : LoadFault) → b ≡ Some fault → IsExact files fault)
      → (fault : LoadFault) → option_or a b ≡ Some fault → IsExact files fault
  one_of None b h k fault is = k fault is
  one_of (Some f) b h k fault is = h fault is

  both : (xs ys : List LoadStep) → AreExact xs → AreExact ys → AreExact (xs ++ ys)
  both xs ys h k = record {
    first =
        λ fault is. one_of (first_fault xs) (first_fault ys) h.first k.first fault
        (sym (first_fault-append xs ys) ∙ is);
  }

  warned : {X : Type 0} (w : List X → Warning) (xs : List X) → AreExact (warn_if_some w xs)
  warned w [] = no_step
  warned w (x ∷ xs) = record { first = λ fault is. cc }

  definitions : (features : Features) (source : Source) (file : FileText)
      → AreExact (definition_steps features source file)
  definitions features source file =
      let by_tool = source_class source.kind in
      checked source (group_name_cause source file) _
      (apart source _ (apart_list (λ names. ill_named_groups by_tool (is_one_of names)) (λ names. refl) _))
      (checked source (key_cause file) _ (apart source _ (apart_test both_script_keys refl _))
      (both (deprecated_steps source file) _ (warned (λ _. deprecated_scripts source) file.old_setup_scripts)
      (checked source (feature_cause features file) _ (apart source _ (apart_list missing_features (λ missing. refl) _))
      (checked source (kind_cause file) _
      (apart source _ (apart_list (λ names. both_script_kinds (is_one_of names)) (λ names. refl) _))
      (checked source (script_name_cause source file) _
      (apart source _ (apart_list (λ names. ill_named_scripts by_tool (is_one_of names)) (λ names. refl) _))
      (warned (reserved_profiles source) _))))))

  empty_sections_of : {M K : Type 0} (source : Source) (order : List (Name × LayerProfile M K))
      → AreExact (empty_steps_in source order)
  empty_sections_of source [] = no_step
  empty_sections_of source (p ∷ order) =
      both (empty_steps_of source p.0 p.1) (empty_steps_in source order)
      (warned (λ rules. empty_sections source p.0 (length rules))
      (filter (λ r. names_none r.writes.scripts) p.1.script_rules)) (empty_sections_of source order)

  names_of_rules : {M K : Type 0} (leaves : M → List (List ℕ)) (known : KnownSets) (source : Source)
      (order : List (Name × LayerProfile M K)) → AreExact (name_steps leaves known source order)
  names_of_rules leaves known source order =
      checked source (group_cause_in known.groups order) _
      (apart source _ (apart_list (λ faults. unknown_groups faults (with_global known.groups)) (λ faults. refl) _))
      (both (empty_steps_in source order) _ (empty_sections_of source order)
      (checked source (script_cause_in leaves known order) []
      (apart source _ (apart_test
      (bad_scripts (script_faults_in leaves known order) (known_scripts known)) refl _)) no_step))

  module _ {M K P : Type 0} (engines : Readings M K P) (features : Features) where
    rules : (lower : NameSet) (known : KnownSets) (source : Source) (n : Node) → Checks files source n
        → IsSorted n → AreExact (rule_steps engines lower known source (file_text n))
    rules lower known source n checks sorted =
        let profiles = (file_text n).profiles in
        checked source (parent_cause lower profiles) _ (finds_parents lower source n checks sorted)
        (checked source (compile_cause engines profiles) _
        (apart source _ (apart_list compile_refusals (λ refusals. refl) (compile_faults engines profiles)))
        (names_of_rules engines.leaves known source (default_first (layer_of engines source profiles).profiles)))

    of_source : (below : List SourceText) (s : SourceText) → Contains (sources_in files) s
        → AreExact (source_steps engines features below s)
    of_source below s is_one =
        let n = own_tree s in
        let lower = map own_file below in
        let defined = definition_steps features s.source (own_file s) in
        let ruled = rule_steps engines (profiles_in lower) (sets_of (known_to lower (own_file s))) s.source
        (own_file s) in
        checked s.source (document_cause (tree_of s.text)) (file_steps engines features lower s.source n)
        (apart s.source _ (apart_document (tree_of s.text)))
        (both (own_steps s.source n) (defined ++ ruled)
        (checked s.source (element_cause n) (unknown_steps s.source n)
        (finds_elements s.source n (at_own_tree s is_one) (own_sorted s)) (warned (unknown_keys s.source) _))
        (both defined ruled (definitions features s.source (own_file s))
        (rules (profiles_in lower) (sets_of (known_to lower (own_file s))) s.source n (at_own_tree s is_one)
        (own_sorted s))))

    -- what is in all of these is a source of the load
    abbrev AreSources : List SourceText → Type 0
    AreSources ss = (s : SourceText) → Contains ss s → Contains (sources_in files) s

    of_texts : (below ss : List SourceText) → AreSources ss
        → AreExact (flat_map (source_steps engines features below) ss)
    of_texts below [] are = no_step
    of_texts below (s ∷ ss) are =
        both (source_steps engines features below s) (flat_map (source_steps engines features below) ss)
        (of_source below s (are s (Contains-append_left (s ∷ []) ss s (0, omega arith, refl))))
        (of_texts below ss (λ t is. are t (Contains-append_right (s ∷ []) ss t is)))

    of_inputs : (below : List SourceText) (is : List Input) → AreSources (flat_map source_texts_of is)
        → AreExact (input_steps engines features below is)
    of_inputs below [] are = no_step
    of_inputs below (i ∷ is) are =
        both (one_input_steps engines features below i) (input_steps engines features (below ++ source_texts_of i) is)
        (checked i.source (outcome_cause i.source.kind i.outcome) _
        (apart i.source _ (apart_outcome i.source.kind i.outcome))
        (of_texts below (source_texts_of i)
        (λ s at. are s (Contains-append_left (source_texts_of i) (flat_map source_texts_of is) s at))))
        (of_inputs (below ++ source_texts_of i) is
        (λ s at. are s (Contains-append_right (source_texts_of i) (flat_map source_texts_of is) s at)))

    of_tools : (before tools : List ToolFile) → AreExact (tool_steps before tools)
    of_tools before [] = no_step
    of_tools before (t ∷ tools) = checked (tool_source t) (second_cause before t) (tool_steps (before ++ t ∷ []) tools)
        (apart (tool_source t) _ (apart_tool t.tool (first_path t.tool before))) (of_tools (before ++ t ∷ []) tools)

    of_merged : AreExact (merged_steps (repository_of files) (sources_in files))
    of_merged =
        let n = merged_tree (sources_in files) in
        let sorted = whole_sorted (sources_in files) in
        checked (repository_of files) (element_cause n) _ (finds_elements (repository_of files) n at_merged_tree sorted)
        (checked (repository_of files) (parent_cause no_profiles (file_text n).profiles) []
        (finds_parents no_profiles (repository_of files) n at_merged_tree sorted) no_step)

    of_load : AreExact (load_steps engines features files)
    of_load =
        let inputs = input_steps engines features [] (inputs_of files) in
        let whole = merged_steps (repository_of files) (sources_in files) in
        both (tool_steps [] files.tools) (inputs ++ whole) (of_tools [] files.tools)
        (both inputs whole (of_inputs [] (inputs_of files) (λ s at. at)) of_merged)

    went_exact : (old new : List Warning) (end : Ending)
        → WentThrough (load_steps engines features files) old new end → (fault : LoadFault)
        → end ≡ refused fault → IsExact files fault
    went_exact old new passed went fault is = cc
    went_exact old new (refused f) went fault is = let same : f ≡ fault = cc in
        subst (λ (f : LoadFault). IsExact files f) same (of_load.first f went.0)
    went_exact old new no_memory went fault is = cc
    went_exact old new malformed went fault is = cc

    -- the fault that a load ended with is exact
    pub exact : {old new : List Warning} {end : Ending} → Ran (load_steps engines features files) old new end
        → (fault : LoadFault) → end ≡ refused fault → IsExact files fault
    exact {old} {new} {end} ran = went_exact old new end ran.is
