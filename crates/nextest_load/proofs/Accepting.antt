-- A load meets no fault exactly if its files are accepted.
use Rattle.std.proofs.Common.{◌≡◌, ◌⊎◌, ◌↔◌, inl, inr, List, [], ◌∷◌, ◌++◌, map, Bool, true, false, IsTrue, Option, None, Some, Result, Ok, Err, IsSome, if◌then◌else◌, MatchResult, option_map, nat_cmp, refl, sym, ap, subst, append_assoc, append-nil, ◌∙◌}
use Rattle.std.specs.Cmp.Lexicographic.{slice_cmp}
use Rattle.std.specs.List.{flat_map}
use Rattle.std.specs.List.Sorted.{IsStrictlySortedBy}
use Rattle.std.specs.Option.{option_or}
use Rattle.nextest_documents.specs.Text.{tree_of}
use Rattle.nextest_engines.specs.Readings.{Readings}
use Rattle.nextest_inheritance.specs.Faults.{is_known}
use Rattle.nextest_inheritance.proofs.Naming.{sound_parents}
use Rattle.nextest_rules.specs.Accepted.{AreAcceptedDefinitions, AreAcceptedRules}
use Rattle.nextest_rules.specs.Definitions.{Features}
use Rattle.nextest_rules.specs.Known.{KnownNames, known_to, sets_of}
use Rattle.nextest_rules.specs.Steps.{if_some, warn_if_some, definition_steps, rule_steps, written_parents, parent_cause}
use Rattle.nextest_sources.specs.Causes.{LoadCause, NameSet, no_text, bad_element, bad_parents}
use Rattle.nextest_sources.specs.Endings.{Ending, passed, refused, no_memory, malformed, error_view, ending, WentThrough, Ran, IsMemory}
use Rattle.nextest_sources.specs.InputFaults.{Each, IsReadOrMissing, HaveOneFileEach, missing_cause, outcome_cause, tool_steps}
use Rattle.nextest_sources.specs.Inputs.{Input, LoadInputs, SourceText, source_texts_of, inputs_of, sources_in, repository_of}
use Rattle.nextest_sources.specs.Sources.{Source, SourceKind, may_be_missing, Outcome, text, not_found, not_a_directory, failed, ToolFile}
use Rattle.nextest_sources.specs.Steps.{LoadStep, check, first_fault}
use Rattle.nextest_sources.specs.Warnings.{Warning, unknown_keys}
use Rattle.nextest_sources.specs.declared.error.ConfigParseError.{ConfigParseError}
use Rattle.nextest_sources.proofs.Ends.{not_passed}
use Rattle.nextest_sources.proofs.Runs.{first_fault-append}
use Rattle.nextest_tables.specs.FileTexts.{FileText, names_in}
use Rattle.nextest_tables.specs.Tables.{a_file}
use Rattle.nextest_tree.specs.Node.{Node}
use Rattle.nextest_tree.specs.Schema.{first, faults, unknown}
use Rattle.nextest_load.specs.Accepted.{IsAcceptedSource, IsAccepted}
use Rattle.nextest_load.specs.Steps.{document_cause, element_cause, in_byte_order, unknown_steps, own_steps, lower_profiles, profiles_in, file_steps, source_steps, one_input_steps, input_steps, no_profiles, merged_steps, load_steps}
use Rattle.nextest_load.specs.Trees.{own_tree, own_file, merged_tree, merged_file}
use Rattle.nextest_load.proofs.SortedTrees.{own_sorted, whole_sorted, profiles_ascend, parents_ascend}

-- steps meet no fault
abbrev pub Pass : List LoadStep → Type 0
Pass steps = first_fault steps ≡ None

or_left : {X : Type 0} (a b : Option X) → option_or a b ≡ None → a ≡ None
or_left None b h = refl
or_left (Some x) b h = h

or_right : {X : Type 0} (a b : Option X) → option_or a b ≡ None → b ≡ None
or_right None b h = h
or_right (Some x) b h = cc

pub pass_left : (xs ys : List LoadStep) → Pass (xs ++ ys) → Pass xs
pass_left xs ys h = or_left (first_fault xs) (first_fault ys) (sym (first_fault-append xs ys) ∙ h)

pub pass_right : (xs ys : List LoadStep) → Pass (xs ++ ys) → Pass ys
pass_right xs ys h = or_right (first_fault xs) (first_fault ys) (sym (first_fault-append xs ys) ∙ h)

pub pass_both : (xs ys : List LoadStep) → Pass xs → Pass ys → Pass (xs ++ ys)
pass_both xs ys h k = first_fault-append xs ys ∙ ap (λ o. option_or o (first_fault ys)) h ∙ k

cause_at : (source : Source) (c : Option LoadCause) (steps : List LoadStep) → Pass (check source c ∷ steps) → c ≡ None
cause_at source None steps h = refl
cause_at source (Some c) steps h = cc

rest_at : (source : Source) (c : Option LoadCause) (steps : List LoadStep) → Pass (check source c ∷ steps) → Pass steps
rest_at source None steps h = h
rest_at source (Some c) steps h = cc

check_passes : (source : Source) (c : Option LoadCause) (steps : List LoadStep) → c ≡ None → Pass steps
    → Pass (check source c ∷ steps)
check_passes source c steps is h = rw is h

warnings_pass : {X : Type 0} (w : List X → Warning) (xs : List X) → Pass (warn_if_some w xs)
warnings_pass w [] = refl
warnings_pass w (x ∷ xs) = refl

unknown_passes : (source : Source) (n : Node) → Pass (unknown_steps source n)
unknown_passes source n = warnings_pass (unknown_keys source) (in_byte_order (unknown a_file [] n))

document_from : (o : Option Node) → document_cause o ≡ None → IsSome o
document_from None h = cc
document_from (Some n) h = refl

document_to : (o : Option Node) → IsSome o → document_cause o ≡ None
document_to None h = cc
document_to (Some n) h = refl

map_none : {X Y : Type 0} (f : X → Y) (o : Option X) → option_map f o ≡ None → o ≡ None
map_none f None h = refl
map_none f (Some x) h = cc

first_none : {X : Type 0} (xs : List X) → first xs ≡ None → xs ≡ []
first_none [] h = refl
first_none (x ∷ xs) h = cc

pub elements_from : (n : Node) → element_cause n ≡ None → faults a_file [] n ≡ []
elements_from n h = first_none (faults a_file [] n) (map_none bad_element (first (faults a_file [] n)) h)

elements_to : (n : Node) → faults a_file [] n ≡ [] → element_cause n ≡ None
elements_to n h = rw h refl

some_none : {X : Type 0} (cause : List X → LoadCause) (xs : List X) → if_some cause xs ≡ None → xs ≡ []
some_none cause [] h = refl
some_none cause (x ∷ xs) h = cc

may_be : (b : Bool) (o : Outcome) → (if b then None else Some (no_text o)) ≡ None → b ≡ true
may_be true o h = refl
may_be false o h = cc

missing_from : (kind : SourceKind) (o : Outcome) → missing_cause kind o ≡ None → IsTrue (may_be_missing kind)
missing_from kind o h = may_be (may_be_missing kind) o h

missing_to : (kind : SourceKind) (o : Outcome) → IsTrue (may_be_missing kind) → missing_cause kind o ≡ None
missing_to kind o h = ap (λ b. if b then None else Some (no_text o)) h

outcome_from : (kind : SourceKind) (o : Outcome) → outcome_cause kind o ≡ None → IsReadOrMissing kind o
outcome_from kind (text t) h = tt
outcome_from kind not_found h = missing_from kind not_found h
outcome_from kind not_a_directory h = missing_from kind not_a_directory h
outcome_from kind (failed message) h = cc

outcome_to : (kind : SourceKind) (o : Outcome) → IsReadOrMissing kind o → outcome_cause kind o ≡ None
outcome_to kind (text t) h = refl
outcome_to kind not_found h = missing_to kind not_found h
outcome_to kind not_a_directory h = missing_to kind not_a_directory h
outcome_to kind (failed message) h = absurd h

-- the law of what sources define
abbrev pub DefinitionsLaw : Features → Type 0
DefinitionsLaw features = (source : Source) (file : FileText)
    → Pass (definition_steps features source file) ↔ AreAcceptedDefinitions features source file

-- the law of rules
abbrev pub RulesLaw : {M K P : Type 0} → Readings M K P → Type 0
RulesLaw engines = (lower : NameSet) (known : KnownNames) (source : Source) (file : FileText)
    → IsStrictlySortedBy (slice_cmp nat_cmp) (names_in file.profiles)
    → Pass (rule_steps engines lower (sets_of known) source file) ↔ AreAcceptedRules engines lower known file

-- the law of tools' files
abbrev pub ToolsLaw : Type 0
ToolsLaw = (tools : List ToolFile) → (first_fault (tool_steps [] tools) ≡ None) ↔ HaveOneFileEach tools

module _ {M K P : Type 0} (engines : Readings M K P) (features : Features)
    (definitions : DefinitionsLaw features) (rules : RulesLaw engines) where
  source_from : (below : List SourceText) (s : SourceText) → Pass (source_steps engines features below s)
      → IsAcceptedSource engines features below s
  source_from below s h =
      let own = own_tree s in
      let file = own_file s in
      let lower = map own_file below in
      let defined = definition_steps features s.source file in
      let ruled = rule_steps engines (profiles_in lower) (sets_of (known_to lower file)) s.source file in
      let after_document = rest_at s.source (document_cause (tree_of s.text))
      (file_steps engines features lower s.source own) h in
      let after_own = pass_right (own_steps s.source own) (defined ++ ruled) after_document in
      record {
        document = document_from (tree_of s.text)
            (cause_at s.source (document_cause (tree_of s.text)) (file_steps engines features lower s.source own) h);
        elements = elements_from own
            (cause_at s.source (element_cause own) (unknown_steps s.source own)
            (pass_left (own_steps s.source own) (defined ++ ruled) after_document));
        definitions = (definitions s.source file).0 (pass_left defined ruled after_own);
        rules = (rules (lower_profiles below) (known_to lower file) s.source file
            (profiles_ascend own (own_sorted s))).0 (pass_right defined ruled after_own);
      }

  source_to : (below : List SourceText) (s : SourceText) → IsAcceptedSource engines features below s
      → Pass (source_steps engines features below s)
  source_to below s h =
      let own = own_tree s in
      let file = own_file s in
      let lower = map own_file below in
      let defined = definition_steps features s.source file in
      let ruled = rule_steps engines (profiles_in lower) (sets_of (known_to lower file)) s.source file in
      check_passes s.source (document_cause (tree_of s.text)) (file_steps engines features lower s.source own)
      (document_to (tree_of s.text) h.document)
      (pass_both (own_steps s.source own) (defined ++ ruled)
      (check_passes s.source (element_cause own) (unknown_steps s.source own) (elements_to own h.elements)
      (unknown_passes s.source own))
      (pass_both defined ruled ((definitions s.source file).1 h.definitions)
      ((rules (lower_profiles below) (known_to lower file) s.source file
      (profiles_ascend own (own_sorted s))).1 h.rules)))

  -- each source is accepted over those below it, from some on
  AllFrom : List SourceText → List SourceText → Type 0
  AllFrom under [] = Unit {0}
  AllFrom under (s ∷ ss) = IsAcceptedSource engines features under s × AllFrom (under ++ s ∷ []) ss

  all_over : (under ss : List SourceText) → AllFrom under ss
      → (below : List SourceText) (s : SourceText) (above : List SourceText) → ss ≡ below ++ s ∷ above
      → IsAcceptedSource engines features (under ++ below) s
  unfolding AllFrom
  all_over under [] h [] s above e = cc
  all_over under [] h (x ∷ below) s above e = cc
  all_over under (y ∷ ys) h [] s above e =
      let same : y ≡ s = cc in
      rw (← same, append-nil under) h.0
  all_over under (y ∷ ys) h (x ∷ below) s above e =
      let others : ys ≡ below ++ s ∷ above = cc in
      let head : y ≡ x = cc in
      subst (λ (bs : List SourceText). IsAcceptedSource engines features bs s)
      (append_assoc under (y ∷ []) below ∙ ap (λ z. under ++ z ∷ below) head)
      (all_over (under ++ y ∷ []) ys h.1 below s above others)

  over_all : (under ss : List SourceText)
      → ((below : List SourceText) (s : SourceText) (above : List SourceText) → ss ≡ below ++ s ∷ above
      → IsAcceptedSource engines features (under ++ below) s) → AllFrom under ss
  unfolding AllFrom
  over_all under [] h = tt
  over_all under (y ∷ ys) h = (
    subst (λ (bs : List SourceText). IsAcceptedSource engines features bs y) (append-nil under) (h [] y ys refl),
    over_all (under ++ y ∷ []) ys
        (λ below s above e. subst (λ (bs : List SourceText). IsAcceptedSource engines features bs s)
        (sym (append_assoc under (y ∷ []) below)) (h (y ∷ below) s above (ap (λ ss. y ∷ ss) e))),
  )

  -- inputs pass exactly if each is read or may be missing, and each source is accepted
  record Fine (under : List SourceText) (is : List Input) : Type 0 where
    outcomes : Each (λ i. IsReadOrMissing i.source.kind i.outcome) is
    sources : AllFrom under (flat_map source_texts_of is)

  no_text_from : (under : List SourceText) (i : Input) (is : List Input) → source_texts_of i ≡ []
      → Pass (one_input_steps engines features under i ++ input_steps engines features (under ++ source_texts_of i) is)
      → (Pass (input_steps engines features under is) → Fine under is) → Fine under (i ∷ is)
  no_text_from under i is none h ih =
      let cause = outcome_cause i.source.kind i.outcome in
      let here = one_input_steps engines features under i in
      let rest = pass_right here (input_steps engines features (under ++ source_texts_of i) is) h in
      let same : under ++ source_texts_of i ≡ under = ap (λ ts. under ++ ts) none ∙ append-nil under in
      let more = ih (subst (λ (us : List SourceText). Pass (input_steps engines features us is)) same rest) in
      record {
        outcomes = (
          outcome_from i.source.kind i.outcome
              (cause_at i.source cause (flat_map (source_steps engines features under) (source_texts_of i))
              (pass_left here (input_steps engines features (under ++ source_texts_of i) is) h)),
          more.outcomes,
        );
        sources = subst (λ (ts : List SourceText). AllFrom under (ts ++ flat_map source_texts_of is))
            (sym none) more.sources;
      }

  text_from : (under : List SourceText) (i : Input) (s : SourceText) (is : List Input)
      → source_texts_of i ≡ s ∷ []
      → Pass (one_input_steps engines features under i ++ input_steps engines features (under ++ source_texts_of i) is)
      → (Pass (input_steps engines features (under ++ s ∷ []) is) → Fine (under ++ s ∷ []) is) → Fine under (i ∷ is)
  unfolding AllFrom
  text_from under i s is one h ih =
      let cause = outcome_cause i.source.kind i.outcome in
      let here = one_input_steps engines features under i in
      let rest = pass_right here (input_steps engines features (under ++ source_texts_of i) is) h in
      let first_part = pass_left here (input_steps engines features (under ++ source_texts_of i) is) h in
      let said = rest_at i.source cause (flat_map (source_steps engines features under) (source_texts_of i))
      first_part in
      let only : flat_map (source_steps engines features under) (source_texts_of i)
      ≡ source_steps engines features under s = rw one (append-nil (source_steps engines features under s)) in
      let more = ih (subst (λ (ts : List SourceText). Pass (input_steps engines features (under ++ ts) is)) one rest) in
      record {
        outcomes = (
          outcome_from i.source.kind i.outcome
              (cause_at i.source cause (flat_map (source_steps engines features under) (source_texts_of i))
              first_part),
          more.outcomes,
        );
        sources = subst (λ (ts : List SourceText). AllFrom under (ts ++ flat_map source_texts_of is))
            (sym one) (source_from under s (subst Pass only said), more.sources);
      }

  input_from : (under : List SourceText) (source : Source) (o : Outcome) (is : List Input)
      → let i : Input = record { source = source; outcome = o } in Pass (input_steps engines features under (i ∷ is))
      → ((us : List SourceText) → Pass (input_steps engines features us is) → Fine us is) → Fine under (i ∷ is)
  input_from under source (text t) is h ih =
      text_from under (record { source = source; outcome = text t }) (record { source = source; text = t }) is
      refl h (ih (under ++ record { source = source; text = t } ∷ []))
  input_from under source not_found is h ih =
      no_text_from under (record { source = source; outcome = not_found }) is refl h (ih under)
  input_from under source not_a_directory is h ih =
      no_text_from under (record { source = source; outcome = not_a_directory }) is refl h (ih under)
  input_from under source (failed message) is h ih =
      no_text_from under (record { source = source; outcome = failed message }) is refl h (ih under)

  inputs_from : (under : List SourceText) (is : List Input) → Pass (input_steps engines features under is)
      → Fine under is
  unfolding AllFrom
  inputs_from under [] h = record { outcomes = tt; sources = tt }
  inputs_from under (i ∷ is) h = input_from under i.source i.outcome is h (λ us. inputs_from us is)

  no_text_to : (under : List SourceText) (i : Input) (is : List Input) → source_texts_of i ≡ []
      → IsReadOrMissing i.source.kind i.outcome → Pass (input_steps engines features under is)
      → Pass (one_input_steps engines features under i ++ input_steps engines features (under ++ source_texts_of i) is)
  no_text_to under i is none read h =
      let cause = outcome_cause i.source.kind i.outcome in
      let nothing : Pass (flat_map (source_steps engines features under) (source_texts_of i)) = rw none refl in
      let same : under ≡ under ++ source_texts_of i = sym (ap (λ ts. under ++ ts) none ∙ append-nil under) in
      pass_both (one_input_steps engines features under i)
      (input_steps engines features (under ++ source_texts_of i) is)
      (check_passes i.source cause (flat_map (source_steps engines features under) (source_texts_of i))
      (outcome_to i.source.kind i.outcome read) nothing)
      (subst (λ (us : List SourceText). Pass (input_steps engines features us is)) same h)

  text_to : (under : List SourceText) (i : Input) (s : SourceText) (is : List Input)
      → source_texts_of i ≡ s ∷ [] → IsReadOrMissing i.source.kind i.outcome
      → IsAcceptedSource engines features under s → Pass (input_steps engines features (under ++ s ∷ []) is)
      → Pass (one_input_steps engines features under i ++ input_steps engines features (under ++ source_texts_of i) is)
  text_to under i s is one read accepted h =
      let cause = outcome_cause i.source.kind i.outcome in
      let only : flat_map (source_steps engines features under) (source_texts_of i)
      ≡ source_steps engines features under s = rw one (append-nil (source_steps engines features under s)) in
      pass_both (one_input_steps engines features under i)
      (input_steps engines features (under ++ source_texts_of i) is)
      (check_passes i.source cause (flat_map (source_steps engines features under) (source_texts_of i))
      (outcome_to i.source.kind i.outcome read) (subst Pass (sym only) (source_to under s accepted)))
      (subst (λ (ts : List SourceText). Pass (input_steps engines features (under ++ ts) is)) (sym one) h)

  input_to : (under : List SourceText) (source : Source) (o : Outcome) (is : List Input)
      → let i : Input = record { source = source; outcome = o } in IsReadOrMissing source.kind o
      → AllFrom under (source_texts_of i ++ flat_map source_texts_of is)
      → ((us : List SourceText) → AllFrom us (flat_map source_texts_of is)
      → Pass (input_steps engines features us is)) → Pass (input_steps engines features under (i ∷ is))
  unfolding AllFrom
  input_to under source (text t) is read h ih =
      let s : SourceText = record { source = source; text = t } in
      text_to under (record { source = source; outcome = text t }) s is refl read h.0 (ih (under ++ s ∷ []) h.1)
  input_to under source not_found is read h ih =
      no_text_to under (record { source = source; outcome = not_found }) is refl read (ih under h)
  input_to under source not_a_directory is read h ih =
      no_text_to under (record { source = source; outcome = not_a_directory }) is refl read (ih under h)
  input_to under source (failed message) is read h ih =
      no_text_to under (record { source = source; outcome = failed message }) is refl read (ih under h)

  inputs_to : (under : List SourceText) (is : List Input)
      → Each (λ i. IsReadOrMissing i.source.kind i.outcome) is → AllFrom under (flat_map source_texts_of is)
      → Pass (input_steps engines features under is)
  inputs_to under [] read h = refl
  inputs_to under (i ∷ is) read h = input_to under i.source i.outcome is read.0 h (λ us. inputs_to us is read.1)

  module _ (tools : ToolsLaw) (files : LoadInputs) where
    -- no step of a load is a fault exactly if its files are accepted
    pub accepted_from : Pass (load_steps engines features files) → IsAccepted engines features files
    accepted_from h =
        let ss = sources_in files in
        let first_part = tool_steps [] files.tools in
        let inputs = input_steps engines features [] (inputs_of files) in
        let whole = merged_steps (repository_of files) ss in
        let n = merged_tree ss in
        let parents = parent_cause no_profiles (merged_file ss).profiles in
        let after = pass_right first_part (inputs ++ whole) h in
        let fine = inputs_from [] (inputs_of files) (pass_left inputs whole after) in
        let last = pass_right inputs whole after in
        let written = written_parents (merged_file ss).profiles in
        record {
          tools = (tools files.tools).0 (pass_left first_part (inputs ++ whole) h);
          outcomes = fine.outcomes;
          sources = all_over [] ss fine.sources;
          merged_elements = elements_from n
              (cause_at (repository_of files) (element_cause n) (check (repository_of files) parents ∷ []) last);
          merged_parents = (sound_parents (is_known no_profiles written) written (parents_ascend n (whole_sorted ss))).0
              (some_none bad_parents _ (cause_at (repository_of files) parents []
              (rest_at (repository_of files) (element_cause n) (check (repository_of files) parents ∷ []) last)));
        }

    pub accepted_to : IsAccepted engines features files → Pass (load_steps engines features files)
    accepted_to h =
        let ss = sources_in files in
        let inputs = input_steps engines features [] (inputs_of files) in
        let whole = merged_steps (repository_of files) ss in
        let n = merged_tree ss in
        let parents = parent_cause no_profiles (merged_file ss).profiles in
        let written = written_parents (merged_file ss).profiles in
        let none = (sound_parents (is_known no_profiles written) written
        (parents_ascend n (whole_sorted ss))).1 h.merged_parents in
        let sound : parents ≡ None = ap (if_some bad_parents) none in
        pass_both (tool_steps [] files.tools) (inputs ++ whole) ((tools files.tools).1 h.tools)
        (pass_both inputs whole (inputs_to [] (inputs_of files) h.outcomes (over_all [] ss h.sources))
        (check_passes (repository_of files) (element_cause n) (check (repository_of files) parents ∷ [])
        (elements_to n h.merged_elements)
        (check_passes (repository_of files) parents [] sound refl)))

    refusal_is : (old new : List Warning) (e : ConfigParseError) (o : Ending) → error_view e ≡ o
        → WentThrough (load_steps engines features files) old new o
        → IsMemory e ⊎ (IsAccepted engines features files → ⊥)
    refusal_is old new e passed is h = absurd (not_passed e is)
    refusal_is old new e (refused fault) is h =
        inr (λ fine. let bad : Some fault ≡ None = sym h.0 ∙ accepted_to fine in cc)
    refusal_is old new e no_memory is h = inl is
    refusal_is old new e malformed is h = absurd h

    -- what the end of a load says of its files
    pub verdict : {T : Type 0} {old new : List Warning} (r : Result T ConfigParseError)
        → Ran (load_steps engines features files) old new (ending r)
        → MatchResult r (λ _. IsAccepted engines features files)
        (λ e. IsMemory e ⊎ (IsAccepted engines features files → ⊥))
    verdict (Ok x) ran = accepted_from ran.is.0
    verdict {T} {old} {new} (Err e) ran = refusal_is old new e (error_view e) refl ran.is
