-- A configuration of accepted files is closed.
use Rattle.std.proofs.Common.{◌≡◌, inl, inr, ℕ, ◌+◌, List, [], ◌∷◌, ◌++◌, ◌||◌, map, reverse, Bool, true, false, Option, None, Some, Result, Ok, Err, IsSome, refl, sym, ap, subst, append_assoc, ◌∙◌}
use Rattle.std.specs.List.{AllByRecursion, enumerate_from, flat_map}
use Rattle.std.specs.Map.{keys_of}
use Rattle.std.specs.Result.{result_ok}
use Rattle.std.specs.Set.{is_member}
use Rattle.std.specs.Str.{bytes_eq}
use Rattle.std.proofs.lemmas.Bool.{or_cases}
use Rattle.std.proofs.lemmas.List.{map-append, reverse-append}
use Rattle.nextest_elements.specs.TestGroup.{custom_group_text}
use Rattle.nextest_elements.specs.declared.test_group.TestGroup.{TestGroup}
use Rattle.nextest_elements.specs.declared.test_group.TestGroup.TheVariants as groups
use Rattle.nextest_engines.specs.Engines.{Binary, RefusalText}
use Rattle.nextest_engines.specs.Readings.{Readings}
use Rattle.nextest_engines.specs.declared.queries.FiltersetKind.TheVariants.{DefaultFilter}
use Rattle.nextest_inheritance.specs.Faults.{is_known}
use Rattle.nextest_inheritance.specs.Parents.{WrittenParents, parents_in, HasOneChain}
use Rattle.nextest_inheritance.proofs.Naming.{one_chain_each}
use Rattle.nextest_rules.specs.Accepted.{IfWritten, IsAmong, AreKnownScripts, ListsWithoutTests, IsAcceptedProfile}
use Rattle.nextest_rules.specs.Definitions.{Features}
use Rattle.nextest_rules.specs.Known.{KnownNames, known_to}
use Rattle.nextest_rules.specs.Rules.{RuleId, Compiled, OverrideUse, ScriptRuleUse, LayerProfile, Layer, meaning_of, override_rule, script_rule, layer_profile, layer_of}
use Rattle.nextest_rules.specs.Steps.{written_parents}
use Rattle.nextest_sources.specs.InputFaults.{Each}
use Rattle.nextest_sources.specs.Inputs.{LoadInputs, SourceText, sources_in}
use Rattle.nextest_sources.specs.Sources.{Source}
use Rattle.nextest_tables.specs.Complete.{IsReadable, IsMergedTree}
use Rattle.nextest_tables.specs.Defaults.{defaults}
use Rattle.nextest_tables.specs.FileTexts.{OverrideText, ScriptRuleText, ProfileText, FileText, names_in, IsIn, setup_ids_of}
use Rattle.nextest_tables.specs.Tables.{a_file}
use Rattle.nextest_tables.specs.Texts.{at_key, each_in, entries_at, group_in}
use Rattle.nextest_tables.specs.Written.{Name}
use Rattle.nextest_tree.specs.declared.key.Key.TheVariants as keys
use Rattle.nextest_tree.specs.Key.{key_text}
use Rattle.nextest_tree.specs.Node as tree
use Rattle.nextest_tree.specs.Node.{Node, Entries, no_entries, entry}
use Rattle.nextest_tree.specs.Schema.{faults, is_one_of}
use Rattle.nextest_load.specs.Accepted.{IsAccepted}
use Rattle.nextest_load.specs.Closed.{EachOverride, AnswersBinaries, HasDefaults, IsClosed}
use Rattle.nextest_load.specs.Config.{ScriptTables, config_of}
use Rattle.nextest_load.specs.Laws.{AnswerDefaultFilters}
use Rattle.nextest_load.specs.Loading.{source_layer}
use Rattle.nextest_load.specs.Merged.{profiles_of}
use Rattle.nextest_load.specs.Steps.{no_profiles}
use Rattle.nextest_load.specs.Trees.{tree_in, own_tree, own_file, merged_tree, merged_file}
use Rattle.nextest_load.proofs.Keeping.{KeyPath, HasKey, LeadsAlong, leads_alone, layers_give, table_has, has_table, inner_has, has_inner}
use Rattle.nextest_load.proofs.Leading.{readable_leads}
use Rattle.nextest_load.proofs.Merging.{parents_of, one_of_both}
use Rattle.nextest_load.proofs.MergedScripts.{HaveScriptIds}

each_from : {X : Type 0} {P Q : X → Type 0} → ((x : X) → P x → Q x) → (xs : List X) → Each P xs → Each Q xs
each_from f [] h = tt
each_from f (x ∷ xs) h = (f x h.0, each_from f xs h.1)

pub each_mapped : {X Y : Type 0} (P : Y → Type 0) (f : X → Y) (xs : List X) → Each (λ x. P (f x)) xs → Each P (map f xs)
each_mapped P f [] h = tt
each_mapped P f (x ∷ xs) h = (h.0, each_mapped P f xs h.1)

each_appended : {X : Type 0} (P : X → Type 0) (xs ys : List X) → Each P xs → Each P ys → Each P (xs ++ ys)
each_appended P [] ys h k = k
each_appended P (x ∷ xs) ys h k = (h.0, each_appended P xs ys h.1 k)

pub each_reversed : {X : Type 0} (P : X → Type 0) (xs : List X) → Each P xs → Each P (reverse xs)
each_reversed P [] h = tt
each_reversed P (x ∷ xs) h =
    subst (λ ys. Each P ys) (sym (reverse-append (x ∷ []) xs))
    (each_appended P (reverse xs) (x ∷ []) (each_reversed P xs h.1) (h.0, tt))

pub each_split : {X : Type 0} (P : X → Type 0) (before rest : List X)
    → ((below : List X) (x : X) (above : List X) → before ++ rest ≡ below ++ x ∷ above → P x) → Each P rest
each_split P before [] h = tt
each_split P before (x ∷ rest) h = (
  h before x rest refl,
  each_split P (before ++ x ∷ []) rest
      (λ below y above e. h below y above (sym (append_assoc before (x ∷ []) rest) ∙ e)),
)

each_enumerated : {X : Type 0} (P : X → Type 0) (i : ℕ) (xs : List X) → Each P xs
    → Each (λ e. P e.1) (enumerate_from i xs)
each_enumerated P i [] h = tt
each_enumerated P i (x ∷ xs) h = (h.0, each_enumerated P (i + 1) xs h.1)

all_each : {X : Type 0} (P : X → Type 0) (xs : List X) → AllByRecursion P xs → Each P xs
all_each P [] h = tt
all_each P (x ∷ xs) h = (h.0, all_each P xs h.1)

each_all : {X Y : Type 0} (P : X → Type 0) (Q : Y → Type 0) (f : X → Y) → ((x : X) → P x → Q (f x))
    → (xs : List X) → Each P xs → AllByRecursion Q (map f xs)
each_all P Q f step [] h = tt
each_all P Q f step (x ∷ xs) h = (step x h.0, each_all P Q f step xs h.1)

-- one of some sources defines a name
record Defines (names : FileText → List Name) (ts : List SourceText) (q : Name) : Type 0 where
  before : List SourceText
  definer : SourceText
  after : List SourceText
  splits : ts ≡ before ++ definer ∷ after
  has : is_one_of (names (own_file definer)) q ≡ true

defined_by : (names : FileText → List Name) (ts : List SourceText) (q : Name)
    → is_one_of (flat_map names (map own_file ts)) q ≡ true → Defines names ts q
defined_by names [] q h = cc
defined_by names (t ∷ ts) q h =
    elim (or_cases (is_one_of (names (own_file t)) q) (is_one_of (flat_map names (map own_file ts)) q)
    (sym (one_of_both (names (own_file t)) (flat_map names (map own_file ts)) q) ∙ h)) [
      | inl here ↦ record { before = []; definer = t; after = ts; splits = refl; has = here }
      | inr more ↦ let d = defined_by names ts q more in
          record {
            before = t ∷ d.before;
            definer = d.definer;
            after = d.after;
            splits =
                ap (λ us. t ∷ us) d.splits;
            has = d.has;
          }
    ]

-- a name that is known to a source is defined by one of all sources
known_by : (names : FileText → List Name) (ss below above : List SourceText) (s : SourceText) (q : Name)
    → ss ≡ below ++ s ∷ above → is_one_of (flat_map names (map own_file below ++ own_file s ∷ [])) q ≡ true
    → Defines names ss q
known_by names ss below above s q e h =
    let known : is_one_of (flat_map names (map own_file (below ++ s ∷ []))) q ≡ true =
    ap (λ fs. is_one_of (flat_map names fs) q) (map-append own_file below (s ∷ [])) ∙ h in
    let d = defined_by names (below ++ s ∷ []) q known in
    record {
      before = d.before;
      definer = d.definer;
      after = d.after ++ above;
      splits = e ∙ sym (append_assoc below (s ∷ []) above) ∙ ap (λ us. us ++ above) d.splits
          ∙ append_assoc d.before (d.definer ∷ d.after) above;
      has = d.has;
    }

names_keys : {X : Type 0} (f : Node → X) (es : Entries) → names_in (each_in f es) ≡ tree.keys es
names_keys f no_entries = refl
names_keys f (entry k n es) = ap (λ ks. k ∷ ks) (names_keys f es)

-- sources without fault
abbrev pub AllReadable : List SourceText → Type 0
AllReadable ss = Each (λ t. faults a_file [] (own_tree t) ≡ []) ss

all_lead : (path : KeyPath) → ((n : Node) → faults a_file [] n ≡ [] → LeadsAlong path n)
    → (ss : List SourceText) → AllReadable ss → AllByRecursion (LeadsAlong path) (map tree_in ss)
all_lead path leads ss readable =
    each_all (λ t. faults a_file [] (own_tree t) ≡ []) (LeadsAlong path) tree_in
    (λ t fine. leads_alone path (tree_in t) defaults (leads (own_tree t) fine)) ss readable

-- what one of the sources has at a path, the merged tree has
path_kept : (path : KeyPath) (q : Name) → ((n : Node) → faults a_file [] n ≡ [] → LeadsAlong path n)
    → (ss before after : List SourceText) (t : SourceText) → ss ≡ before ++ t ∷ after → AllReadable ss
    → HasKey path q (own_tree t) → HasKey path q (merged_tree ss)
path_kept path q leads ss before after t e readable h =
    let layers : map tree_in ss ≡ map tree_in before ++ tree_in t ∷ map tree_in after =
    ap (map tree_in) e ∙ map-append tree_in before (t ∷ after) in
    let lead = subst (λ (ns : List Node). AllByRecursion (LeadsAlong path) ns) layers
    (all_lead path leads ss readable) in
    rw layers (layers_give path q defaults (map tree_in before) (tree_in t) (map tree_in after) lead h)

module _ (ss before after : List SourceText) (t : SourceText) (e : ss ≡ before ++ t ∷ after)
    (readable : AllReadable ss) (q : Name) where
  groups_kept : is_one_of (names_in (own_file t).groups) q ≡ true
      → is_one_of (names_in (merged_file ss).groups) q ≡ true
  groups_kept h =
      let own = own_tree t in
      let whole = merged_tree ss in
      let there = table_has q (at_key keys.TestGroups own)
      (sym (ap (λ ks. is_one_of ks q) (names_keys group_in (entries_at keys.TestGroups own))) ∙ h) in
      let kept = path_kept (key_text keys.TestGroups ∷ []) q (λ n f. (readable_leads n f).groups) ss before
      after t e readable there in
      ap (λ ks. is_one_of ks q) (names_keys group_in (entries_at keys.TestGroups whole))
      ∙ has_table q (at_key keys.TestGroups whole) kept

  old_kept : is_one_of (own_file t).old_setup_scripts q ≡ true → is_one_of (merged_file ss).old_setup_scripts q ≡ true
  old_kept h = has_table q (at_key keys.Script (merged_tree ss))
      (path_kept (key_text keys.Script ∷ []) q (λ n f. (readable_leads n f).old_setup) ss before after t e
      readable (table_has q (at_key keys.Script (own_tree t)) h))

  new_kept : is_one_of (own_file t).new_setup_scripts q ≡ true → is_one_of (merged_file ss).new_setup_scripts q ≡ true
  new_kept h = has_inner (key_text keys.Setup) q (at_key keys.Scripts (merged_tree ss))
      (path_kept (key_text keys.Scripts ∷ key_text keys.Setup ∷ []) q (λ n f. (readable_leads n f).new_setup)
      ss before after t e readable (inner_has (key_text keys.Setup) q (at_key keys.Scripts (own_tree t)) h))

  wrapper_kept : is_one_of (own_file t).wrapper_scripts q ≡ true → is_one_of (merged_file ss).wrapper_scripts q ≡ true
  wrapper_kept h = has_inner (key_text keys.Wrapper) q (at_key keys.Scripts (merged_tree ss))
      (path_kept (key_text keys.Scripts ∷ key_text keys.Wrapper ∷ []) q (λ n f. (readable_leads n f).wrapper)
      ss before after t e readable (inner_has (key_text keys.Wrapper) q (at_key keys.Scripts (own_tree t)) h))

  first_of_two : (a b : Bool) → a ≡ true → (a || b) ≡ true
  first_of_two true b h = refl
  first_of_two false b h = cc

  second_of_two : (a b : Bool) → b ≡ true → (a || b) ≡ true
  second_of_two true b h = refl
  second_of_two false b h = h

  setup_kept : is_one_of (setup_ids_of (own_file t)) q ≡ true → is_one_of (setup_ids_of (merged_file ss)) q ≡ true
  setup_kept h =
      let file = merged_file ss in
      let said = or_cases (is_one_of (own_file t).new_setup_scripts q)
      (is_one_of (own_file t).old_setup_scripts q)
      (sym (one_of_both (own_file t).new_setup_scripts (own_file t).old_setup_scripts q) ∙ h) in
      let either : (is_one_of file.new_setup_scripts q || is_one_of file.old_setup_scripts q) ≡ true = elim said [
        | inl new ↦ first_of_two (is_one_of file.new_setup_scripts q) (is_one_of file.old_setup_scripts q)
            (new_kept new)
        | inr old ↦ second_of_two (is_one_of file.new_setup_scripts q) (is_one_of file.old_setup_scripts q)
            (old_kept old)
      ] in
      one_of_both file.new_setup_scripts file.old_setup_scripts q ∙ either

among_more : (names more : List Name) → ((q : Name) → is_one_of names q ≡ true → is_one_of more q ≡ true)
    → (o : Option TestGroup) → IsAmong names o → IsAmong more o
among_more names more f None h = tt
among_more names more f (Some groups.Global) h = tt
among_more names more f (Some (groups.Custom g)) h = f (custom_group_text g) h

written_more : {X : Type 0} (P Q : X → Type 0) → ((x : X) → P x → Q x) → (o : Option X) → IfWritten o P → IfWritten o Q
written_more P Q f None h = tt
written_more P Q f (Some x) h = f x h

-- the sources of accepted files are without fault
pub sources_readable : {M K P : Type 0} (engines : Readings M K P) (features : Features) (files : LoadInputs)
    → IsAccepted engines features files → AllReadable (sources_in files)
sources_readable engines features files accepted =
    each_split (λ s. faults a_file [] (own_tree s) ≡ []) [] (sources_in files)
    (λ below s above e. (accepted.sources below s above e).elements)

-- the merged tree of accepted files is one of files without fault
pub merged_tree_readable : {M K P : Type 0} (engines : Readings M K P) (features : Features)
    (files : LoadInputs) → IsAccepted engines features files
    → IsMergedTree (map tree_in (sources_in files)) (merged_tree (sources_in files))
merged_tree_readable engines features files accepted = (
  each_all (λ s. faults a_file [] (own_tree s) ≡ []) IsReadable tree_in (λ s fine. fine) (sources_in files)
      (sources_readable engines features files accepted),
  refl,
)

module _ {M K P : Type 0} (engines : Readings M K P) where
  overrides_closed : (A : Compiled M K (OverrideUse M) → Type 0) (B : OverrideText → Type 0)
      → ((id : RuleId) (o : OverrideText) → B o → A (override_rule engines id o))
      → (source : Source) (profiles : List (Name × ProfileText))
      → Each (λ p. Each B p.1.overrides) profiles
      → Each (λ p. Each A p.1.overrides) (layer_of engines source profiles).profiles
  overrides_closed A B f source profiles h =
      each_mapped (λ (p : Name × LayerProfile M K). Each A p.1.overrides)
      (λ p. (p.0, layer_profile engines source p.0 p.1)) profiles
      (each_from (λ p all. each_mapped A
      (λ (e : ℕ × OverrideText). override_rule engines
      (record { source = source; profile = p.0; index = e.0 }) e.1) (enumerate_from 0 p.1.overrides)
      (each_from (λ e b. f (record { source = source; profile = p.0; index = e.0 }) e.1 b)
      (enumerate_from 0 p.1.overrides) (each_enumerated B 0 p.1.overrides all))) profiles h)

  script_rules_closed : (A : Compiled M K ScriptRuleUse → Type 0) (B : ScriptRuleText → Type 0)
      → ((id : RuleId) (r : ScriptRuleText) → B r → A (script_rule engines id r))
      → (source : Source) (profiles : List (Name × ProfileText))
      → Each (λ p. Each B p.1.script_rules) profiles
      → Each (λ p. Each A p.1.script_rules) (layer_of engines source profiles).profiles
  script_rules_closed A B f source profiles h =
      each_mapped (λ (p : Name × LayerProfile M K). Each A p.1.script_rules)
      (λ p. (p.0, layer_profile engines source p.0 p.1)) profiles
      (each_from (λ p all. each_mapped A
      (λ (e : ℕ × ScriptRuleText). script_rule engines
      (record { source = source; profile = p.0; index = e.0 }) e.1) (enumerate_from 0 p.1.script_rules)
      (each_from (λ e b. f (record { source = source; profile = p.0; index = e.0 }) e.1 b)
      (enumerate_from 0 p.1.script_rules) (each_enumerated B 0 p.1.script_rules all))) profiles h)

  fine_groups : (known : KnownNames) (profiles : List (Name × ProfileText))
      → Each (λ p. IsAcceptedProfile engines known p.1) profiles
      → Each (λ p. Each (λ o. IsAmong known.groups o.settings.test_group) p.1.overrides) profiles
  fine_groups known [] h = tt
  fine_groups known (p ∷ ps) h = (h.0.groups, fine_groups known ps h.1)

  fine_scripts : (known : KnownNames) (profiles : List (Name × ProfileText))
      → Each (λ p. IsAcceptedProfile engines known p.1) profiles
      → Each (λ p. Each (λ r. AreKnownScripts known r.scripts) p.1.script_rules) profiles
  fine_scripts known [] h = tt
  fine_scripts known (p ∷ ps) h = (h.0.scripts, fine_scripts known ps h.1)

  fine_lists : (known : KnownNames) (profiles : List (Name × ProfileText))
      → Each (λ p. IsAcceptedProfile engines known p.1) profiles
      → Each (λ p. Each (ListsWithoutTests engines) p.1.script_rules) profiles
  fine_lists known [] h = tt
  fine_lists known (p ∷ ps) h = (h.0.lists, fine_lists known ps h.1)

  answers_at : (law : AnswerDefaultFilters engines) (t : List ℕ) (read : Result M RefusalText)
      → engines.read_filter DefaultFilter t ≡ read
      → ((m : M) → engines.read_filter DefaultFilter t ≡ Ok m → engines.leaves m ≡ [])
      → IfWritten (result_ok read)
      (λ m. (binary : Binary) (default : M) → IsSome (engines.matches_binary m binary default))
  answers_at law t (Ok m) is none = law t m is (none m is)
  answers_at law t (Err refusal) is none = tt

  answers_with : (law : AnswerDefaultFilters engines) (filter : Option (List ℕ))
      → ((t : List ℕ) (m : M) → filter ≡ Some t → engines.read_filter DefaultFilter t ≡ Ok m → engines.leaves m ≡ [])
      → IfWritten (meaning_of (engines.read_filter DefaultFilter) filter)
      (λ m. (binary : Binary) (default : M) → IsSome (engines.matches_binary m binary default))
  answers_with law None none = tt
  answers_with law (Some t) none = answers_at law t (engines.read_filter DefaultFilter t) refl (λ m. none t m refl)

  -- a filter beside a list wrapper has a known value for each binary
  answers : (law : AnswerDefaultFilters engines) (id : RuleId) (r : ScriptRuleText) → ListsWithoutTests engines r
      → AnswersBinaries engines.matches_binary (script_rule engines id r)
  answers law id r lists some = answers_with law r.filter (lists some)

  -- a fact of the layers of sources
  layers_closed : (A : Layer M K → Type 0) (ss : List SourceText)
      → ((below : List SourceText) (s : SourceText) (above : List SourceText) → ss ≡ below ++ s ∷ above
      → A (source_layer engines s)) → Each A (reverse (map (source_layer engines) ss))
  layers_closed A ss h = each_reversed A (map (source_layer engines) ss)
      (each_mapped A (source_layer engines) ss (each_split (λ s. A (source_layer engines s)) [] ss h))

  -- each custom group that an override writes is one of the merged tree
  module _ (features : Features) (files : LoadInputs) (accepted : IsAccepted engines features files) where
    readable : AllReadable (sources_in files)
    readable = sources_readable engines features files accepted

    known_group : (below above : List SourceText) (s : SourceText) → sources_in files ≡ below ++ s ∷ above
        → (q : Name) → is_one_of (known_to (map own_file below) (own_file s)).groups q ≡ true
        → is_one_of (names_in (merged_file (sources_in files)).groups) q ≡ true
    known_group below above s e q h =
        let d = known_by (λ f. names_in f.groups) (sources_in files) below above s q e h in
        groups_kept (sources_in files) d.before d.after d.definer d.splits readable q d.has

    pub groups_closed : EachOverride
        (λ r. IsAmong (names_in (merged_file (sources_in files)).groups) r.writes.settings.test_group)
        (config_of engines (sources_in files))
    groups_closed =
        let ss = sources_in files in
        let group_names = names_in (merged_file ss).groups in
        let Group : Compiled M K (OverrideUse M) → Type 0 = λ r. IsAmong group_names r.writes.settings.test_group in
        let known = λ (below : List SourceText) (s : SourceText). known_to (map own_file below) (own_file s) in
        layers_closed (λ (l : Layer M K). Each (λ p. Each Group p.1.overrides) l.profiles) ss
        (λ below s above e. overrides_closed Group (λ o. IsAmong (known below s).groups o.settings.test_group)
        (λ id o among. among_more (known below s).groups group_names (known_group below above s e)
        o.settings.test_group among) s.source (own_file s).profiles
        (fine_groups (known below s) (own_file s).profiles (accepted.sources below s above e).rules.profiles))

  module _ (features : Features) (files : LoadInputs) (scripts : ScriptTables)
      (law : AnswerDefaultFilters engines) (accepted : IsAccepted engines features files)
      (same : HaveScriptIds (merged_file (sources_in files)) scripts) where
    all_readable : AllReadable (sources_in files)
    all_readable = sources_readable engines features files accepted

    known_setup : (below above : List SourceText) (s : SourceText) → sources_in files ≡ below ++ s ∷ above
        → (q : Name) → IsIn (known_to (map own_file below) (own_file s)).setup_scripts q
        → IsIn (names_in scripts.setup) q
    known_setup below above s e q h =
        let d = known_by setup_ids_of (sources_in files) below above s q e h in
        (same.setup q).1 (setup_kept (sources_in files) d.before d.after d.definer d.splits all_readable q d.has)

    known_wrapper : (below above : List SourceText) (s : SourceText) → sources_in files ≡ below ++ s ∷ above
        → (q : Name) → IsIn (known_to (map own_file below) (own_file s)).wrapper_scripts q
        → IsIn (names_in scripts.wrapper) q
    known_wrapper below above s e q h =
        let d = known_by (λ f. f.wrapper_scripts) (sources_in files) below above s q e h in
        (same.wrapper q).1 (wrapper_kept (sources_in files) d.before d.after d.definer d.splits all_readable q d.has)

    keys_seen : (ps : List (Name × ProfileText)) → names_in (profiles_of ps) ≡ keys_of (written_parents ps)
    keys_seen [] = refl
    keys_seen (p ∷ ps) = ap (λ names. p.0 ∷ names) (keys_seen ps)

    or_false : (a : Bool) → (a || false) ≡ true → a ≡ true
    or_false true h = refl
    or_false false h = cc

    -- the configuration that accepted files mean is closed
    pub closed : (HasDefaults (profiles_of (merged_file (sources_in files)).profiles))
        → IsClosed engines.matches_binary (config_of engines (sources_in files)) scripts
    closed has =
        let ss = sources_in files in
        let written = written_parents (merged_file ss).profiles in
        let profiles = λ (below above : List SourceText) (s : SourceText) (e : ss ≡ below ++ s ∷ above).
        (accepted.sources below s above e).rules.profiles in
        let ps = (merged_file ss).profiles in
        let chain : WrittenParents → List Name → Type 0 = λ es ns. Each (HasOneChain (parents_in es) ns) ns in
        let written_chains : chain written (keys_of written) =
        all_each (HasOneChain (parents_in written) (keys_of written)) (keys_of written)
        (one_chain_each written (is_known no_profiles written)
        (λ name known. or_false (is_member bytes_eq (keys_of written) name) known) accepted.merged_parents)
        in
        let named_chains : chain written (names_in (profiles_of ps)) =
        subst (chain written) (sym (keys_seen ps)) written_chains in
        let known = λ (below : List SourceText) (s : SourceText). known_to (map own_file below) (own_file s) in
        let Setup : Compiled M K ScriptRuleUse → Type 0 = λ r. Each (IsIn (names_in scripts.setup)) r.writes.scripts.setup in
        let ListWrapper : Compiled M K ScriptRuleUse → Type 0 =
        λ r. IfWritten r.writes.scripts.list_wrapper (IsIn (names_in scripts.wrapper)) in
        let RunWrapper : Compiled M K ScriptRuleUse → Type 0 =
        λ r. IfWritten r.writes.scripts.run_wrapper (IsIn (names_in scripts.wrapper)) in
        let Answers : Compiled M K ScriptRuleUse → Type 0 = AnswersBinaries engines.matches_binary in
        let in_rules = λ (A : Compiled M K ScriptRuleUse → Type 0) (l : Layer M K). Each
        (λ p. Each A p.1.script_rules) l.profiles in
        record {
          groups = groups_closed features files accepted;
          setup_scripts = layers_closed (in_rules Setup) ss
              (λ below s above e. script_rules_closed Setup (λ r. AreKnownScripts (known below s) r.scripts)
              (λ id r are. each_from {P = IsIn (known below s).setup_scripts} {Q = IsIn (names_in scripts.setup)}
              (known_setup below above s e) r.scripts.setup are.setup) s.source (own_file s).profiles
              (fine_scripts (known below s) (own_file s).profiles (profiles below above s e)));
          list_wrappers = layers_closed (in_rules ListWrapper) ss
              (λ below s above e. script_rules_closed ListWrapper (λ r. AreKnownScripts (known below s) r.scripts)
              (λ id r are. written_more (IsIn (known below s).wrapper_scripts) (IsIn (names_in scripts.wrapper))
              (known_wrapper below above s e) r.scripts.list_wrapper are.list_wrapper) s.source
              (own_file s).profiles
              (fine_scripts (known below s) (own_file s).profiles (profiles below above s e)));
          run_wrappers = layers_closed (in_rules RunWrapper) ss
              (λ below s above e. script_rules_closed RunWrapper (λ r. AreKnownScripts (known below s) r.scripts)
              (λ id r are. written_more (IsIn (known below s).wrapper_scripts) (IsIn (names_in scripts.wrapper))
              (known_wrapper below above s e) r.scripts.run_wrapper are.run_wrapper) s.source (own_file s).profiles
              (fine_scripts (known below s) (own_file s).profiles (profiles below above s e)));
          list_filters = layers_closed (in_rules Answers) ss
              (λ below s above e. script_rules_closed Answers (ListsWithoutTests engines) (answers law)
              s.source (own_file s).profiles
              (fine_lists (known below s) (own_file s).profiles (profiles below above s e)));
          chains = subst (λ (es : WrittenParents). chain es (names_in (profiles_of ps))) (sym (parents_of ps))
              named_chains;
          defaults = has;
        }
