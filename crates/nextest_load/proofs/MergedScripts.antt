-- The scripts of a configuration are those of the merged tree, in the order of the files.
use Rattle.std.proofs.Common.{◌≡◌, inl, inr, ◌⊎◌, ◌↔◌, List, [], ◌∷◌, ◌++◌, ◌||◌, map, Bool, true, false, cond, Option, None, Some, IsSome, IsTrue, is_some, option_map, option_and_then, unwrap_or, refl, sym, ap, subst, ◌∙◌}
use Rattle.std.specs.BTreeMap.{is_at}
use Rattle.std.specs.Cmp.Lexicographic.{slice_cmp}
use Rattle.std.specs.Option.{option_map_or, option_or}
use Rattle.std.specs.Ordering.{nat_cmp}
use Rattle.std.specs.Str.{bytes_eq}
use Rattle.std.proofs.lemmas.Bool.{or_left, or_right, true≢false}
use Rattle.std.proofs.lemmas.Map.Text.{is_eq-slice_cmp}
use Rattle.nextest_documents.specs.Merge.{over, merged}
use Rattle.nextest_documents.specs.Shown.{node_at, kind_of}
use Rattle.nextest_documents.specs.Text.{tree_of}
use Rattle.nextest_rules.specs.Rules.{at_name}
use Rattle.nextest_places.specs.Standing.{has_id, stands_in}
use Rattle.nextest_scripts.specs.ScriptId.{script_text}
use Rattle.nextest_scripts.specs.declared.script_id.ScriptId.{ScriptId}
use Rattle.nextest_sources.specs.Inputs.{SourceText}
use Rattle.nextest_tables.specs.Defaults.{defaults}
use Rattle.nextest_tables.specs.FileTexts.{FileText, file_text, names_in, IsIn, setup_ids_of}
use Rattle.nextest_tables.specs.Scripts.{FileScripts, AreFileScripts, SpellByName}
use Rattle.nextest_tables.specs.Texts.{at_key}
use Rattle.nextest_tables.specs.Written.{Name}
use Rattle.nextest_tree.specs.declared.key.Key.TheVariants as keys
use Rattle.nextest_tree.specs.Key.{key_text}
use Rattle.nextest_tree.specs.Node as tree
use Rattle.nextest_tree.specs.Node.{Node, table, array, text, int, bool, opaque, Entries, no_entries, entry, get, member_of}
use Rattle.nextest_tree.specs.Schema.{is_one_of}
use Rattle.nextest_load.specs.Config.{ScriptTables}
use Rattle.nextest_load.specs.ScriptNames.{AreIdsOf, AreNamed, AllComeFirst, by_id}
use Rattle.nextest_load.specs.Scripts.{Section, sections_at, setup_path, old_setup_path, wrapper_path, AllDefinedBefore, AreScriptsOf}
use Rattle.nextest_load.specs.Trees.{tree_in, merged_tree, merged_file}
use Rattle.nextest_load.proofs.Defining.{turned, stands_is, all_defined_before}
use Rattle.nextest_load.proofs.Keeping.{KeyPath, HasKey, There, either_key, table_has, inner_has}
use Rattle.nextest_load.proofs.Merging.{one_of_both}
use Rattle.nextest_load.proofs.NamesInOrder.{one_of_more}
use Rattle.nextest_load.proofs.Placing.{or_none}

-- Two lists have the same names.
abbrev pub HaveSame : List Name → List Name → Type 0
HaveSame names others = (name : Name) → IsIn names name ↔ IsIn others name

-- names that tests don't tell apart are the same
same_names : (names others : List Name) → ((id : Name) → is_one_of names id ≡ is_one_of others id)
    → HaveSame names others
same_names names others same id = let P : Bool → Type 0 = λ b. IsTrue b in
    (λ h. subst P (same id) h, λ h. subst P (sym (same id)) h)

-- what is at a name is there exactly if the name is
pub named_at : {X : Type 0} (es : List (Name × X)) (q : Name) → is_some (at_name q es) ≡ is_one_of (names_in es) q
named_at [] q = refl
named_at (e ∷ es) q = at_cond (is_at (slice_cmp nat_cmp q) e.0) (bytes_eq e.0 q) e.1 (at_name q es) _
    (is_eq-slice_cmp q e.0 ∙ turned q e.0) (named_at es q)
  where
    at_cond : {X : Type 0} (b c : Bool) (x : X) (o : Option X) (more : Bool) → b ≡ c → is_some o ≡ more
        → is_some (cond b (Some x) o) ≡ (c || more)
    at_cond true true x o more is h = refl
    at_cond true false x o more is h = cc
    at_cond false true x o more is h = cc
    at_cond false false x o more is h = h

-- what is spelled is under the keys of its table
spelled_names : {X : Type 0} (P : Node → X → Type 0) (es : Entries) (xs : List (Name × X))
    → SpellByName P es xs → names_in xs ≡ tree.keys es
spelled_names P no_entries [] h = refl
spelled_names P (entry k n es) (x ∷ xs) h = (λ i. h.0 i ∷ spelled_names P es xs h.2 i)
spelled_names P no_entries (x ∷ xs) h = absurd h
spelled_names P (entry k n es) [] h = absurd h

some_of_either : {X : Type 0} (o p : Option X) → is_some (option_or o p) ≡ (is_some o || is_some p)
some_of_either None p = refl
some_of_either (Some x) p = refl

-- Scripts have the ids that a file defines.
pub record HaveScriptIds (file : FileText) (scripts : ScriptTables) : Type 0 where
  pub setup : HaveSame (names_in scripts.setup) (setup_ids_of file)
  pub wrapper : HaveSame (names_in scripts.wrapper) file.wrapper_scripts

-- so have the scripts of sources
pub have_ids : (ss : List SourceText) (scripts : ScriptTables) → AreScriptsOf ss scripts
    → HaveScriptIds (merged_file ss) scripts
have_ids ss scripts are =
    let new = spelled_names _ _ are.file.new_setup are.in_merged_tree.new_setup in
    let old = spelled_names _ _ are.file.old_setup are.in_merged_tree.old_setup in
    let wrappers = spelled_names _ _ are.file.wrapper are.in_merged_tree.wrapper in
    let file = merged_file ss in record {
      setup = same_names _ _ (λ id.
          sym (named_at scripts.setup id) ∙ ap is_some (are.setup id)
          ∙ some_of_either (at_name id are.file.new_setup) (at_name id are.file.old_setup)
          ∙ (λ i. named_at are.file.new_setup id i || named_at are.file.old_setup id i)
          ∙ (λ i. is_one_of (new i) id || is_one_of (old i) id)
          ∙ sym (one_of_both file.new_setup_scripts file.old_setup_scripts id));
      wrapper = same_names _ _ (λ id. sym (named_at scripts.wrapper id) ∙ ap is_some (are.wrapper id)
          ∙ named_at are.file.wrapper id ∙ ap (λ ns. is_one_of ns id) wrappers);
    }

-- a key of the table at a path is there
some_there : (o : Option Node) → IsSome o → is_some (option_and_then (λ n. Some (kind_of n)) o) ≡ true
some_there None h = h
some_there (Some n) h = refl

there_along : (path : KeyPath) (q : Name) (o : Option Node)
    → ((n : Node) → HasKey path q n → has_id path n q ≡ true) → There (HasKey path q) o
    → is_some (option_and_then (node_at (path ++ q ∷ [])) o) ≡ true
there_along path q None ih h = absurd h
there_along path q (Some n) ih h = ih n h

has_key : (path : KeyPath) (q : Name) (n : Node) → HasKey path q n → has_id path n q ≡ true
has_key [] q (table es) h = some_there (get q es) h
has_key [] q (array ns) h = h
has_key [] q (text t) h = h
has_key [] q (int z) h = h
has_key [] q (bool b) h = h
has_key [] q opaque h = h
has_key (k ∷ path) q (table es) h = there_along path q (get k es) (has_key path q) h
has_key (k ∷ path) q (array ns) h = absurd h
has_key (k ∷ path) q (text t) h = absurd h
has_key (k ∷ path) q (int z) h = absurd h
has_key (k ∷ path) q (bool b) h = absurd h
has_key (k ∷ path) q opaque h = absurd h

empty_has_none : (path : KeyPath) (q : Name) → HasKey path q (table no_entries) → ⊥
empty_has_none [] q h = true≢false (sym h)
empty_has_none (k ∷ path) q h = h

stands_of : (path : KeyPath) (q : Name) (o : Option Node) → HasKey path q (unwrap_or o (table no_entries))
    → option_map_or (λ document. has_id path document q) o false ≡ true
stands_of path q None h = absurd (empty_has_none path q h)
stands_of path q (Some n) h = has_key path q n h

-- so it is in the source's text
stands_in_text : (path : KeyPath) (q : Name) (s : SourceText) → HasKey path q (tree_in s)
    → stands_in path s.text q ≡ true
unfolding stands_in
stands_in_text path q s h = stands_of path q (tree_of s.text) h

-- a key of layers over a base is one of the base, or named in some layer
named_in_layers : (path : KeyPath) (q : Name) (ss : List SourceText) (base : Node) (names : List Name)
    → AreIdsOf (sections_at path ss) names → HasKey path q (merged base (map tree_in ss))
    → HasKey path q base ⊎ (is_one_of names q ≡ true)
named_in_layers path q [] base names are h = inl h
named_in_layers path q (s ∷ ss) base names (own, more, is, order, rest) h =
    let both : is_one_of names q ≡ (is_one_of own q || is_one_of more q) =
    ap (λ ns. is_one_of ns q) is ∙ one_of_more own more q in
    elim (named_in_layers path q ss (over (tree_in s) base) more rest h) [
      | inr later ↦ inr (both ∙ or_right (is_one_of own q) (is_one_of more q) later)
      | inl below ↦ elim (either_key path q (tree_in s) base below) [
        | inl here ↦ inr (both ∙ or_left (is_one_of own q) (is_one_of more q)
            (stands_is path s.text own order q ∙ stands_in_text path q s here))
        | inr lower ↦ inl lower
      ]
    ]

-- a key of the merged tree is named, where the defaults have none
pub merged_named : (path : KeyPath) (q : Name) (ss : List SourceText) (names : List Name)
    → (HasKey path q defaults → ⊥) → AreIdsOf (sections_at path ss) names → HasKey path q (merged_tree ss)
    → is_one_of names q ≡ true
merged_named path q ss names none are h =
    elim (named_in_layers path q ss defaults names are h) [
      | inl below ↦ absurd (none below)
      | inr named ↦ named
    ]

-- the defaults define no script
defaults_setup : (q : Name) → HasKey setup_path q defaults → ⊥
unfolding defaults key_text
defaults_setup q h = h

defaults_old : (q : Name) → HasKey old_setup_path q defaults → ⊥
unfolding defaults key_text
defaults_old q h = h

defaults_wrapper : (q : Name) → HasKey wrapper_path q defaults → ⊥
unfolding defaults key_text
defaults_wrapper q h = h

-- a key of a root that is a table
under_root : (k : Name) (path : KeyPath) (q : Name) (n : Node) → There (HasKey path q) (member_of k n)
    → HasKey (k ∷ path) q n
under_root k path q n h = h

-- an id that is spelled in the merged tree is named
spelled_named : {X : Type 0} (P : Node → X → Type 0) (es : Entries) (xs : List (Name × X)) (names : List Name)
    (q : Name) → SpellByName P es xs → (is_one_of (tree.keys es) q ≡ true → is_one_of names q ≡ true)
    → IsSome (at_name q xs) → is_one_of names q ≡ true
spelled_named P es xs names q spelled named some =
    named (ap (λ ns. is_one_of ns q) (sym (spelled_names P es xs spelled)) ∙ sym (named_at xs q) ∙ some)

module _ (ss : List SourceText) where
  new_named : (names : List Name) (q : Name) → AreIdsOf (sections_at setup_path ss) names
      → is_one_of (file_text (merged_tree ss)).new_setup_scripts q ≡ true → is_one_of names q ≡ true
  new_named names q are h =
      merged_named setup_path q ss names (defaults_setup q) are
      (inner_has (key_text keys.Setup) q (at_key keys.Scripts (merged_tree ss)) h)

  old_named : (names : List Name) (q : Name) → AreIdsOf (sections_at old_setup_path ss) names
      → is_one_of (file_text (merged_tree ss)).old_setup_scripts q ≡ true → is_one_of names q ≡ true
  old_named names q are h =
      merged_named old_setup_path q ss names (defaults_old q) are (table_has q (at_key keys.Script (merged_tree ss)) h)

  wrapper_named : (names : List Name) (q : Name) → AreIdsOf (sections_at wrapper_path ss) names
      → is_one_of (file_text (merged_tree ss)).wrapper_scripts q ≡ true → is_one_of names q ≡ true
  wrapper_named names q are h =
      merged_named wrapper_path q ss names (defaults_wrapper q) are
      (inner_has (key_text keys.Wrapper) q (at_key keys.Scripts (merged_tree ss)) h)

-- what is shown of what is at an id
pub seen_at : {V X : Type 0} (see : V → X) (es : List (ScriptId × V)) (q : Name)
    → at_name q (map (λ e. (script_text e.0, see e.1)) es) ≡ option_map see (at_name q (by_id es))
seen_at see [] q = refl
seen_at see (e ∷ es) q = at_cond see (is_at (slice_cmp nat_cmp q) (script_text e.0)) e.1 _
    (at_name q (by_id es)) (seen_at see es q)
  where
    at_cond : {V X : Type 0} (see : V → X) (b : Bool) (v : V) (o : Option X) (p : Option V)
        → o ≡ option_map see p → cond b (Some (see v)) o ≡ option_map see (cond b (Some v) p)
    at_cond see true v o p h = refl
    at_cond see false v o p h = h

seen_either : {V X : Type 0} (see : V → X) (o p : Option V)
    → option_map see (option_or o p) ≡ option_or (option_map see o) (option_map see p)
seen_either see None p = refl
seen_either see (Some v) p = refl

some_seen : {V X : Type 0} (see : V → X) (o : Option V) → IsSome o → IsSome (option_map see o)
some_seen see None h = h
some_seen see (Some v) h = refl

names_seen : {V X : Type 0} (see : V → X) (es : List (ScriptId × V))
    → names_in (map (λ e. (script_text e.0, see e.1)) es) ≡ map (λ e. script_text e.0) es
names_seen see [] = refl
names_seen see (e ∷ es) = ap (λ names. script_text e.0 ∷ names) (names_seen see es)

-- the scripts of a table, and of an old one, that are in the order of names
module _ {V X : Type 0} (see : V → X) (names : List Name) (scripts old placed : List (ScriptId × V)) where
  abbrev view : List (ScriptId × V) → List (Name × X)
  view es = map (λ e. (script_text e.0, see e.1)) es

  -- each is named where what is seen is
  pub each_named : ((q : Name) → IsSome (option_or (at_name q (view scripts)) (at_name q (view old)))
      → is_one_of names q ≡ true) → AreNamed names (λ q. option_or (at_name q (by_id scripts)) (at_name q (by_id old)))
  each_named named q some =
      let both : option_map see (option_or (at_name q (by_id scripts)) (at_name q (by_id old)))
      ≡ option_or (at_name q (view scripts)) (at_name q (view old)) =
      seen_either see (at_name q (by_id scripts)) (at_name q (by_id old))
      ∙ sym (λ i. option_or (seen_at see scripts q i) (seen_at see old q i))
      in
      named q (subst IsSome both (some_seen see _ some))

  pub placed_seen : (q : Name)
      → at_name q (by_id placed) ≡ option_or (at_name q (by_id scripts)) (at_name q (by_id old))
      → at_name q (view placed) ≡ option_or (at_name q (view scripts)) (at_name q (view old))
  placed_seen q is =
      seen_at see placed q ∙ ap (option_map see) is
      ∙ seen_either see (at_name q (by_id scripts)) (at_name q (by_id old))
      ∙ sym (λ i. option_or (seen_at see scripts q i) (seen_at see old q i))

  lone : old ≡ [] → (q : Name) → option_or (at_name q (view scripts)) (at_name q (view old)) ≡ at_name q (view scripts)
  lone none q = ap (λ es. option_or (at_name q (view scripts)) (at_name q (view es))) none
      ∙ or_none (at_name q (view scripts))

  -- the same where there is no old table
  pub lone_named : old ≡ [] → ((q : Name) → IsSome (at_name q (view scripts)) → is_one_of names q ≡ true)
      → AreNamed names (λ q. option_or (at_name q (by_id scripts)) (at_name q (by_id old)))
  lone_named none named = each_named (λ q some. named q (subst IsSome (lone none q) some))

  pub lone_seen : old ≡ [] → (q : Name)
      → at_name q (by_id placed) ≡ option_or (at_name q (by_id scripts)) (at_name q (by_id old))
      → at_name q (view placed) ≡ at_name q (view scripts)
  lone_seen none q is = placed_seen q is ∙ lone none q

  pub order_seen : (sections : List Section) → AreIdsOf sections names
      → AllComeFirst names (map (λ e. script_text e.0) placed) → AllDefinedBefore sections (names_in (view placed))
  order_seen sections are order =
      subst (AllDefinedBefore sections) (sym (names_seen see placed))
      (all_defined_before sections names (map (λ e. script_text e.0) placed) are order)

some_of : {X : Type 0} (o p : Option X) → IsSome (option_or o p) → IsSome o ⊎ IsSome p
some_of None p h = inr h
some_of (Some x) p h = inl refl

-- the ids of setup scripts are named
pub setup_named : (ss : List SourceText) (file : FileScripts) (names old_names : List Name)
    → AreFileScripts (merged_tree ss) file → AreIdsOf (sections_at setup_path ss) names
    → AreIdsOf (sections_at old_setup_path ss) old_names
    → (q : Name) → IsSome (option_or (at_name q file.new_setup) (at_name q file.old_setup))
    → is_one_of (names ++ old_names) q ≡ true
setup_named ss file names old_names spelled new old q some =
    elim (some_of (at_name q file.new_setup) (at_name q file.old_setup) some) [
      | inl here ↦ one_of_more names old_names q
          ∙ or_left (is_one_of names q) (is_one_of old_names q)
          (spelled_named _ _ file.new_setup names q spelled.new_setup (new_named ss names q new) here)
      | inr there ↦ one_of_more names old_names q
          ∙ or_right (is_one_of names q) (is_one_of old_names q)
          (spelled_named _ _ file.old_setup old_names q spelled.old_setup (old_named ss old_names q old) there)
    ]

-- and those of wrapper scripts
pub wrappers_named : (ss : List SourceText) (file : FileScripts) (names : List Name)
    → AreFileScripts (merged_tree ss) file → AreIdsOf (sections_at wrapper_path ss) names
    → (q : Name) → IsSome (at_name q file.wrapper) → is_one_of names q ≡ true
wrappers_named ss file names spelled are q some =
    spelled_named _ _ file.wrapper names q spelled.wrapper (wrapper_named ss names q are) some
