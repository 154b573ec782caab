-- Variables by key.
use Rattle.std.proofs.Common.{◌≡◌, List, ℕ, [], ◌∷◌, ◌++◌, sym, subst, append_assoc, Bool, true, false, map, String, Global, string_bytes, Option, Some, option_map, Result, Ok, cond, refl, ap, ◌∙◌, nat_cmp}
use Rattle.std.proofs.lemmas.Map.Text.{is_eq-slice_cmp}
use Rattle.std.specs.BTreeMap.{insert_entry, is_at}
use Rattle.std.specs.Cmp.Lexicographic.{slice_cmp}
use Rattle.std.specs.List.Sorted.{IsStrictlySortedBy}
use Rattle.std.specs.Map.{keys_of, lookup}
use Rattle.std.specs.Str.{bytes_eq}
use Rattle.std.specs.String.{string_cmp}
use Rattle.nextest_tree.specs.Leaf.{IsText, a_text}
use Rattle.nextest_tree.specs.Reads.{IsMap, ReadState}
use Rattle.nextest_tree.specs.ReadSteps.{reading_entries, reading_entry}
use Rattle.nextest_tree.specs.Schema.{Fault}
use Rattle.nextest_tree.specs.View.{entries_view, tree_view}
use Rattle.nextest_tree.specs.declared.tree.Tree.{Tree}
use Rattle.nextest_tree.proofs.Maps.{map_more}
use Rattle.nextest_tree.proofs.Reading.{entries_step}
use Rattle.nextest_scripts.specs.EnvMap.{env_key_cause}

-- a variable, and what contracts see of it
abbrev pub Variable : Type 0
Variable = String Global × String Global

abbrev pub pair_view : Variable → List ℕ × List ℕ
pair_view e = (string_bytes e.0, string_bytes e.1)

found_or : (b : Bool) (text : String Global) (rest : Option (String Global))
    (d : Option (List ℕ)) → option_map string_bytes rest ≡ d
    → option_map string_bytes (cond b (Some text) rest) ≡ cond b (Some (string_bytes text)) d
found_or true text rest d e = refl
found_or false text rest d e = e

-- what a map of texts finds at a text
pub texts_lookup : (key : List ℕ) (es : List Variable)
    → option_map string_bytes (lookup (is_at (λ k. slice_cmp nat_cmp key (string_bytes k))) es)
    ≡ lookup (bytes_eq key) (map pair_view es)
texts_lookup key [] = refl
texts_lookup key (e ∷ es) =
    rw (is_eq-slice_cmp key (string_bytes e.0))
    (found_or (bytes_eq key (string_bytes e.0)) e.1 _ _ (texts_lookup key es))

-- an entry of a table
abbrev pub Member : Type 0
Member = String Global × Tree

-- reading the variables of some entries
abbrev pub reading_variables : List Member → ReadState → Result ReadState Fault
reading_variables members at = reading_entries env_key_cause a_text (entries_view members) at

-- some entries are read to these variables, and the others are left
pub record IsReadTo (members left : List Member) (variables : List Variable) (from at : ReadState)
    : Type 0 where
  pub done : List Member
  pub whole : members ≡ done ++ left
  pub values : IsMap string_bytes IsText (entries_view done) variables
  pub same : reading_variables left at ≡ reading_variables members from

-- one entry more
pub one_read : (members left : List Member) (e : Member) (next : List Member)
    (old new : List Variable) (key text : String Global) (seen : List ℕ) (from at mid : ReadState)
    → IsReadTo members left old from at → left ≡ e ∷ next
    → IsStrictlySortedBy string_cmp (keys_of members)
    → seen ≡ string_bytes e.0 → string_bytes key ≡ seen → IsText (tree_view e.1) text
    → new ≡ insert_entry string_cmp old key text
    → reading_entry env_key_cause a_text seen (tree_view e.1) at ≡ Ok mid
    → IsReadTo members next new from mid
one_read members left e next old new key text seen from at mid so_far is sorted shown same value
    made step =
    let all : members ≡ so_far.done ++ e ∷ next =
    so_far.whole ∙ ap (λ es. so_far.done ++ es) is in
    let ascends = subst (λ es. IsStrictlySortedBy string_cmp (keys_of es)) all sorted in
    let more = map_more string_cmp string_bytes IsText (λ a b. refl) so_far.done e next old key text
    ascends so_far.values (same ∙ shown) value in
    let on = entries_step env_key_cause a_text (string_bytes e.0) seen (tree_view e.1)
    (entries_view next) at mid shown step in
    record {
      done = so_far.done ++ e ∷ [];
      whole = all ∙ sym (append_assoc so_far.done (e ∷ []) next);
      values = subst (λ xs. IsMap string_bytes IsText (entries_view (so_far.done ++ e ∷ [])) xs)
          (sym made) more;
      same = on ∙ ap (λ es. reading_variables es at) (sym is) ∙ so_far.same;
    }
