-- Names in sets, and the names of keys.
use Rattle.std.proofs.Common.{◌≡◌, ℕ, List, [], ◌∷◌, ◌||◌, Bool, true, false, cond, String, Global, string_bytes, nat_cmp, refl, sym, ap, ◌∙◌}
use Rattle.std.specs.BTreeSet.{BTreeSet, contains_text, Updates}
use Rattle.std.specs.BTreeMap.{is_at}
use Rattle.std.specs.Cmp.Lexicographic.{slice_cmp, nat_list_eq_equiv}
use Rattle.std.specs.List.{list_any}
use Rattle.std.specs.Str.{bytes_eq}
use Rattle.std.specs.String.{string_cmp}
use Rattle.std.proofs.lemmas.Map.Text.{btree_set_updates_text, is_eq-slice_cmp}
use Rattle.nextest_tree.specs.Schema.{is_one_of}
use Rattle.nextest_tables.specs.Written.{Name}

both : (a b : Bool) → cond b true a ≡ (a || (b || false))
both true true = refl
both true false = refl
both false true = refl
both false false = refl

-- one more text in a set
pub one_more : (old new : BTreeSet (String Global)) (key : String Global) (text q : List ℕ) → string_bytes key ≡ text
    → Updates string_cmp old new key true → contains_text new q ≡ (contains_text old q || is_one_of (text ∷ []) q)
one_more old new key text q same updates =
    rw (← same) (btree_set_updates_text (string_bytes key) old new true updates q
    ∙ both (contains_text old q) (bytes_eq (string_bytes key) q))

assoc : (a b c : Bool) → ((a || (b || false)) || c) ≡ (a || (b || c))
assoc true b c = refl
assoc false true c = refl
assoc false false c = refl

-- one name after another
pub next_name : (old new : BTreeSet (String Global)) (key : String Global) (text : List ℕ) (rest : List Name)
    (q : List ℕ)
    → string_bytes key ≡ text → Updates string_cmp old new key true
    → (contains_text new q || is_one_of rest q) ≡ (contains_text old q || is_one_of (text ∷ rest) q)
next_name old new key text rest q same updates =
    rw (one_more old new key text q same updates) (assoc (contains_text old q) (bytes_eq text q) (is_one_of rest q))

-- a text is that of one of these keys
abbrev pub is_text_of : List (String Global) → List ℕ → Bool
is_text_of keys text = list_any (is_at (λ key. slice_cmp nat_cmp text (string_bytes key))) keys

same_test : (text q : List ℕ) → is_one_of (text ∷ []) q ≡ (is_at (λ key. slice_cmp nat_cmp q key) text || false)
same_test text q = ap (λ b. b || false) (nat_list_eq_equiv.symm text q ∙ sym (is_eq-slice_cmp q text))

-- one key after another
pub next_text : (old new : BTreeSet (String Global)) (copy key : String Global) (rest : List (String Global))
    (q : List ℕ)
    → string_bytes copy ≡ string_bytes key → Updates string_cmp old new copy true
    → (contains_text new q || is_text_of rest q) ≡ (contains_text old q || is_text_of (key ∷ rest) q)
next_text old new copy key rest q same updates =
    rw (one_more old new copy (string_bytes key) q same updates, same_test (string_bytes key) q)
    (assoc (contains_text old q) (is_at (λ k. slice_cmp nat_cmp q k) (string_bytes key)) (is_text_of rest q))

-- the only text in a set
pub first_name : (none new : BTreeSet (String Global)) (key : String Global) (text q : List ℕ)
    → none.keys ≡ [] → string_bytes key ≡ text
    → Updates string_cmp none new key true → contains_text new q ≡ is_one_of (text ∷ []) q
first_name none new key text q empty same updates =
    one_more none new key text q same updates
    ∙ ap (λ keys. is_text_of keys q || is_one_of (text ∷ []) q) empty
