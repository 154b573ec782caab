-- What it leaves of a branch to add an expression.
use Rattle.std.proofs.Common.{Result, Ok, Err, OnOk, ◌≡◌, ℕ, suc, ◌+◌, ◌<◌, ◌≤◌, Bool, true, false, cond, List, [], ◌∷◌, ◌++◌, length, get_or, drop, String, Global, Option, Some, nat_cmp, refl, sym, ap, ◌∙◌, inl, inr, add-one, append_assoc, bytes_eq, string_bytes}
use Rattle.std.proofs.lemmas.Bool.{cases_Bool}
use Rattle.std.proofs.lemmas.List.{append-nil, drop_all, drop_more, nil_from_length}
use Rattle.std.proofs.lemmas.Slice.Eq.{bytes_eq-Decides}
use Rattle.std.specs.BTreeMap.{BTreeMap, get_by_text, is_at}
use Rattle.std.specs.Cmp.Lexicographic.{slice_cmp}
use Rattle.std.specs.Map.{lookup, update}
use Rattle.std.specs.Option.{option_map_or}
use Rattle.nextest_places.specs.Branches.{Role, through, pairs, elements, ends_in, is_in, numbers_at, numbers_where}
use Rattle.nextest_places.specs.declared.branch.Branch.{Branch, out-Branch}
use Rattle.nextest_places.specs.declared.branch.Ends.{Ends}
use Rattle.nextest_places.specs.declared.entry.Entry.{Entry}
use Rattle.nextest_places.specs.declared.entry.Kind.{Kind}
use Rattle.nextest_places.proofs.IdAims.{apart}

-- what follows where a call returns, from two facts of it
pub both_ok : {T E P Q R : Type 0} (r : Result T E) → (P → Q → R) → OnOk r P → OnOk r Q → OnOk r R
both_ok (Ok x) f p q = f p q
both_ok (Err e) f p q = tt

-- what is added to some numbers
abbrev pub IsAdded : Bool → ℕ → List ℕ → List ℕ → Type 0
IsAdded b number old new = new ≡ old ++ cond b (number ∷ []) []

-- nothing is in a branch with no numbers and none behind it
pub none_there : (branch : Branch) → (out-Branch branch).all.items ≡ [] → (out-Branch branch).ends.pairs.items ≡ []
    → (out-Branch branch).ends.elements.items ≡ [] → length (out-Branch branch).longer.entries ≡ 0
    → (role : Role) (keys : List (List ℕ)) → numbers_at role keys branch ≡ []
none_there branch all pair element none through [] = all
none_there branch all pair element none pairs [] = pair
none_there branch all pair element none elements [] = element
none_there branch all pair element none role (k ∷ keys) =
    ap (λ es. option_map_or (numbers_at role keys) (lookup (is_at (λ x. slice_cmp nat_cmp k (string_bytes x))) es) [])
    (nil_from_length (out-Branch branch).longer.entries none)

-- the numbers of a branch behind which an expression is added, and of one where its key ends
module _ (kind : Kind) (number : ℕ) (old new : Branch)
    (all : (out-Branch new).all.items ≡ (out-Branch old).all.items ++ number ∷ []) where
  pub added_longer : (part : List ℕ) (parts : List (List ℕ)) (was now : BTreeMap (String Global) Branch)
      → (out-Branch new).ends ≡ (out-Branch old).ends → was ≡ (out-Branch old).longer → (out-Branch new).longer ≡ now
      → ((role : Role) (k : List ℕ) (keys : List (List ℕ)) → IsAdded (is_in role kind (k ∷ keys) (part ∷ parts)) number
      (option_map_or (numbers_at role keys) (get_by_text was k) [])
      (option_map_or (numbers_at role keys) (get_by_text now k) []))
      → (role : Role) (keys : List (List ℕ))
      → IsAdded (is_in role kind keys (part ∷ parts)) number (numbers_at role keys old) (numbers_at role keys new)
  added_longer part parts was now same before after longer through [] = all
  added_longer part parts was now same before after longer pairs [] =
      ap (λ ends. ends.pairs.items) same ∙ sym (append-nil (out-Branch old).ends.pairs.items)
  added_longer part parts was now same before after longer elements [] =
      ap (λ ends. ends.elements.items) same ∙ sym (append-nil (out-Branch old).ends.elements.items)
  added_longer part parts was now same before after longer role (k ∷ keys) =
      let at : BTreeMap (String Global) Branch → List ℕ =
      λ m. option_map_or (numbers_at role keys) (get_by_text m k) [] in
      let more : List ℕ = cond (is_in role kind (k ∷ keys) (part ∷ parts)) (number ∷ []) [] in
      ap at after ∙ longer role k keys ∙ ap (λ m. at m ++ more) before

  pub added_here : (was now : Ends) → (out-Branch new).longer ≡ (out-Branch old).longer → was ≡ (out-Branch old).ends
      → (out-Branch new).ends ≡ now → IsAdded (ends_in pairs kind) number was.pairs.items now.pairs.items
      → IsAdded (ends_in elements kind) number was.elements.items now.elements.items
      → (role : Role) (keys : List (List ℕ))
      → IsAdded (is_in role kind keys []) number (numbers_at role keys old) (numbers_at role keys new)
  added_here was now same before after pair element through [] = all
  added_here was now same before after pair element pairs [] =
      ap (λ ends. ends.pairs.items) after ∙ pair
      ∙ ap (λ ends. ends.pairs.items ++ cond (ends_in pairs kind) (number ∷ []) []) before
  added_here was now same before after pair element elements [] =
      ap (λ ends. ends.elements.items) after ∙ element
      ∙ ap (λ ends. ends.elements.items ++ cond (ends_in elements kind) (number ∷ []) []) before
  added_here was now same before after pair element role (k ∷ keys) =
      ap (λ m. option_map_or (numbers_at role keys) (get_by_text m k) []) same
      ∙ sym (append-nil (option_map_or (numbers_at role keys) (get_by_text (out-Branch old).longer k) []))

-- those of a map, of which one branch is another one now
module _ (kind : Kind) (part : List ℕ) (rest : List (List ℕ)) (number : ℕ)
    (old new : BTreeMap (String Global) Branch) (was : Option Branch) (now : Branch) where
  pub grown : ((k : List ℕ) → get_by_text new k ≡ update bytes_eq (get_by_text old) part (Some now) k)
      → get_by_text old part ≡ was
      → ((role : Role) (keys : List (List ℕ)) → IsAdded (is_in role kind keys rest) number
      (option_map_or (numbers_at role keys) was []) (numbers_at role keys now))
      → (role : Role) (k : List ℕ) (keys : List (List ℕ)) → IsAdded (is_in role kind (k ∷ keys) (part ∷ rest)) number
      (option_map_or (numbers_at role keys) (get_by_text old k) [])
      (option_map_or (numbers_at role keys) (get_by_text new k) [])
  grown updates there added role k keys =
      let at : Option Branch → List ℕ = λ o. option_map_or (numbers_at role keys) o [] in
      let plus : Bool → List ℕ = λ b. cond (cond b (is_in role kind keys rest) false) (number ∷ []) [] in
      elim (cases_Bool (bytes_eq part k)) [
        | inl same ↦
            let equal : part ≡ k = (bytes_eq-Decides part k).0 same in
            let back : bytes_eq k part ≡ true = (bytes_eq-Decides k part).1 (sym equal) in
            let gives : get_by_text new k ≡ Some now = updates k ∙ rw same refl in
            let gave : get_by_text old k ≡ was = ap (get_by_text old) (sym equal) ∙ there in
            ap at gives ∙ added role keys ∙ ap (λ o. at o ++ plus true) (sym gave)
            ∙ ap (λ b. at (get_by_text old k) ++ plus b) (sym back)
        | inr other ↦
            let back : bytes_eq k part ≡ false = apart part k other in
            let gives : get_by_text new k ≡ get_by_text old k = updates k ∙ rw other refl in
            ap at gives ∙ sym (append-nil (at (get_by_text old k)))
            ∙ ap (λ b. at (get_by_text old k) ++ plus b) (sym back)
      ]

-- an entry more
pushed : (b : Bool) (n : ℕ) (front rest : List ℕ)
    → (front ++ cond b (n ∷ []) []) ++ rest ≡ front ++ cond b (n ∷ rest) rest
pushed true n front rest = append_assoc front (n ∷ []) rest
pushed false n front rest = ap (λ xs. xs ++ rest) (append-nil front)

pub next_added : (test : Entry → Bool) (entries : List Entry) (n : ℕ) (d : Entry) (old new : List ℕ)
    → n < length entries → IsAdded (test (get_or entries n d)) n old new
    → new ++ numbers_where test (n + 1) (drop (n + 1) entries) ≡ old ++ numbers_where test n (drop n entries)
next_added test entries n d old new within added =
    let next : n + 1 ≡ suc n = add-one n in
    let rest = numbers_where test (suc n) (drop (n + 1) entries) in
    ap (λ m. new ++ numbers_where test m (drop (n + 1) entries)) next
    ∙ ap (λ xs. xs ++ rest) added ∙ pushed (test (get_or entries n d)) n old rest
    ∙ ap (λ es. old ++ numbers_where test n es) (sym (drop_more entries n d within))

pub all_added : (test : Entry → Bool) (entries : List Entry) (n : ℕ) (numbers all : List ℕ) → length entries ≤ n
    → numbers ++ numbers_where test n (drop n entries) ≡ all → numbers ≡ all
all_added test entries n numbers all over is =
    sym (append-nil numbers)
    ∙ ap (λ es. numbers ++ numbers_where test n es) (sym (drop_all n entries over)) ∙ is
