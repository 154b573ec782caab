-- The walk of a path along the branches of its keys.
use Rattle.std.proofs.Common.{◌≡◌, ℕ, suc, ◌<◌, Bool, true, false, cond, ◌||◌, List, [], ◌∷◌, ◌++◌, Bor, length, drop, slice_get, Option, Some, None, refl, sym, ap, ◌∙◌, subst, append_assoc}
use Rattle.std.proofs.lemmas.List.{append-nil}
use Rattle.std.proofs.lemmas.Option.{slice_get_within}
use Rattle.std.specs.BTreeMap.{get_by_text}
use Rattle.std.specs.List.{AllByRecursion}
use Rattle.std.specs.Option.{option_map_or}
use Rattle.toml_parser.specs.Reading.{path_view}
use Rattle.nextest_places.specs.Branches.{HasNumber, IsBranchOf, Role, through, pairs, elements, comes_before, earlier, is_entry_in, numbers_in, numbers_at, numbers_where}
use Rattle.nextest_places.specs.Entries.{waits, scan}
use Rattle.nextest_places.specs.Marks.{by_key, seen, missing, fresh}
use Rattle.nextest_places.specs.declared.branch.Branch.{Branch, out-Branch}
use Rattle.nextest_places.specs.declared.entry.Entry.{Entry}
use Rattle.nextest_places.specs.declared.step.Step.{Step}
use Rattle.nextest_places.specs.declared.step.Step.TheVariants.{Key, Position}
use Rattle.nextest_places.proofs.Found.{Enters, Meets, element_found, first_found, turn_by}
use Rattle.nextest_places.proofs.Numbers.{all_drop, first_of_both, none_pass, same_numbers}
use Rattle.nextest_places.proofs.Passed.{is_upto, key_in, key_passed, keys_in, passed, position_in, position_passed, turn_at_end, turn_at_key, turn_at_position, upto_apart, upto_more, upto_none}

-- whether an entry is a pair whose key some keys begin with
abbrev pub is_pair_upto : List (List ℕ) → Entry → Bool
is_pair_upto keys e = is_upto e.kind keys (path_view e.parts.items)

abbrev pub first_where : (Entry → Bool) → ℕ → List Entry → Option ℕ
first_where test from entries = slice_get (numbers_where test from (drop from entries)) 0

-- a number that a list of a branch has from one on, as it is found
abbrev pub IsFrom : List ℕ → ℕ → ℕ → Option ℕ → Type 0
IsFrom numbers from place number =
    (test : Entry → Bool) (entries : List Entry) → numbers ≡ numbers_where test 0 entries
    → number ≡ slice_get (numbers_where test from (drop from entries)) place

-- Some first steps of a path are passed, by the entries before one number: the branch is that of
-- their keys, and the pair is the first one from there on whose key they begin with.
pub record IsPassed (entries : List Entry) (path steps rest : List Step) (branch : Branch) (from : ℕ)
    (pair : Option ℕ) : Type 0 where
  pub lists : (role : Role) (keys : List (List ℕ))
      → numbers_at role keys branch ≡ numbers_where (is_entry_in role (keys_in steps ++ keys)) 0 entries
  pub scanned : scan (drop from entries) (waits (passed steps (fresh rest))) ≡ scan entries (waits (fresh path))
  pub first : pair ≡ first_where (is_pair_upto (keys_in steps)) from entries

pub at_first : (entries : List Entry) (path : List Step) (root : Branch) (pair : Option ℕ) → IsBranchOf entries root
    → IsFrom (out-Branch root).ends.pairs.items 0 0 pair → IsPassed entries path [] path root 0 pair
at_first entries path root pair are from = record {
  lists = are;
  scanned = refl;
  first = from (is_entry_in pairs []) entries (are pairs [])
      ∙ ap (λ ns. slice_get ns 0) (same_numbers (is_entry_in pairs []) (is_pair_upto [])
      (λ e. upto_none e.kind (path_view e.parts.items)) 0 entries);
}

each : (P : Entry → Type 0) → ((e : Entry) → P e) → (entries : List Entry) → AllByRecursion P entries
each P holds [] = tt
each P holds (e ∷ es) = (holds e, each P holds es)

all_map : (P Q : Entry → Type 0) → ((e : Entry) → P e → Q e) → (entries : List Entry) → AllByRecursion P entries
    → AllByRecursion Q entries
all_map P Q next [] all = tt
all_map P Q next (e ∷ es) (here, all) = (next e here, all_map P Q next es all)

-- steps with no marks are none
no_fresh : (steps : List Step) → fresh steps ≡ [] → steps ≡ []
no_fresh [] none = refl
no_fresh (Key k ∷ steps) none = absurd (cc)
no_fresh (Position i ∷ steps) none = absurd (cc)

module _ (entries : List Entry) (path steps : List Step) (branch : Branch) (from : ℕ) (pair : Option ℕ) where
  -- the numbers of a branch's own list
  own : (rest : List Step) → IsPassed entries path steps rest branch from pair → (role : Role)
      → numbers_in role branch ≡ numbers_where (is_entry_in role (keys_in steps)) 0 entries
  own rest at role =
      at.lists role [] ∙ ap (λ keys. numbers_where (is_entry_in role keys) 0 entries) (append-nil (keys_in steps))

  -- the path's end
  pub at_end : IsPassed entries path steps [] branch from pair → (any : Option ℕ)
      → IsFrom (out-Branch branch).all.items from 0 any → HasNumber entries (scan entries (waits (fresh path))) (earlier any pair)
  at_end at any is =
      let keys = keys_in steps in
      let test : Entry → Bool = λ e. is_entry_in through keys e || is_pair_upto keys e in
      let number : earlier any pair ≡ slice_get (numbers_where test from (drop from entries)) 0 =
      ap (λ o. earlier o pair) (is (is_entry_in through keys) entries (own [] at through))
      ∙ ap (earlier (first_where (is_entry_in through keys) from entries)) at.first
      ∙ sym (first_of_both (is_entry_in through keys) (is_pair_upto keys) from (drop from entries)) in
      let tells = first_found test (passed steps []) entries from (drop from entries) refl
      (each (λ e. turn_by e (passed steps []) ≡ cond (test e) seen (missing (passed steps [])))
      (λ e. turn_at_end e.kind (path_view e.parts.items) steps) (drop from entries)) in
      subst (λ n. HasNumber entries (scan entries (waits (fresh path))) n) (sym number)
      (subst (λ o. HasNumber entries o (slice_get (numbers_where test from (drop from entries)) 0)) at.scanned tells)

  -- a key with which no expression's goes on
  pub no_longer : (k : Bor (List ℕ)) (rest : List Step) → IsPassed entries path steps (Key k ∷ rest) branch from pair
      → get_by_text (out-Branch branch).longer k.now ≡ None → HasNumber entries (scan entries (waits (fresh path))) pair
  no_longer k rest at none =
      let keys = keys_in steps in
      let ms = passed steps (by_key k.now ∷ fresh rest) in
      let longer : numbers_at through (k.now ∷ []) branch ≡ [] =
      ap (λ o. option_map_or (numbers_at through []) o []) none in
      let pass = all_drop (λ e. is_entry_in through (keys ++ k.now ∷ []) e ≡ false) from entries
      (none_pass (is_entry_in through (keys ++ k.now ∷ [])) 0 entries
      (sym (at.lists through (k.now ∷ [])) ∙ longer)) in
      let turns = all_map (λ e. is_entry_in through (keys ++ k.now ∷ []) e ≡ false)
      (λ e. turn_by e ms ≡ cond (is_pair_upto keys e) seen (missing ms))
      (λ e. turn_at_key e.kind (path_view e.parts.items) steps k.now (fresh rest)) (drop from entries) pass in
      let tells = first_found (is_pair_upto keys) ms entries from (drop from entries) refl turns in
      subst (λ n. HasNumber entries (scan entries (waits (fresh path))) n) (sym at.first)
      (subst (λ o. HasNumber entries o (first_where (is_pair_upto keys) from entries)) at.scanned tells)

  -- a key with which some go on
  pub longer_at : (k : Bor (List ℕ)) (rest : List Step) → IsPassed entries path steps (Key k ∷ rest) branch from pair
      → (next : Branch) → get_by_text (out-Branch branch).longer k.now ≡ Some next → (more : Option ℕ)
      → IsFrom (out-Branch next).ends.pairs.items from 0 more
      → IsPassed entries path (steps ++ Key k ∷ []) rest next from (earlier more pair)
  longer_at k rest at next some more is =
      let keys = keys_in steps in
      let now : keys_in (steps ++ Key k ∷ []) ≡ keys ++ k.now ∷ [] = key_in steps k in
      let lists : (role : Role) (ks : List (List ℕ))
      → numbers_at role ks next ≡ numbers_where (is_entry_in role ((keys ++ k.now ∷ []) ++ ks)) 0 entries =
      λ role ks. sym (ap (λ o. option_map_or (numbers_at role ks) o []) some) ∙ at.lists role (k.now ∷ ks)
      ∙ ap (λ js. numbers_where (is_entry_in role js) 0 entries) (sym (append_assoc keys (k.now ∷ []) ks)) in
      let own_pairs : (out-Branch next).ends.pairs.items ≡ numbers_where (is_entry_in pairs (keys ++ k.now ∷ [])) 0 entries =
      lists pairs [] ∙ ap (λ js. numbers_where (is_entry_in pairs js) 0 entries) (append-nil (keys ++ k.now ∷ [])) in
      record {
        lists = λ role ks. lists role ks
            ∙ ap (λ js. numbers_where (is_entry_in role (js ++ ks)) 0 entries) (sym now);
        scanned = ap (λ ms. scan (drop from entries) (waits ms)) (key_passed steps k (fresh rest)) ∙ at.scanned;
        first = ap (λ o. earlier o pair) (is (is_entry_in pairs (keys ++ k.now ∷ [])) entries own_pairs)
            ∙ ap (earlier (first_where (is_entry_in pairs (keys ++ k.now ∷ [])) from entries)) at.first
            ∙ sym (first_of_both (is_entry_in pairs (keys ++ k.now ∷ [])) (is_pair_upto keys) from (drop from entries))
            ∙ ap (λ ns. slice_get ns 0) (same_numbers
            (λ e. is_entry_in pairs (keys ++ k.now ∷ []) e || is_pair_upto keys e) (is_pair_upto (keys ++ k.now ∷ []))
            (λ e. upto_more e.kind keys k.now (path_view e.parts.items)) from (drop from entries))
            ∙ ap (λ js. first_where (is_pair_upto js) from entries) (sym now);
      }

  -- a position: the elements of its array
  met : (i : ℕ) (rest : List Step) → IsPassed entries path steps (Position i ∷ rest) branch from pair
      → (number : Option ℕ) → IsFrom (out-Branch branch).ends.elements.items from i number
      → Meets entries steps (fresh rest) (is_pair_upto (keys_in steps))
      (scan entries (waits (fresh path))) pair number
  met i rest at number is =
      let keys = keys_in steps in
      let meets = element_found entries steps (fresh rest) (is_pair_upto keys) (is_entry_in elements keys)
      (λ e j. turn_at_position e.kind (path_view e.parts.items) steps j (fresh rest))
      (λ e. upto_apart e.kind keys (path_view e.parts.items)) from (drop from entries) refl i in
      let found_there : number ≡ slice_get (numbers_where (is_entry_in elements keys) from (drop from entries)) i =
      is (is_entry_in elements keys) entries (own (Position i ∷ rest) at elements) in
      rw (found_there, at.first, ← at.scanned) meets

  pub no_element : (i : ℕ) (rest : List Step) → IsPassed entries path steps (Position i ∷ rest) branch from pair
      → IsFrom (out-Branch branch).ends.elements.items from i None → HasNumber entries (scan entries (waits (fresh path))) pair
  no_element i rest at is = met i rest at None is

  module _ (i : ℕ) (rest : List Step) (at : IsPassed entries path steps (Position i ∷ rest) branch from pair) (n : ℕ)
      (is : IsFrom (out-Branch branch).ends.elements.items from i (Some n)) where
    pub pair_first : comes_before pair n ≡ true → HasNumber entries (scan entries (waits (fresh path))) pair
    pair_first first = (met i rest at (Some n) is).0 first

    enters : comes_before pair n ≡ false
        → Enters entries steps (fresh rest) (is_pair_upto (keys_in steps)) (scan entries (waits (fresh path))) pair n
    enters first = (met i rest at (Some n) is).1 first

    pub element_within : comes_before pair n ≡ false → n < length entries
    element_within first = let in_it = enters first in slice_get_within entries n in_it.header in_it.is

    pub element_last : comes_before pair n ≡ false → rest ≡ []
        → HasNumber entries (scan entries (waits (fresh path))) (Some n)
    element_last first none =
        let in_it = enters first in
        (in_it.header, in_it.is, in_it.last (ap fresh none))

    pub element_entered : comes_before pair n ≡ false → (rest ≡ [] → ⊥)
        → IsPassed entries path (steps ++ Position i ∷ []) rest branch (suc n) pair
    element_entered first some =
        let in_it = enters first in
        let now = position_in steps i in
        record {
          lists = λ role keys. at.lists role keys
              ∙ ap (λ js. numbers_where (is_entry_in role (js ++ keys)) 0 entries) (sym now);
          scanned = ap (λ ms. scan (drop (suc n) entries) (waits ms)) (position_passed steps i (fresh rest))
              ∙ sym (in_it.on (λ none. some (no_fresh rest none)));
          first = in_it.same ∙ ap (λ js. first_where (is_pair_upto js) (suc n) entries) (sym now);
        }
