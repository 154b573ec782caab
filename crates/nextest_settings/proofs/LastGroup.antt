-- The groups of tests, test by test.
use Rattle.std.proofs.Common.{◌≡◌, ◌++◌, ◌&&◌, ◌+◌, ◌<◌, ℕ, arith, length, take, get_or, List, [], ◌∷◌, Bool, true, false, cond, if◌then◌else◌, Option, Some, None, option_map, option_and_then, map, filter, reverse, refl, sym, String, append-nil}
use Rattle.std.proofs.lemmas.Grind.{common_steps}
use Rattle.std.proofs.lemmas.List.{map-append, reverse-append}
use Rattle.std.proofs.lemmas.List.Elements.{filter-append}
use Rattle.std.proofs.lemmas.Slice.Eq.{bytes_eq-Decides}
use Rattle.std.specs.BTreeMap.{BTreeMap, get_by_text}
use Rattle.std.specs.List.{filter_map}
use Rattle.std.specs.Option.{option_or}
use Rattle.std.specs.Str.{bytes_eq}
use Rattle.nextest_elements.specs.declared.test_group.TestGroup.{TestGroup}
use Rattle.nextest_elements.specs.declared.test_group.TestGroup.TheVariants as groups
use Rattle.nextest_engines.specs.Engines.{Test}
use Rattle.nextest_settings.specs.Chains.{first_of}
use Rattle.nextest_settings.specs.Pass.{Override}
use Rattle.nextest_settings.proofs.FirstOf.{first_cons}
use Rattle.nextest_settings.specs.Queries.{custom_group, is_of_name}

-- a map of maps from which the map of b was taken, and put back with one more name
module _ {X Y : Type 0} (m0 m1 m2 : BTreeMap (String Y) (BTreeMap (String Y) X))
    (t0 t1 : BTreeMap (String Y) X) (b n : List ℕ) (x : X)
    (taken : (cs : List ℕ) → get_by_text m1 cs ≡ cond (bytes_eq b cs) None (get_by_text m0 cs))
    (was : (cs : List ℕ) → get_by_text t0 cs ≡ option_and_then (λ t. get_by_text t cs) (get_by_text m0 b))
    (added : (cs : List ℕ) → get_by_text t1 cs ≡ cond (bytes_eq n cs) (Some x) (get_by_text t0 cs))
    (put : (cs : List ℕ) → get_by_text m2 cs ≡ cond (bytes_eq b cs) (Some t1) (get_by_text m1 cs)) where
  here : (id test : List ℕ) (c : Bool) → bytes_eq b id ≡ c
      → option_and_then (λ t. get_by_text t test) (cond c (Some t1) (cond c None (get_by_text m0 id)))
      ≡ (if c && bytes_eq n test then Some x else option_and_then (λ t. get_by_text t test) (get_by_text m0 id))
  here id test true is =
      let same : b ≡ id = (bytes_eq-Decides b id).0 is in
      rw (added test, was test, same) refl
  here id test false is = refl

  pub custom_group_in_after : (id test : List ℕ) → option_and_then (λ t. get_by_text t test) (get_by_text m2 id)
      ≡ (if bytes_eq b id && bytes_eq n test then Some x else option_and_then (λ t. get_by_text t test)
      (get_by_text m0 id))
  custom_group_in_after id test = rw (put id, taken id) (here id test (bytes_eq b id) refl)

-- the first of what f gives, with one more in front
-- one test more
pub last_more : (f : Test → Option TestGroup) (ts : List Test) (t : Test) (id name : List ℕ)
    → first_of f (reverse (filter (is_of_name id name) (ts ++ t ∷ [])))
    ≡ (if is_of_name id name t then option_or (f t) (first_of f (reverse (filter (is_of_name id name) ts)))
    else first_of f (reverse (filter (is_of_name id name) ts)))
last_more f ts t id name = rw (filter-append (is_of_name id name) ts (t ∷ [])) (cases (is_of_name id name t)) where
  cases : (c : Bool) → first_of f (reverse (filter (is_of_name id name) ts ++ (if c then t ∷ [] else [])))
      ≡ (if c then option_or (f t) (first_of f (reverse (filter (is_of_name id name) ts))) else first_of f
      (reverse (filter (is_of_name id name) ts)))
  cases true = rw (reverse-append (filter (is_of_name id name) ts) (t ∷ []))
      (first_cons (f t) (filter_map f (reverse (filter (is_of_name id name) ts))))
  cases false = rw (append-nil (filter (is_of_name id name) ts)) refl

-- the global group is not a custom one
pub or_global : (o : Option TestGroup)
    → option_and_then custom_group (option_or o (Some groups.Global)) ≡ option_and_then custom_group o
or_global None = refl
or_global (Some g) = refl

-- what a slot gives a test as its group
pub group_by_slot : {A M : Type 0} (f : A → Override M) (slot : Option A) (decided : Option (Override M))
    → option_map f slot ≡ decided
    → option_and_then (λ x. option_and_then custom_group (f x).writes.settings.test_group) slot
    ≡ option_and_then custom_group
    (option_or (option_and_then (λ r. r.writes.settings.test_group) decided) (Some groups.Global))
group_by_slot f None decided is = rw (← is) refl
group_by_slot f (Some x) decided is = rw (← is) (sym (or_global (f x).writes.settings.test_group))

-- a loop over queries
module _ {Q : Type 0} (f : Test → Option TestGroup) (view : Q → Test) (xs : List Q) (i : ℕ) where
  abbrev groups_to : List Q → List ℕ → List ℕ → Option TestGroup
  groups_to qs id name = first_of f (reverse (filter (is_of_name id name) (map view qs)))

  pub groups_turn : (x d : Q) → i < length xs → x ≡ get_or xs i d
      → (old new : Option TestGroup) (id name : List ℕ) → old ≡ groups_to (take i xs) id name
      → new ≡ (if is_of_name id name (view x) then option_or (f (view x)) old else old)
      → new ≡ groups_to (take (i + 1) xs) id name
  groups_turn x d below at old new id name was is =
      let more : take (i + 1) xs ≡ take i xs ++ x ∷ [] = grind (arith, common_steps) in
      rw (more, map-append view (take i xs) (x ∷ []), last_more f (map view (take i xs)) (view x) id name, ← was) is
