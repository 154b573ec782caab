-- The last of the tests of a name that gets a custom group.
use Rattle.std.proofs.Common.{◌≡◌, ◌<◌, ◌++◌, ℕ, zero, suc, arith, List, [], ◌∷◌, reverse, Bool, true, false, if◌then◌else◌, Option, None, Some, option_and_then, unwrap_or, filter, slice_get, refl, sym, ap, ◌∙◌}
use Rattle.std.proofs.lemmas.Bool.{and_parts, and_from}
use Rattle.std.proofs.lemmas.List.{reverse-append}
use Rattle.std.proofs.lemmas.Option.{same_Some}
use Rattle.std.proofs.lemmas.Slice.Eq.{bytes_eq-Decides}
use Rattle.std.specs.List.{filter_map}
use Rattle.std.specs.Option.{option_or}
use Rattle.std.specs.Str.{bytes_eq}
use Rattle.std.proofs.Common.{◌⊎◌, inl, inr}
use Rattle.nextest_elements.specs.declared.test_group.TestGroup.{TestGroup}
use Rattle.nextest_elements.specs.declared.test_group.TestGroup.TheVariants.{Global, Custom}
use Rattle.nextest_engines.specs.Engines.{Test}
use Rattle.nextest_settings.specs.Chains.{first_of}
use Rattle.nextest_settings.proofs.FirstOf.{first_cons, or_assoc}
use Rattle.nextest_settings.specs.Queries.{custom_group, is_of_name, last_group}
use Rattle.nextest_settings.specs.Profiles.Memberships.{IsLastGroup, NoneGetsGroup, HaveDistinctIds}

or_none : {Y : Type 0} (o : Option Y) → option_or o None ≡ o
or_none None = refl
or_none (Some y) = refl

-- the first of what f gives, with one element more at the end
first_more : {X Y : Type 0} (f : X → Option Y) (xs : List X) (x : X)
    → first_of f (xs ++ x ∷ []) ≡ option_or (first_of f xs) (f x)
first_more f [] x = first_cons (f x) [] ∙ or_none (f x)
first_more f (y ∷ xs) x =
    first_cons (f y) (filter_map f (xs ++ x ∷ []))
    ∙ ap (option_or (f y)) (first_more f xs x)
    ∙ or_assoc (f y) (first_of f xs) (f x)
    ∙ ap (λ o. option_or o (f x)) (sym (first_cons (f y) (filter_map f xs)))

module _ (f : Test → Option TestGroup) (id name : List ℕ) where
  -- what the last test of the name gets that gets something
  abbrev pub last_given : List Test → Option TestGroup
  last_given tests = first_of f (reverse (filter (is_of_name id name) tests))

  last_cons : (test : Test) (tests : List Test) (b : Bool) → is_of_name id name test ≡ b
      → last_given (test ∷ tests) ≡ option_or (last_given tests) (if b then f test else None)
  last_cons test tests true is =
      rw (is, reverse-append (test ∷ []) (filter (is_of_name id name) tests))
      (first_more f (reverse (filter (is_of_name id name) tests)) test)
  last_cons test tests false is = rw is (sym (or_none (last_given tests)))

  -- none of the tests gets a group
  none_head : (test : Test) (o : Option TestGroup) (b : Bool)
      → option_or o (if b then f test else None) ≡ None → b ≡ true → f test ≡ None
  none_head test None true none is = none
  none_head test None false none is = absurd cc
  none_head test (Some g) b none is = absurd cc

  none_tail : (o r : Option TestGroup) → option_or o r ≡ None → o ≡ None
  none_tail None r none = refl
  none_tail (Some g) r none = absurd cc

  pub none_gets : (tests : List Test) → last_given tests ≡ None → NoneGetsGroup f tests id name
  none_gets [] none n test at named = absurd cc
  none_gets (t ∷ tests) none zero test at named =
      let same : t ≡ test = same_Some t test at in
      let here : is_of_name id name t ≡ true = rw same named in
      rw (← same) (none_head t (last_given tests) true (sym (last_cons t tests true here) ∙ none) refl)
  none_gets (t ∷ tests) none (suc n) test at named =
      none_gets tests (none_tail (last_given tests) _
      (sym (last_cons t tests (is_of_name id name t) refl) ∙ none)) n test at named

  -- one test more in front
  further : (t : Test) (tests : List Test) (group : TestGroup) → IsLastGroup f tests id name group
      → IsLastGroup f (t ∷ tests) id name group
  further t tests group h = record {
    place = suc h.place;
    test = h.test;
    stands = h.stands;
    has_name = h.has_name;
    is = h.is;
    last = past;
  } where
    past : (n : ℕ) (later : Test) → suc h.place < n → slice_get (t ∷ tests) n ≡ Some later
        → is_of_name id name later ≡ true → f later ≡ None
    past zero later after at named = absurd (omega (arith, after))
    past (suc n) later after at named = h.last n later (omega (arith, after)) at named

  here : (t : Test) (tests : List Test) (group : TestGroup) → last_given tests ≡ None
      → is_of_name id name t ≡ true → f t ≡ Some group → IsLastGroup f (t ∷ tests) id name group
  here t tests group none named gets = record {
    place = 0;
    test = t;
    stands = refl;
    has_name = named;
    is = gets;
    last = past;
  } where
    past : (n : ℕ) (later : Test) → 0 < n → slice_get (t ∷ tests) n ≡ Some later
        → is_of_name id name later ≡ true → f later ≡ None
    past zero later after at named = absurd (omega (arith, after))
    past (suc n) later after at named = none_gets tests none n later at named

  -- by what the tests after it get
  by_rest : (t : Test) (tests : List Test) (group : TestGroup)
      → (last_given tests ≡ Some group → IsLastGroup f tests id name group)
      → (o : Option TestGroup) (b : Bool) → last_given tests ≡ o → is_of_name id name t ≡ b
      → option_or o (if b then f t else None) ≡ Some group → IsLastGroup f (t ∷ tests) id name group
  by_rest t tests group later (Some g) b rest named found = further t tests group (later (rest ∙ found))
  by_rest t tests group later None true rest named found = here t tests group rest named found
  by_rest t tests group later None false rest named found = absurd cc

  pub last_gets : (tests : List Test) (group : TestGroup) → last_given tests ≡ Some group
      → IsLastGroup f tests id name group
  last_gets [] group is = absurd cc
  last_gets (t ∷ tests) group is =
      by_rest t tests group (last_gets tests group) (last_given tests) (is_of_name id name t) refl refl
      (sym (last_cons t tests (is_of_name id name t) refl) ∙ is)

  by_last : (tests : List Test) (o : Option TestGroup) → last_given tests ≡ o
      → IsLastGroup f tests id name (unwrap_or o Global)
      ⊎ ((unwrap_or o Global ≡ Global) × NoneGetsGroup f tests id name)
  by_last tests None is = inr (refl, none_gets tests is)
  by_last tests (Some group) is = inl (last_gets tests group is)

  pub group_is_last : (tests : List Test) → IsLastGroup f tests id name (last_group f tests id name)
      ⊎ ((last_group f tests id name ≡ Global) × NoneGetsGroup f tests id name)
  group_is_last tests = by_last tests (last_given tests) refl

-- a test has its own name
own_name : (test : Test) → is_of_name test.binary.binary_id test.name test ≡ true
own_name test = and_from (bytes_eq test.binary.binary_id test.binary.binary_id) (bytes_eq test.name test.name)
    ((bytes_eq-Decides test.binary.binary_id test.binary.binary_id).1 refl)
    ((bytes_eq-Decides test.name test.name).1 refl)

-- where ids are distinct, a test gets what its name gets
module _ (f : Test → Option TestGroup) (tests : List Test) (distinct : HaveDistinctIds tests) (n : ℕ)
    (test : Test) (at : slice_get tests n ≡ Some test) where
  by_name : (o : Option TestGroup) → last_given f test.binary.binary_id test.name tests ≡ o → f test ≡ o
  by_name None is = none_gets f test.binary.binary_id test.name tests is n test at (own_name test)
  by_name (Some group) is =
      let h = last_gets f test.binary.binary_id test.name tests group is in
      let both = and_parts (bytes_eq h.test.binary.binary_id test.binary.binary_id)
      (bytes_eq h.test.name test.name) h.has_name in
      let place : h.place ≡ n =
      distinct h.place n h.test test h.stands at
      ((bytes_eq-Decides h.test.binary.binary_id test.binary.binary_id).0 both.0)
      ((bytes_eq-Decides h.test.name test.name).0 both.1) in
      let same : h.test ≡ test = same_Some h.test test (sym h.stands ∙ ap (slice_get tests) place ∙ at) in
      rw (← same) h.is

  pub gets_by_name : f test ≡ last_given f test.binary.binary_id test.name tests
  gets_by_name = by_name (last_given f test.binary.binary_id test.name tests) refl

-- a group is the custom one, or else the global one
pub whole_group : (o : Option TestGroup) (r : Option TestGroup)
    → option_and_then custom_group (option_or o (Some Global)) ≡ r
    → option_or o (Some Global) ≡ Some (unwrap_or r Global)
whole_group None r is = rw (← is) refl
whole_group (Some Global) r is = rw (← is) refl
whole_group (Some (Custom g)) r is = rw (← is) refl
