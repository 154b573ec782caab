-- Whether something holds of a test of a list, as script rules see the tests.
use Rattle.std.proofs.Common.{◌≡◌, ◌∙◌, ℕ, ◌+◌, ◌<◌, ◌||◌, Bool, true, false, List, ◌∷◌, ◌++◌, length, map, drop, get_or, sym, ap}
use Rattle.std.proofs.lemmas.List.{drop_more, map-append}
use Rattle.std.proofs.lemmas.List.Folds.{list_any-append}
use Rattle.std.specs.List.{list_any}
use Rattle.filter_inputs.specs.Lists.Lists.{ListTest, tests_in}
use Rattle.filter_inputs.specs.Lists.ListView.{listed_view}
use Rattle.filter_inputs.specs.declared.lists.list.ListedBinary.{ListedBinary}
use Rattle.nextest_engines.specs.Engines.{Test}
use Rattle.nextest_settings.specs.Deciding.{QueryContext}
use Rattle.nextest_settings.specs.Queries.{test_query}
use Rattle.rinqebo_changes.specs.Sides.Matched.{tests_of}
use Rattle.rinqebo_diff.specs.ListScripts.{judged}

module _ {M : Type 0} (holds : M → Test → M → Bool) (default : M) (p : QueryContext M → Bool) where
  abbrev SomeOf : List ListTest → Bool
  SomeOf tests = list_any p (judged holds default tests)

  some_behind : (xs ys : List ListTest) → SomeOf (xs ++ ys) ≡ (SomeOf xs || SomeOf ys)
  some_behind xs ys =
      let test : ListTest → Test = λ t. t.test in
      let query = test_query holds default in
      ap (λ ts. list_any p (map query ts)) (map-append test xs ys)
      ∙ ap (list_any p) (map-append query (map test xs) (map test ys))
      ∙ list_any-append p (map query (map test xs)) (map query (map test ys))

  module _ (binaries : List ListedBinary) (i : ℕ) (binary d : ListedBinary) (below : i < length binaries)
      (is : binary ≡ get_or binaries i d) where
    some_left : SomeOf (tests_of (drop i binaries))
        ≡ (SomeOf (tests_in (listed_view binary)) || SomeOf (tests_of (drop (i + 1) binaries)))
    some_left =
        ap (λ bs. SomeOf (tests_of bs))
        (drop_more binaries i d below ∙ ap (λ b. b ∷ drop (i + 1) binaries) (sym is))
        ∙ some_behind (tests_in (listed_view binary)) (tests_of (drop (i + 1) binaries))

    -- it holds of a test of a binary
    pub some_here : SomeOf (tests_in (listed_view binary)) ≡ true → SomeOf (tests_of (drop i binaries)) ≡ true
    some_here has = some_left ∙ ap (λ b. b || SomeOf (tests_of (drop (i + 1) binaries))) has

    -- it holds of no test of a binary
    pub some_behind_it : SomeOf (tests_in (listed_view binary)) ≡ false
        → SomeOf (tests_of (drop (i + 1) binaries)) ≡ SomeOf (tests_of (drop i binaries))
    some_behind_it none = sym (some_left ∙ ap (λ b. b || SomeOf (tests_of (drop (i + 1) binaries))) none)
