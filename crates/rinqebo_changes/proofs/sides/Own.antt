-- What a list has in common with itself.
use Rattle.std.proofs.Common.{◌≡◌, ◌∙◌, ◌&&◌, ◌||◌, Bool, true, false, cond, not, List, [], ◌∷◌, ◌++◌, ap, append_assoc, filter, map, refl, subst, sym, bytes_eq}
use Rattle.std.proofs.lemmas.List.Elements.{All-contains_itself, All-filter, recursion_from_All}
use Rattle.std.proofs.lemmas.List.Folds.{list_any-append}
use Rattle.std.specs.Cmp.Lexicographic.{bytes_decides}
use Rattle.std.specs.List.{All, AllByRecursion, Contains}
use Rattle.filter_inputs.specs.Lists.Lists.{ListTest}
use Rattle.rinqebo_changes.specs.Sides.Matched.{same_test, is_in, ArePairs, IsOneTest, IsPairOf, TestPair}
use Rattle.rinqebo_changes.specs.Sides.Own.{AreOwn, NamesOnce}

both_true : (p q : Bool) → p ≡ true → q ≡ true → (p && q) ≡ true
both_true p q one two = rw one two

-- a test is the same as itself
same_itself : (t : ListTest) → same_test t t ≡ true
same_itself t =
    both_true (bytes_eq t.test.binary.binary_id t.test.binary.binary_id) (bytes_eq t.test.name t.test.name)
    ((bytes_decides t.test.binary.binary_id t.test.binary.binary_id).1 refl)
    ((bytes_decides t.test.name t.test.name).1 refl)

or_true : (p q r : Bool) → q ≡ true → (p || (q || r)) ≡ true
or_true true q r is = refl
or_true false q r is = rw is

-- a test is in a list in which it stands
here_in : (front : List ListTest) (t : ListTest) (ts : List ListTest) → is_in (front ++ t ∷ ts) t ≡ true
here_in front t ts =
    list_any-append (λ one. same_test one t) front (t ∷ ts)
    ∙ or_true (is_in front t) (same_test t t) (is_in ts t) (same_itself t)

all_in : (front ts : List ListTest) → AllByRecursion (λ t. is_in (front ++ ts) t ≡ true) ts
all_in front [] = tt
all_in front (t ∷ ts) = (
  here_in front t ts,
  subst (λ xs. AllByRecursion (λ s. is_in xs s ≡ true) ts) (append_assoc front (t ∷ []) ts)
      (all_in (front ++ t ∷ []) ts),
)

none_left : (p : ListTest → Bool) (ts : List ListTest) → AllByRecursion (λ t. p t ≡ true) ts
    → filter (λ t. not (p t)) ts ≡ []
none_left p [] all = refl
none_left p (t ∷ ts) all =
    let rest = filter (λ s. not (p s)) ts in
    ap (λ b. cond (not b) (t ∷ rest) rest) all.0 ∙ none_left p ts all.1

one_each : (tests : List ListTest) → NamesOnce tests → (pairs : List TestPair) → AllByRecursion (IsPairOf tests) pairs
    → AllByRecursion (Contains tests) (map (λ pair. pair.to) pairs) → AllByRecursion IsOneTest pairs
one_each tests once [] own there = tt
one_each tests once (p ∷ ps) own there =
    (record { same = once.one p.from p.to own.0.here there.0 own.0.same }, one_each tests once ps own.1 there.1)

pub own_tests : (tests : List ListTest) (pairs : List TestPair) → NamesOnce tests → ArePairs tests tests pairs
    → AreOwn tests pairs
own_tests tests pairs once are =
    let rights = map (λ (pair : TestPair). pair.to) pairs in
    let there : All (Contains tests) (filter (is_in tests) tests) =
    All-filter (is_in tests) (Contains tests) tests (All-contains_itself tests) in
    record {
      alone = none_left (is_in tests) tests (all_in [] tests);
      each = one_each tests once pairs (recursion_from_All (IsPairOf tests) pairs are.each)
          (recursion_from_All (Contains tests) rights (subst (All (Contains tests)) (sym are.rights) there));
    }
