-- Classes of changes: a loop that takes them from a list, one after another, and what they are.
use Rattle.std.proofs.Common.{◌≡◌, ℕ, ◌<◌, ◌≤◌, ◌+◌, ◌∙◌, Bool, true, false, cond, not, List, [], ◌∷◌, ◌++◌, length, map, filter, flat_map, zero, suc, take, Some, get_or, refl, sym, ap, subst, arith}
use Rattle.std.specs.List.{AllByRecursion, Contains}
use Rattle.std.proofs.lemmas.List.Sorted.{IsPermutation-refl, IsPermutation-trans, IsPermutation-filter_both, IsPermutation-append_right}
use Rattle.std.proofs.lemmas.List.Filters.{length-filter_both}
use Rattle.std.proofs.lemmas.Grind.{flat_map-append, take_at_read}
use Rattle.std.proofs.lemmas.List.{append-nil, take_all}
use Rattle.std.proofs.lemmas.List.Elements.{All-nil, All-push}
use Rattle.std.proofs.lemmas.Option.{get_or_from_slice_get, slice_get_within}
use Rattle.std.proofs.lemmas.List.{map-append}
use Rattle.std.specs.List.{All, AllZip, slice_get}
use Rattle.rinqebo_report.specs.declared.report.TestId.{TestId}
use Rattle.rinqebo_changes.specs.declared.change.RowChange.{RowChange}
use Rattle.rinqebo_changes.specs.declared.change.TestChanges.{TestChanges}
use Rattle.rinqebo_changes.specs.declared.classes.Item.{Item}
use Rattle.rinqebo_changes.specs.declared.classes.ClassRule.{ClassRule}
use Rattle.rinqebo_changes.specs.Classes.{AreClasses, IsFirstLeast, none, more, items_of, same_item}
use Rattle.rinqebo_changes.specs.Laws.{AreWhole}

-- a test that an element passes keeps one at least
keeps_some : {X : Type 0} (p : X → Bool) (xs : List X) (x : X) (k : ℕ) → k < length xs → get_or xs k x ≡ x
    → p x ≡ true → 0 < length (filter p xs)
keeps_some {X} p [] x k lt is passes = absurd (omega arith)
keeps_some {X} p (y ∷ ys) x zero lt is passes =
    let here : p y ≡ true = ap p is ∙ passes in rw here (omega arith)
keeps_some {X} p (y ∷ ys) x (suc k) lt is passes =
    longer (p y) y (filter p ys) (keeps_some p ys x k (omega arith) is passes)
  where
    longer : (b : Bool) (z : X) (zs : List X) → 0 < length zs → 0 < length (cond b (z ∷ zs) zs)
    longer true z zs h = omega arith
    longer false z zs h = h

-- what is not put together with one of some elements is less than they all
pub fewer : {X : Type 0} (p : X → Bool) (xs : List X) (x : X) → Contains xs x → p x ≡ true
    → length (filter (λ y. not (p y)) xs) < length xs
fewer p xs x here passes =
    let some : 0 < length (filter p xs) = keeps_some p xs x here.0 here.1 here.2 passes in
    omega (arith, length-filter_both p (λ y. not (p y)) (λ y. refl) xs)

-- one that passes is among those that pass
pub contains_kept : {X : Type 0} (p : X → Bool) (xs : List X) (x : X) → Contains xs x → p x ≡ true
    → Contains (filter p xs) x
contains_kept {X} p xs x here passes = kept xs here.0 here.1 here.2
  where
    behind : (b : Bool) (y : X) (ys : List X) → Contains ys x → Contains (cond b (y ∷ ys) ys) x
    behind true y ys one = (suc one.0, omega (arith, one.1), one.2)
    behind false y ys one = one

    first : (b : Bool) (y : X) (ys : List X) → y ≡ x → b ≡ true → Contains (cond b (y ∷ ys) ys) x
    first true y ys is holds = (0, omega arith, is)
    first false y ys is holds = absurd (cc)

    kept : (ys : List X) (k : ℕ) → k < length ys → get_or ys k x ≡ x → Contains (filter p ys) x
    kept [] k lt is = absurd (omega arith)
    kept (y ∷ ys) zero lt is = first (p y) y (filter p ys) is (ap p is ∙ passes)
    kept (y ∷ ys) (suc k) lt is = behind (p y) y (filter p ys) (kept ys k (omega arith) is)

-- classes so far, one more, and others
pub one_more : {X Y : Type 0} (f : X → Y) (xs : List X) (x : X) (ys : List Y)
    → map f (xs ++ x ∷ []) ++ ys ≡ map f xs ++ f x ∷ ys
one_more f [] x ys = refl
one_more f (z ∷ zs) x ys = ap (λ t. f z ∷ t) (one_more f zs x ys)

-- elements of a filter pass it
all_pass : (p : Item → Bool) (xs : List Item) → AllByRecursion (λ x. p x ≡ true) (filter p xs)
all_pass p [] = tt
all_pass p (x ∷ xs) = kept (p x) refl (all_pass p xs)
  where
    kept : (q : Bool) → p x ≡ q → AllByRecursion (λ y. p y ≡ true) (filter p xs)
        → AllByRecursion (λ y. p y ≡ true) (cond q (x ∷ filter p xs) (filter p xs))
    kept true is all = (is, all)
    kept false is all = all

-- classes have all elements, and those of a class are put together
pub whole_classes : (rule : ClassRule) {items : List Item} {classes : List (List Item)}
    → AreClasses (same_item rule) items classes → AreWhole rule items classes
whole_classes rule none = record { kept = IsPermutation-refl []; uniform = tt }
whole_classes rule (more {items} {classes} head first rest) =
    let p = same_item rule head in
    let others = whole_classes rule rest in record {
      kept = IsPermutation-trans items (filter p items ++ filter (λ y. not (p y)) items)
          (filter p items ++ flat_map (λ class. class) classes)
          (IsPermutation-filter_both p (λ y. not (p y)) (λ y. refl) items)
          (IsPermutation-append_right (filter p items) (filter (λ y. not (p y)) items)
          (flat_map (λ class. class) classes) others.kept);
      uniform = (record { head = head; together = all_pass p items }, others.uniform);
    }

-- one more element than the first ones
one_behind : {X : Type 0} (xs : List X) (i : ℕ) (x : X) → i < length xs → x ≡ get_or xs i x
    → take (i + 1) xs ≡ take i xs ++ x ∷ []
one_behind xs i x lt is = (take_at_read xs i x lt).1 ∙ ap (λ y. take i xs ++ y ∷ []) (sym is)

-- the place of the setting of a change
abbrev pub place_of : Item → ℕ
place_of item = item.row.now.place

-- one that comes before the first one so far comes before all so far
lower_all : (xs : List Item) (i : ℕ) (x first : Item) → i < length xs → x ≡ get_or xs i x
    → place_of x < place_of first → All (λ y. place_of first ≤ place_of y) (take i xs)
    → All (λ y. place_of x ≤ place_of y) (take (i + 1) xs)
lower_all xs i x first lt is lower all =
    subst (All (λ y. place_of x ≤ place_of y)) (sym (one_behind xs i x lt is))
    (All-push (λ y. place_of x ≤ place_of y) (take i xs) x
    (λ k d below. let h : place_of first ≤ place_of (get_or (take i xs) k d) = all k d below in omega arith) (omega arith))

-- one that no other comes before stays so before one more that it comes before
same_all : (xs : List Item) (i : ℕ) (x first : Item) → i < length xs → x ≡ get_or xs i x
    → place_of first ≤ place_of x → All (λ y. place_of first ≤ place_of y) (take i xs)
    → All (λ y. place_of first ≤ place_of y) (take (i + 1) xs)
same_all xs i x first lt is lower all =
    subst (All (λ y. place_of first ≤ place_of y)) (sym (one_behind xs i x lt is))
    (All-push (λ y. place_of first ≤ place_of y) (take i xs) x all lower)

-- One of some changes is the first of those whose setting comes first among so many.
pub record IsFirstOf (items : List Item) (n : ℕ) (head : Item) : Type 0 where
  pub here : Contains items head
  pub least : All (λ y. place_of head ≤ place_of y) (take n items)
  pub first : All (λ y. place_of head < place_of y) (take here.0 items)

-- the first element is the first one of none
pub first_begun : (xs : List Item) (first : Item) → slice_get xs 0 ≡ Some first → IsFirstOf xs 0 first
first_begun xs first is = record {
  here = (0, slice_get_within xs 0 first is, get_or_from_slice_get xs 0 first first is);
  least = All-nil (λ y. place_of first ≤ place_of y);
  first = All-nil (λ y. place_of first < place_of y);
}

-- one more takes the place of the first one, or does not
pub first_lower : (xs : List Item) (i : ℕ) (x first : Item) → i < length xs → x ≡ get_or xs i x
    → place_of x < place_of first → IsFirstOf xs i first → IsFirstOf xs (i + 1) x
first_lower xs i x first lt is lower so = record {
  here = (i, lt, sym is);
  least = lower_all xs i x first lt is lower so.least;
  first = λ k d below. let h : place_of first ≤ place_of (get_or (take i xs) k d) = so.least k d below in omega arith;
}

pub first_same : (xs : List Item) (i : ℕ) (x first : Item) → i < length xs → x ≡ get_or xs i x
    → place_of first ≤ place_of x → IsFirstOf xs i first → IsFirstOf xs (i + 1) first
first_same xs i x first lt is lower so = record {
  here = so.here;
  least = same_all xs i x first lt is lower so.least;
  first = so.first;
}

-- the changes of one more test
pub items_more : (tests : List TestChanges) (i : ℕ) (test : TestChanges) → i < length tests → test ≡ get_or tests i test
    → (n : ℕ) → length test.rows.items ≤ n → (old new : List (TestId × RowChange))
    → old ≡ items_of (take i tests) → new ≡ old ++ map (λ row. (test.test, row)) (take n test.rows.items)
    → new ≡ items_of (take (i + 1) tests)
items_more tests i test lt is n le old new before then =
    let f : TestChanges → List (TestId × RowChange) = λ t. map (λ row. (t.test, row)) t.rows.items in
    then ∙ ap (λ rows. old ++ map (λ row. (test.test, row)) rows) (take_all n test.rows.items le)
    ∙ ap (λ t. t ++ f test) before ∙ ap (λ t. items_of (take i tests) ++ t) (sym (append-nil (f test)))
    ∙ sym (flat_map-append f (take i tests) (test ∷ []))
    ∙ ap items_of (sym (one_behind tests i test lt is))

-- one more class, behind which there are those of the other changes
pub class_more : (rule : ClassRule) (items rest one two three : List Item) (head : Item) (others class : List Item)
    (before cs : List (List Item)) → one ≡ rest → two ≡ rest → three ≡ rest → IsFirstLeast one head
    → others ≡ filter (λ y. not (same_item rule head y)) two → class ≡ filter (same_item rule head) three
    → ((ks : List (List Item)) → AreClasses (same_item rule) rest ks → AreClasses (same_item rule) items (before ++ ks))
    → AreClasses (same_item rule) others cs → AreClasses (same_item rule) items (before ++ class ∷ cs)
class_more rule items rest one two three head others class before cs o t h first are is all behind =
    let p = same_item rule head in
    let least : IsFirstLeast rest head = subst (λ xs. IsFirstLeast xs head) o first in
    let left : AreClasses (same_item rule) (filter (λ y. not (p y)) rest) cs =
    subst (λ xs. AreClasses (same_item rule) xs cs) (are ∙ ap (filter (λ y. not (p y))) t) behind in
    let here : class ≡ filter p rest = is ∙ ap (filter p) h in
    subst (λ k. AreClasses (same_item rule) items (before ++ k ∷ cs)) (sym here)
    (all (filter p rest ∷ cs) (more head least left))

zip_push : {A B : Type 0} (R : A → B → Type 0) (xs : List A) (ys : List B) (x : A) (y : B)
    → AllZip R xs ys → R x y → AllZip R (xs ++ x ∷ []) (ys ++ y ∷ [])
zip_push R [] [] x y all r = (r, tt)
zip_push R [] (z ∷ zs) x y all r = absurd all
zip_push R (z ∷ zs) [] x y all r = absurd all
zip_push R (z ∷ zs) (w ∷ ws) x y all r = (all.0, zip_push R zs ws x y all.1 r)

-- one more beside what is made of one more
pub zip_step : {A B C : Type 0} (f : A → B) (R : B → C → Type 0) (xs : List A) (i : ℕ) (x : A) → i < length xs
    → x ≡ get_or xs i x → (ys : List C) (y : C) (zs : List C) → AllZip R (map f (take i xs)) ys → R (f x) y
    → zs ≡ ys ++ y ∷ [] → AllZip R (map f (take (i + 1) xs)) zs
zip_step f R xs i x lt is ys y zs all r then =
    let more : map f (take (i + 1) xs) ≡ map f (take i xs) ++ f x ∷ [] =
    ap (map f) (one_behind xs i x lt is) ∙ map-append f (take i xs) (x ∷ []) in
    subst (λ ws. AllZip R (map f (take (i + 1) xs)) ws) (sym then)
    (subst (λ ws. AllZip R ws (ys ++ y ∷ [])) (sym more) (zip_push R (map f (take i xs)) ys (f x) y all r))
