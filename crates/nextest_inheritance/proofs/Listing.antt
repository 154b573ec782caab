-- The cycles of profiles, as a list.
use Rattle.std.proofs.Common.{◌≡◌, ℕ, List, [], ◌∷◌, length, Ordering, Less, Equal, Greater, cond, Option, None, Some, refl, sym, ap, ◌∙◌, subst, arith, nat_cmp, get_or, zero, suc, ◌<◌}
use Rattle.std.specs.BTreeMap.{is_at}
use Rattle.std.specs.Cmp.{IsTotalOrder}
use Rattle.std.specs.Cmp.Lexicographic.{slice_cmp}
use Rattle.std.specs.List.{AllByRecursion, Contains, cons_option, filter_map}
use Rattle.std.specs.List.Sorted.{IsStrictlySortedBy}
use Rattle.std.specs.Map.{keys_of, lookup}
use Rattle.std.specs.Option.{unwrap_or}
use Rattle.std.specs.Ordering.{is_eq}
use Rattle.std.proofs.lemmas.Cmp.{nat_list_cmp_total, lists_total, tied_itself}
use Rattle.std.proofs.lemmas.Map.Keys.{sorted_head, sorted_tail}
use Rattle.std.proofs.lemmas.Map.Lookups.{exact_bytes}
use Rattle.nextest_inheritance.specs.Names.{Name}
use Rattle.nextest_inheritance.specs.Parents.{Parents, WrittenParents, parents_in}
use Rattle.nextest_inheritance.specs.Cycles.{IsCycle, IsCycleFrom, AreCycles, cycle_from, cycles_in}
use Rattle.nextest_inheritance.proofs.Members.{In, here, there, here_at, all_at}
use Rattle.nextest_inheritance.proofs.Trails.{lead_parent}
use Rattle.nextest_inheritance.proofs.Ends.{AreKeys, as_many}
use Rattle.nextest_inheritance.proofs.Counting.{IsCounted, cycle_counted, counted_cycle}

-- membership, as contracts say it
pub contains_in : {X : Type 0} (x : X) (xs : List X) → In x xs → Contains xs x
contains_in x l (here {xs = xs}) = (0, omega arith, refl)
contains_in x l (there {y = y} {xs = xs} i) =
    let k = contains_in x xs i in (suc k.0, omega (arith, k.1), k.2)

in_place : {X : Type 0} (xs : List X) (k : ℕ) (d : X) → k < length xs → In (get_or xs k d) xs
in_place [] k d short = absurd (omega arith)
in_place (x ∷ xs) zero d short = here
in_place (x ∷ xs) (suc k) d short = there (in_place xs k d (omega arith))

pub in_contains : {X : Type 0} (x : X) (xs : List X) → Contains xs x → In x xs
in_contains {X} x xs k = let P : X → Type 0 = λ y. In y xs in subst P k.2 (in_place xs k.0 x k.1)

-- the entry of a key
pub record Entry (es : WrittenParents) (name : Name) : Type 0 where
  pub entry : Name × Option Name
  pub within : In entry es
  pub is : entry.0 ≡ name

pub entry_of : (es : WrittenParents) (name : Name) → In name (keys_of es) → Entry es name
entry_of [] name i = elim i [ ]
entry_of (e ∷ es) name here = record { entry = e; within = here; is = refl }
entry_of (e ∷ es) name (there i) =
    let found = entry_of es name i in record { entry = found.entry; within = there found.within; is = found.is }

-- a name with a parent is a key
keyed_at : (name parent : Name) (e : Name × Option Name) (es : WrittenParents) (order : Ordering)
    → slice_cmp nat_cmp name e.0 ≡ order
    → unwrap_or (cond (is_eq order) (Some e.1) (lookup (is_at (slice_cmp nat_cmp name)) es)) None ≡ Some parent
    → (parents_in es name ≡ Some parent → In name (keys_of es)) → In name (e.0 ∷ keys_of es)
keyed_at name parent e es Equal order is later = here_at name e.0 (keys_of es) (exact_bytes name e.0 order)
keyed_at name parent e es Less order is later = there (later is)
keyed_at name parent e es Greater order is later = there (later is)

pub are_keys : (es : WrittenParents) → AreKeys (parents_in es) (keys_of es)
are_keys [] name parent is = cc
are_keys (e ∷ es) name parent is =
    keyed_at name parent e es (slice_cmp nat_cmp name e.0) refl is (are_keys es name parent)

-- what a filter keeps
in_kept : {Y : Type 0} (y : Y) (ys : List Y) (o : Option Y) → o ≡ Some y → In y (cons_option o ys)
in_kept y ys None e = cc
in_kept y ys (Some w) e = here_at y w ys (let f : w ≡ y = cc in sym f)

in_more : {Y : Type 0} (y : Y) (ys : List Y) (o : Option Y) → In y ys → In y (cons_option o ys)
in_more y ys None i = i
in_more y ys (Some w) i = there i

pub in_filter : {X Y : Type 0} (f : X → Option Y) (x : X) (y : Y) (xs : List X) → In x xs → f x ≡ Some y
    → In y (filter_map f xs)
in_filter f x y l (here {xs = xs}) e = in_kept y (filter_map f xs) (f x) e
in_filter f x y l (there {y = z} {xs = xs} i) e = in_more y (filter_map f xs) (f z) (in_filter f x y xs i e)

all_more : {X Y : Type 0} (f : X → Option Y) (P : Y → Type 0) (x : X) (ys : List Y) (o : Option Y) → f x ≡ o
    → ((y : Y) → f x ≡ Some y → P y)
    → AllByRecursion P ys → AllByRecursion P (cons_option o ys)
all_more f P x ys None is each all = all
all_more f P x ys (Some y) is each all = (each y is, all)

all_filter : {X Y : Type 0} (f : X → Option Y) (P : Y → Type 0) (xs : List X)
    → ((x : X) (y : Y) → f x ≡ Some y → P y) → AllByRecursion P (filter_map f xs)
all_filter f P [] each = tt
all_filter f P (x ∷ xs) each = all_more f P x (filter_map f xs) (f x) refl (each x) (all_filter f P xs each)

abbrev name_cmp : Name → Name → Ordering
name_cmp = slice_cmp nat_cmp

abbrev cycle_cmp : List Name → List Name → Ordering
cycle_cmp = slice_cmp name_cmp

-- lists whose first names ascend
abbrev BeginsAt : (Name × Option Name → Option (List Name)) → Type 0
BeginsAt f = (e : Name × Option Name) (c : List Name) → f e ≡ Some c → (others : List Name) × (c ≡ e.0 ∷ others)

above_at : (f : Name × Option Name → Option (List Name)) → BeginsAt f
    → (name : Name) (others : List Name) (e : Name × Option Name) (o : Option (List Name)) (ds : List (List Name))
    → f e ≡ o → name_cmp name e.0 ≡ Less → AllByRecursion (λ d. cycle_cmp (name ∷ others) d ≡ Less) ds
    → AllByRecursion (λ d. cycle_cmp (name ∷ others) d ≡ Less) (cons_option o ds)
above_at f begins name others e None ds is below all = all
above_at f begins name others e (Some d) ds is below all =
    let b = begins e d is in (rw (b.1, below) refl, all)

above : (f : Name × Option Name → Option (List Name)) → BeginsAt f
    → (name : Name) (others : List Name) (es : WrittenParents)
    → AllByRecursion (λ key. name_cmp name key ≡ Less) (keys_of es)
    → AllByRecursion (λ d. cycle_cmp (name ∷ others) d ≡ Less) (filter_map f es)
above f begins name others [] below = tt
above f begins name others (e ∷ es) below =
    above_at f begins name others e (f e) (filter_map f es) refl below.0 (above f begins name others es below.1)

ascending_at : (f : Name × Option Name → Option (List Name)) → BeginsAt f
    → (e : Name × Option Name) (o : Option (List Name)) (es : WrittenParents) → f e ≡ o
    → AllByRecursion (λ key. name_cmp e.0 key ≡ Less) (keys_of es)
    → IsStrictlySortedBy cycle_cmp (filter_map f es)
    → IsStrictlySortedBy cycle_cmp (cons_option o (filter_map f es))
unfolding IsStrictlySortedBy
ascending_at f begins e None es is below sorted = sorted
ascending_at f begins e (Some c) es is below sorted =
    let b = begins e c is in
    let P : List Name → Type 0 = λ l. AllByRecursion (λ d. cycle_cmp l d ≡ Less) (filter_map f es) in
    (subst P (sym b.1) (above f begins e.0 b.0 es below), sorted)

ascending : (f : Name × Option Name → Option (List Name)) → BeginsAt f → (es : WrittenParents)
    → IsStrictlySortedBy name_cmp (keys_of es) → IsStrictlySortedBy cycle_cmp (filter_map f es)
unfolding IsStrictlySortedBy
ascending f begins [] sorted = tt
ascending f begins (e ∷ es) sorted = ascending_at f begins e (f e) es refl sorted.0 (ascending f begins es sorted.1)

abbrev counted_from : WrittenParents → Name × Option Name → Option (List Name)
counted_from es e = cycle_from (parents_in es) (length es) e.0

is_cycle_at : (parents : Parents) (name : Name) (cycle : List Name) → IsCounted parents name cycle
    → IsCycle parents cycle
is_cycle_at parents name cycle c = let P : List Name → Type 0 = IsCycle parents in subst P (sym c.begins) c.is

length-keys_of : (es : WrittenParents) → length (keys_of es) ≡ length es
length-keys_of [] = refl
length-keys_of (e ∷ es) = let more = length-keys_of es in omega (arith, more)

found : (es : WrittenParents) (least : Name) (others : List Name) → IsCycleFrom (parents_in es) least others
    → In (least ∷ others) (cycles_in es)
found es least others cycle =
    let have = λ (x : Name) (i : In x (least ∷ others)). lead_parent (parents_in es) least (least ∷ others) x
    cycle.around i in
    let first = have least here in
    let entry = entry_of es least (are_keys es least first.0 first.1) in
    let room = as_many (parents_in es) (keys_of es) (are_keys es) (least ∷ others) cycle.distinct have in
    let whole = counted_cycle (parents_in es) (length es) least others cycle (omega (arith, room, length-keys_of es)) in
    in_filter (counted_from es) entry.entry (least ∷ others) es entry.within
    (ap (cycle_from (parents_in es) (length es)) entry.is ∙ whole)

found_cycle : (es : WrittenParents) (cycle : List Name) → IsCycle (parents_in es) cycle → In cycle (cycles_in es)
found_cycle es [] c = absurd c
found_cycle es (least ∷ others) c = found es least others c

-- the cycles that are counted are exactly the cycles
pub are_cycles : (es : WrittenParents) → IsStrictlySortedBy (slice_cmp nat_cmp) (keys_of es)
    → AreCycles (parents_in es) (cycles_in es)
are_cycles es sorted = record {
  sound = all_filter (counted_from es) (IsCycle (parents_in es)) es
      (λ e c is. is_cycle_at (parents_in es) e.0 c (cycle_counted (parents_in es) (length es) e.0 c is));
  complete = λ c is. contains_in c (cycles_in es) (found_cycle es c is);
  order = ascending (counted_from es)
      (λ e c is. let k = cycle_counted (parents_in es) (length es) e.0 c is in (k.others, k.begins)) es sorted;
}

-- two lists that ascend and hold the same are one
pub not_itself : {X : Type 0} (cmp : X → X → Ordering) → IsTotalOrder cmp → (x y : X) → cmp x y ≡ Less → x ≡ y → ⊥
not_itself cmp total x y less same =
    let tied : cmp x y ≡ Equal = rw same (tied_itself total y) in
    let bad : Less ≡ Equal = sym less ∙ tied in cc

same_first : {X : Type 0} (cmp : X → X → Ordering) → IsTotalOrder cmp → (x y : X) (xs ys : List X)
    → AllByRecursion (λ z. cmp x z ≡ Less) xs → AllByRecursion (λ z. cmp y z ≡ Less) ys
    → In x (y ∷ ys) → In y (x ∷ xs) → x ≡ y
same_first cmp total x y xs ys up over here j = refl
same_first cmp total x y xs ys up over (there i) here = refl
same_first cmp total x y xs ys up over (there i) (there j) =
    let below : cmp x y ≡ Less = all_at (λ z. cmp x z ≡ Less) y xs up j in
    let back : cmp y x ≡ Less = all_at (λ z. cmp y z ≡ Less) x ys over i in
    absurd (not_itself cmp total x x (total.trans x y x below back) refl)

in_rest : {X : Type 0} (cmp : X → X → Ordering) → IsTotalOrder cmp → (x y z : X) (ys : List X) → x ≡ y
    → cmp x z ≡ Less → In z (y ∷ ys) → In z ys
in_rest cmp total x y z ys same less here = absurd (not_itself cmp total x z less same)
in_rest cmp total x y z ys same less (there i) = i

pub ascending_one : {X : Type 0} (cmp : X → X → Ordering) → IsTotalOrder cmp → (xs ys : List X)
    → IsStrictlySortedBy cmp xs → IsStrictlySortedBy cmp ys
    → ((z : X) → In z xs → In z ys) → ((z : X) → In z ys → In z xs) → xs ≡ ys
ascending_one cmp total [] [] up over to from = refl
ascending_one cmp total [] (y ∷ ys) up over to from = elim (from y here) [ ]
ascending_one cmp total (x ∷ xs) [] up over to from = elim (to x here) [ ]
ascending_one {X} cmp total (x ∷ xs) (y ∷ ys) up over to from =
    let same : x ≡ y = same_first cmp total x y xs ys (sorted_head cmp x xs up) (sorted_head cmp y ys over)
    (to x here) (from y here) in
    let rest = ascending_one cmp total xs ys (sorted_tail cmp x xs up) (sorted_tail cmp y ys over)
    (λ z i. in_rest cmp total x y z ys same (all_at (λ w. cmp x w ≡ Less) z xs (sorted_head cmp x xs up) i)
    (to z (there i)))
    (λ z i. in_rest cmp total y x z xs (sym same)
    (all_at (λ w. cmp y w ≡ Less) z ys (sorted_head cmp y ys over) i) (from z (there i))) in
    ap (λ l. x ∷ l) rest ∙ ap (λ v. v ∷ ys) same

-- a list of all cycles is that of those that are counted
pub all_cycles : (parents : Parents) (cs ds : List (List Name)) → AreCycles parents cs → AreCycles parents ds → cs ≡ ds
all_cycles parents cs ds one other =
    ascending_one (slice_cmp (slice_cmp nat_cmp)) (lists_total nat_list_cmp_total) cs ds one.order other.order
    (λ c i. in_contains c ds (other.complete c (all_at (IsCycle parents) c cs one.sound i)))
    (λ c i. in_contains c cs (one.complete c (all_at (IsCycle parents) c ds other.sound i)))
