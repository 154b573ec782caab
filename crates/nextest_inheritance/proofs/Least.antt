-- The least of names, by its place.
use Rattle.std.proofs.Common.{◌≡◌, ℕ, suc, ◌+◌, ◌<◌, List, [], ◌∷◌, ◌++◌, length, take, drop, get_or, true, false, refl, sym, ap, ◌∙◌, arith, Bor, below_more, take-append-drop, drop-cons}
use Rattle.std.specs.List.{AllByRecursion}
use Rattle.std.proofs.lemmas.Bool.{false_from_ne_true}
use Rattle.std.proofs.lemmas.List.{get_or_default}
use Rattle.nextest_inheritance.specs.Names.{Name, precedes}
use Rattle.nextest_inheritance.specs.View.{borrowed_view}
use Rattle.nextest_inheritance.specs.Walks.{IsTurned}
use Rattle.nextest_inheritance.proofs.Turning.{below_other, below_below}

-- No name below a place is below that of another.
abbrev pub IsLeastBelow : List (Bor Name) → (least end : ℕ) → Type 0
IsLeastBelow names least end = (place : ℕ) (d : Bor Name) → place < end
    → precedes (get_or names place d).now (get_or names least d).now ≡ false

more : (names : List (Bor Name)) (least end : ℕ) → IsLeastBelow names least end
    → ((d : Bor Name) → precedes (get_or names end d).now (get_or names least d).now ≡ false)
    → IsLeastBelow names least (end + 1)
more names least end so_far at = λ place d below.
    let P : ℕ → Type 0 = λ k. precedes (get_or names k d).now (get_or names least d).now ≡ false in
    below_more P end (λ k h. so_far k d h) (at d) place below

name_at : (names : List (Bor Name)) (place : ℕ) (d e : Bor Name) → place < length names
    → (get_or names place d).now ≡ (get_or names place e).now
name_at names place d e short = ap (λ name. name.now) (get_or_default names place d e short)

-- a name that is not below the least so far
pub least_kept : (names : List (Bor Name)) (least place : ℕ) (d e : Bor Name) → least < length names
    → place < length names
    → precedes (get_or names place d).now (get_or names least e).now ≡ false → IsLeastBelow names least place
    → IsLeastBelow names least (place + 1)
least_kept names least place d e within short higher so_far =
    more names least place so_far (λ f. rw (name_at names place f d short, name_at names least f e within) higher)

-- one that is
pub least_lower : (names : List (Bor Name)) (least place : ℕ) (d e : Bor Name) → least < length names
    → place < length names
    → precedes (get_or names place d).now (get_or names least e).now ≡ true → IsLeastBelow names least place
    → IsLeastBelow names place (place + 1)
least_lower names least place d e within short lower so_far =
    more names place place (λ other f below. false_from_ne_true _ (λ is. apart other f below is))
    (λ f. itself (get_or names place f).now)
  where
    itself : (x : Name) → precedes x x ≡ false
    itself x = false_from_ne_true _ (λ is. below_other x x is refl)

    apart : (other : ℕ) (f : Bor Name) → other < place
        → precedes (get_or names other f).now (get_or names place f).now ≡ true → ⊥
    apart other f below is =
        let under : precedes (get_or names place f).now (get_or names least f).now ≡ true =
        rw (name_at names place f d short, name_at names least f e within) lower in
        let both = below_below (get_or names other f).now (get_or names place f).now
        (get_or names least f).now is under in
        let bad : true ≡ false = sym both ∙ so_far other f below in cc

all_places : (P : Name → Type 0) (names : List (Bor Name))
    → ((place : ℕ) (d : Bor Name) → place < length names → P (get_or names place d).now)
    → AllByRecursion P (borrowed_view names)
all_places P [] each = tt
all_places P (x ∷ names) each =
    (each 0 x (omega arith), all_places P names (λ place d short. each (suc place) d (omega arith)))

view_append : (xs ys : List (Bor Name)) → borrowed_view (xs ++ ys) ≡ borrowed_view xs ++ borrowed_view ys
view_append [] ys = refl
view_append (x ∷ xs) ys = ap (λ l. x.now ∷ l) (view_append xs ys)

-- the names before and after the least
least_split : (names : List (Bor Name)) (least : ℕ) → least < length names → IsLeastBelow names least (length names)
    → IsTurned (borrowed_view names) (borrowed_view (drop least names) ++ borrowed_view (take least names))
least_split names least within lowest = record {
  front = borrowed_view (take least names);
  least = (get_or names least d).now;
  back = borrowed_view (drop (suc least) names);
  is_ring = ap borrowed_view (sym (take-append-drop least names))
      ∙ view_append (take least names) (drop least names) ∙ ap (λ l. borrowed_view (take least names) ++ l) rest;
  is_cycle = ap (λ l. l ++ borrowed_view (take least names)) rest;
  lowest = all_places (λ name. precedes name (get_or names least d).now ≡ false) names
      (λ place e short. rw (name_at names place e d short) (lowest place d short));
}
  where
    d : Bor Name
    d = record { ref_ptr = (0, 0); now = [] }

    rest : borrowed_view (drop least names) ≡ (get_or names least d).now ∷ borrowed_view (drop (suc least) names)
    rest = ap borrowed_view (drop-cons names least d within)

-- no names
pub nothing_seen : (names : List (Bor Name)) → length names ≡ 0 → borrowed_view names ≡ []
nothing_seen [] none = refl
nothing_seen (x ∷ names) none = absurd (omega arith)

-- the names from the least on, and then those before it
pub least_turned : (names : List (Bor Name)) (least : ℕ) (ring cycle : List Name) → borrowed_view names ≡ ring
    → (0 < length names → least < length names) → 0 < length names
    → IsLeastBelow names least (length names)
    → cycle ≡ borrowed_view (drop least names) ++ borrowed_view (take least names) → IsTurned ring cycle
least_turned names least ring cycle is_ring within some lowest is_cycle =
    rw (← is_ring, is_cycle) (least_split names least (within some) lowest)
