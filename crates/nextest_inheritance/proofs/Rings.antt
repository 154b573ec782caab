-- Cycles are the ways that come back, along the parents that count.
use Rattle.std.proofs.Common.{◌≡◌, inl, inr, List, [], ◌∷◌, Bool, true, false, cond, Option, None, Some, refl, sym, ap, ◌∙◌, subst}
use Rattle.std.specs.List.{AllByRecursion, IsDistinct}
use Rattle.std.specs.Option.{option_and_then}
use Rattle.std.specs.Str.{bytes_eq}
use Rattle.std.proofs.lemmas.Bool.{false_from_ne_true}
use Rattle.std.proofs.lemmas.Slice.Eq.{bytes_eq-Decides}
use Rattle.nextest_inheritance.specs.Names.{Name, is_base, precedes}
use Rattle.nextest_inheritance.specs.Parents.{Parents}
use Rattle.nextest_inheritance.specs.Cycles.{first_or, LeadTo, IsCycleFrom, IsCycle}
use Rattle.nextest_inheritance.specs.Walks.{cycle_parents}
use Rattle.nextest_inheritance.proofs.Members.{In, here, there, split_at, all_at, all_from, distinct_head, distinct_tail}
use Rattle.nextest_inheritance.proofs.Trails.{IsRing, lead_back, lead_next, lead_parent, lead_within, lead_one}
use Rattle.nextest_inheritance.proofs.Turning.{IsLeastRing, IsFrom, below_other, below_below}

-- What it is to have a parent that counts.
pub record IsCycleParent (parents : Parents) (name parent : Name) : Type 0 where
  pub is : parents name ≡ Some parent
  pub plain : is_base name ≡ false
  pub other : parent ≡ name → ⊥

cycle_parent_is_at : (parents : Parents) (name parent : Name) (base : Bool) (o : Option Name)
    → is_base name ≡ base → parents name ≡ o
    → cond base None (option_and_then (λ p. cond (bytes_eq p name) None (Some p)) o) ≡ Some parent
    → IsCycleParent parents name parent
cycle_parent_is_at parents name parent true o plain is e = cc
cycle_parent_is_at parents name parent false None plain is e = cc
cycle_parent_is_at parents name parent false (Some p) plain is e = last (bytes_eq p name) refl e
  where
    last : (same : Bool) → bytes_eq p name ≡ same → cond same None (Some p) ≡ Some parent
        → IsCycleParent parents name parent
    last true same e = cc
    last false same e =
        let f : p ≡ parent = cc in
        record { is = is ∙ e; plain = plain; other = λ g. differ (f ∙ g) same }
      where
        differ : p ≡ name → bytes_eq p name ≡ false → ⊥
        differ g same = let t : bytes_eq p name ≡ true = (bytes_eq-Decides p name).1 g in
            let bad : true ≡ false = sym t ∙ same in cc

pub cycle_parent_is : (parents : Parents) (name parent : Name) → cycle_parents parents name ≡ Some parent
    → IsCycleParent parents name parent
cycle_parent_is parents name parent e = cycle_parent_is_at parents name parent (is_base name) (parents name) refl refl e

pub cycle_parent_at : (parents : Parents) (name parent : Name) → IsCycleParent parents name parent
    → cycle_parents parents name ≡ Some parent
cycle_parent_at parents name parent c =
    let apart : bytes_eq parent name ≡ false =
    false_from_ne_true _ (λ t. c.other ((bytes_eq-Decides parent name).0 t)) in
    rw (c.plain, c.is, apart) refl

-- the way of a cycle along the parents that count
cycle_way : (parents : Parents) (last : Name) (xs : List Name) → LeadTo parents last xs
    → AllByRecursion (λ name. is_base name ≡ false) xs → IsDistinct bytes_eq xs → (In last xs → ⊥)
    → LeadTo (cycle_parents parents) last xs
cycle_way parents last [] leads plain distinct out = tt
cycle_way parents last (x ∷ []) leads plain distinct out = (
  cycle_parent_at parents x last
      (record {
        is = leads.0;
        plain = plain.0;
        other =
            λ e. out (let P : Name → Type 0 = λ v. In last (v ∷ []) in subst P e here);
      }),
  tt,
)
cycle_way parents last (x ∷ y ∷ xs) leads plain distinct out = (
  cycle_parent_at parents x y
      (record {
        is = leads.0;
        plain = plain.0;
        other =
            λ e. distinct_head x (y ∷ xs) distinct (let P : Name → Type 0 = λ v. In v (y ∷ xs) in subst P e here);
      }),
  cycle_way parents last (y ∷ xs) leads.1 plain.1 (distinct_tail x (y ∷ xs) distinct) (λ i. out (there i)),
)

plain_way : (parents : Parents) (last : Name) (xs : List Name) → LeadTo (cycle_parents parents) last xs
    → LeadTo parents last xs
plain_way parents last [] leads = tt
plain_way parents last (x ∷ xs) leads =
    ((cycle_parent_is parents x (first_or last xs) leads.0).is, plain_way parents last xs leads.1)

pub ring_from_cycle : (parents : Parents) (least : Name) (others : List Name)
    → IsCycleFrom parents least others → IsLeastRing (cycle_parents parents) least others
ring_from_cycle parents least [] cycle = absurd (cycle.several refl)
ring_from_cycle parents least (x ∷ xs) cycle = record {
  ring = record {
    around = (
      cycle_parent_at parents least x
          (record {
            is = cycle.around.0;
            plain = cycle.plain.0;
            other =
                λ e. out (let P : Name → Type 0 = λ v. In v (x ∷ xs) in subst P e here);
          }),
      cycle_way parents least (x ∷ xs) cycle.around.1 cycle.plain.1 (distinct_tail least (x ∷ xs) cycle.distinct) out,
    );
    distinct = cycle.distinct;
  };
  lowest = cycle.lowest;
}
  where
    out : In least (x ∷ xs) → ⊥
    out = distinct_head least (x ∷ xs) cycle.distinct

pub cycle_from_ring : (parents : Parents) (least : Name) (others : List Name)
    → IsLeastRing (cycle_parents parents) least others → IsCycleFrom parents least others
cycle_from_ring parents least others r = record {
  several = λ none. alone others none r.ring.around.0;
  distinct = r.ring.distinct;
  plain = all_from (λ name. is_base name ≡ false) (least ∷ others) (λ name i.
      let p = lead_parent (cycle_parents parents) least (least ∷ others) name r.ring.around i in
      (cycle_parent_is parents name p.0 p.1).plain);
  around = plain_way parents least (least ∷ others) r.ring.around;
  lowest = r.lowest;
}
  where
    alone : (others : List Name) → others ≡ [] → cycle_parents parents least ≡ Some (first_or least others) → ⊥
    alone [] none is = (cycle_parent_is parents least least is).other refl
    alone (x ∷ xs) none is = cc

-- a way that comes back holds the parents of its names
pub ring_closed : (parents : Parents) (first : Name) (others : List Name) → IsRing parents first others
    → (x next : Name) → In x (first ∷ others) → parents x ≡ Some next → In next (first ∷ others)
ring_closed parents first others ring x next i is =
    elim (lead_next parents first (first ∷ others) x next ring.around i is) [
      | inl j ↦ j
      | inr e ↦ let P : Name → Type 0 = λ v. In v (first ∷ others) in subst P (sym e) here
    ]

-- a way that shares a name with one that comes back goes round it
pub ring_holds : (parents : Parents) (first : Name) (others : List Name) → IsRing parents first others
    → (last : Name) (way : List Name) → LeadTo parents last way → In (first_or last way) (first ∷ others)
    → In last (first ∷ others)
ring_holds parents first others ring last way leads i =
    lead_within parents (first ∷ others) (ring_closed parents first others ring) last way leads i

first_shared : (parents : Parents) (one : Name) (ones : List Name) (other : Name) (others : List Name)
    → IsRing parents one ones → IsRing parents other others
    → (name : Name) → In name (one ∷ ones) → In name (other ∷ others) → In other (one ∷ ones)
first_shared parents one ones other others ring around name i j =
    let s = split_at name (other ∷ others) j in
    let P : List Name → Type 0 = LeadTo parents other in
    ring_holds parents one ones ring other (name ∷ s.back)
    (lead_back parents other s.front (name ∷ s.back) (subst P s.is around.around)) i

from_least : (parents : Parents) (least : Name) (others : List Name) → IsLeastRing parents least others
    → (name : Name) → In name (least ∷ others) → IsFrom least name
from_least parents least others r name here = inl refl
from_least parents least others r name (there i) =
    inr (all_at (λ name. precedes least name ≡ true) name others r.lowest i)

one_least : (x y : Name) → IsFrom x y → IsFrom y x → x ≡ y
one_least x y (inl same) back = sym same
one_least x y (inr below) (inl same) = same
one_least x y (inr below) (inr above) = absurd (below_other x x (below_below x y x below above) refl)

-- two that share a name are one
pub rings_apart : (parents : Parents) (one : Name) (ones : List Name) (other : Name) (others : List Name)
    → IsLeastRing parents one ones → IsLeastRing parents other others
    → (name : Name) → In name (one ∷ ones) → In name (other ∷ others) → other ∷ others ≡ one ∷ ones
rings_apart parents one ones other others ring around name i j =
    let same : one ≡ other = one_least one other
    (from_least parents one ones ring other (first_shared parents one ones other others ring.ring around.ring name i j))
    (from_least parents other others around one
    (first_shared parents other others one ones around.ring ring.ring name j i)) in
    let P : Name → Type 0 = λ v. IsRing parents v ones in
    let turned : IsRing parents other ones = subst P same ring.ring in
    let rest = lead_one parents other other ones others turned.around around.ring.around
    (distinct_head other ones turned.distinct) (distinct_head other others around.ring.distinct) in
    ap (λ l. other ∷ l) (sym rest) ∙ ap (λ v. v ∷ ones) (sym same)

-- two cycles that share a name are one
pub cycles_apart : (parents : Parents) (one other : List Name) → IsCycle parents one → IsCycle parents other
    → (name : Name) → In name one → In name other → other ≡ one
cycles_apart parents [] other c d name i j = absurd c
cycles_apart parents (x ∷ xs) [] c d name i j = absurd d
cycles_apart parents (x ∷ xs) (y ∷ ys) c d name i j =
    rings_apart (cycle_parents parents) x xs y ys (ring_from_cycle parents x xs c)
    (ring_from_cycle parents y ys d) name i j
