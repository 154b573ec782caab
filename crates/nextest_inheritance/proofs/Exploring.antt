-- What walks from all profiles find.
use Rattle.std.proofs.Common.{◌≡◌, ◌⊎◌, inl, inr, List, [], ◌∷◌, ◌++◌, Bool, true, false, Option, None, Some, refl, sym, ap, ◌∙◌, subst, nat_cmp}
use Rattle.std.specs.Cmp.Lexicographic.{slice_cmp}
use Rattle.std.specs.List.{AllByRecursion}
use Rattle.std.specs.List.Sorted.{IsStrictlySortedBy}
use Rattle.std.specs.Map.{keys_of}
use Rattle.std.specs.Set.{is_member}
use Rattle.std.specs.Str.{bytes_eq}
use Rattle.std.proofs.lemmas.Bool.{or_cases, or_left, or_right}
use Rattle.nextest_inheritance.specs.Names.{Name, precedes}
use Rattle.nextest_inheritance.specs.Parents.{Parents, WrittenParents, parents_in}
use Rattle.nextest_inheritance.specs.Cycles.{first_or, LeadTo, IsCycle, AreCycles}
use Rattle.nextest_inheritance.specs.Walks.{cycle_parents, IsWalk, IsTurned, path_from_name}
use Rattle.nextest_inheritance.proofs.Members.{In, here, there, split_at, in_front, in_back, in_either, in_member, member_in, all_at, all_from}
use Rattle.nextest_inheritance.proofs.Trails.{IsRing, lead_back, lead_parent, ring_of}
use Rattle.nextest_inheritance.proofs.Turning.{IsFrom, one_below, turned_least}
use Rattle.nextest_inheritance.proofs.Rings.{ring_from_cycle, cycle_from_ring, ring_holds, cycles_apart}
use Rattle.nextest_inheritance.proofs.Listing.{contains_in}
use Rattle.nextest_inheritance.proofs.Walking.{something_from, cycle_keys}

-- Those found are cycles, and all cycles that hold a walked name.
pub record Explored (parents : Parents) (walked : Name → Bool) (found : List (List Name)) : Type 0 where
  pub sound : (cycle : List Name) → In cycle found → IsCycle parents cycle
  pub complete : (cycle : List Name) → IsCycle parents cycle → (name : Name) → In name cycle
      → walked name ≡ true → In cycle found

-- before the first walk
pub explored_start : (parents : Parents) (walked : Name → Bool) → ((name : Name) → walked name ≡ false)
    → Explored parents walked []
explored_start parents walked none = record {
  sound = λ cycle i. elim i [ ];
  complete = λ cycle is name i walked_is. let bad : true ≡ false = sym walked_is ∙ none name in cc;
}

-- Where a walk ends.
abbrev pub Ended : Parents → (Name → Bool) → Name → Type 0
Ended parents new end = (cycle_parents parents end ≡ None) ⊎ (new end ≡ true)

-- a cycle that a walk touches holds its end
pub holds_end : (parents : Parents) (start : Name) (old new : Name → Bool) (path : List Name) (end : Name)
    → IsWalk (cycle_parents parents) start old new path end
    → (cycle : List Name) → IsCycle parents cycle → (name : Name) → In name cycle → In name path → In end cycle
holds_end parents start old new path end walk [] is name i j = absurd is
holds_end parents start old new path end walk (least ∷ others) is name i j =
    let s = split_at name path j in
    let P : List Name → Type 0 = LeadTo (cycle_parents parents) end in
    ring_holds (cycle_parents parents) least others (ring_from_cycle parents least others is).ring end (name ∷ s.back)
    (lead_back (cycle_parents parents) end s.front (name ∷ s.back) (subst P s.is walk.leads)) i

in_has_parent : (parents : Parents) (cycle : List Name) → IsCycle parents cycle → (name : Name)
    → In name cycle → (parent : Name) × (cycle_parents parents name ≡ Some parent)
in_has_parent parents [] is name i = absurd is
in_has_parent parents (least ∷ others) is name i =
    lead_parent (cycle_parents parents) least (least ∷ others) name
    (ring_from_cycle parents least others is).ring.around i

-- a walked name was walked before, or is on the path
walked_by : (parents : Parents) (start : Name) (old new : Name → Bool) (path : List Name) (end : Name)
    → IsWalk parents start old new path end
    → (name : Name) → new name ≡ true → (old name ≡ true) ⊎ In name path
walked_by parents start old new path end walk name is =
    elim (or_cases (old name) (is_member bytes_eq path name) (sym (walk.walked name) ∙ is))
    [ inl was ↦ inl was | inr on ↦ inr (in_member name path on) ]

-- a walk that does not come back finds nothing
pub explored_past : (parents : Parents) (start : Name) (old new : Name → Bool) (path : List Name) (end : Name)
    (found : List (List Name)) → IsWalk (cycle_parents parents) start old new path end
    → Ended parents new end → is_member bytes_eq path end ≡ false → Explored parents old found
    → Explored parents new found
explored_past parents start old new path end found walk ended away so_far = record {
  sound = so_far.sound;
  complete = λ cycle is name i now. at cycle is name i
      (walked_by (cycle_parents parents) start old new path end walk name now);
}
  where
    end_in : (cycle : List Name) → IsCycle parents cycle → In end cycle → Ended parents new end → In cycle found
    end_in cycle is i (inl none) =
        let p = in_has_parent parents cycle is end i in
        let bad : None ≡ Some p.0 = sym none ∙ p.1 in cc
    end_in cycle is i (inr now) =
        elim (or_cases (old end) (is_member bytes_eq path end) (sym (walk.walked end) ∙ now)) [
          | inl was ↦ so_far.complete cycle is end i was
          | inr on ↦ absurd (let bad : true ≡ false = sym on ∙ away in cc)
        ]

    at : (cycle : List Name) → IsCycle parents cycle → (name : Name) → In name cycle
        → (old name ≡ true) ⊎ In name path → In cycle found
    at cycle is name i (inl was) = so_far.complete cycle is name i was
    at cycle is name i (inr on) =
        end_in cycle is (holds_end parents start old new path end walk cycle is name i on) ended

-- What is found of a ring.
pub record Turned (parents : Parents) (end : Name) (cycle : List Name) : Type 0 where
  pub is : IsCycle parents cycle
  pub holds : In end cycle

from_lowest : (least name : Name) → precedes name least ≡ false → IsFrom least name
from_lowest least name above = at (one_below least name (slice_cmp nat_cmp least name) refl)
  where
    at : (precedes least name ≡ true) ⊎ ((least ≡ name) ⊎ (precedes name least ≡ true)) → IsFrom least name
    at (inl below) = inr below
    at (inr (inl same)) = inl (sym same)
    at (inr (inr under)) = absurd (let bad : true ≡ false = sym under ∙ above in cc)

ring_turned : (parents : Parents) (end : Name) (rest ring cycle : List Name)
    → IsRing (cycle_parents parents) end rest → ring ≡ end ∷ rest → IsTurned ring cycle → Turned parents end cycle
ring_turned parents end rest ring cycle around is_ring t =
    let split : end ∷ rest ≡ t.front ++ t.least ∷ t.back = sym is_ring ∙ t.is_ring in
    let P : List Name → Type 0 = λ l. AllByRecursion (λ name. precedes name t.least ≡ false) l in
    let lowest = subst P is_ring t.lowest in
    let least = turned_least (cycle_parents parents) end rest t.front t.least t.back around split
    (λ name i. from_lowest t.least name (all_at (λ name. precedes name t.least ≡ false) name (end ∷ rest) lowest i)) in
    let Q : List Name → Type 0 = λ l. In end l in
    let R : List Name → Type 0 = IsCycle parents in record {
      is = subst R (sym t.is_cycle) (cycle_from_ring parents t.least (t.back ++ t.front) least);
      holds = subst Q (sym t.is_cycle) (turn (in_either end t.front (t.least ∷ t.back) (subst Q split here)));
    }
  where
    turn : In end t.front ⊎ In end (t.least ∷ t.back) → In end (t.least ∷ t.back ++ t.front)
    turn (inl i) = there (in_back end t.back t.front i)
    turn (inr i) = in_front end (t.least ∷ t.back) t.front i

-- a walk that comes back comes round a cycle
pub walk_turned : (parents : Parents) (start : Name) (old new : Name → Bool) (path : List Name) (end : Name)
    (cycle : List Name) → IsWalk (cycle_parents parents) start old new path end
    → IsTurned (path_from_name end path) cycle → Turned parents end cycle
walk_turned parents start old new path end cycle walk t = at (path_from_name end path) refl t
  where
    at : (ring : List Name) → path_from_name end path ≡ ring → IsTurned ring cycle → Turned parents end cycle
    at [] is t = none t.front t.is_ring
      where
        none : (front : List Name) → [] ≡ front ++ t.least ∷ t.back → Turned parents end cycle
        none [] e = cc
        none (x ∷ front) e = cc
    at (first ∷ rest) is t =
        let f = something_from end path first rest is in
        ring_turned parents end f.back (first ∷ rest) cycle
        (ring_of (cycle_parents parents) end path f.front f.back walk.leads walk.distinct f.is_path) f.is_ring t

-- it is found
pub explored_found : (parents : Parents) (start : Name) (old new : Name → Bool) (path : List Name)
    (end : Name) (cycle : List Name) (found more : List (List Name))
    → IsWalk (cycle_parents parents) start old new path end → Turned parents end cycle → Explored parents old found
    → ((c : List Name) → In c more → (c ≡ cycle) ⊎ In c found) → In cycle more
    → ((c : List Name) → In c found → In c more) → Explored parents new more
explored_found parents start old new path end cycle found more walk turned so_far only new_one others = record {
  sound = λ c i. sound c (only c i);
  complete = λ c is name i now. at c is name i (walked_by (cycle_parents parents) start old new path end walk name now);
}
  where
    sound : (c : List Name) → (c ≡ cycle) ⊎ In c found → IsCycle parents c
    sound c (inl same) = let P : List Name → Type 0 = IsCycle parents in subst P (sym same) turned.is
    sound c (inr i) = so_far.sound c i

    at : (c : List Name) → IsCycle parents c → (name : Name) → In name c → (old name ≡ true) ⊎ In name path → In c more
    at c is name i (inl was) = others c (so_far.complete c is name i was)
    at c is name i (inr on) =
        let same = cycles_apart parents cycle c turned.is is end turned.holds
        (holds_end parents start old new path end walk c is name i on) in
        let P : List (Name) → Type 0 = λ v. In v more in subst P (sym same) new_one

-- A name is settled: it has no parent that counts, or was walked.
abbrev pub IsSettled : Parents → (Name → Bool) → Name → Type 0
IsSettled parents walked name = (cycle_parents parents name ≡ None) ⊎ (walked name ≡ true)

pub settled_more : (parents : Parents) (start : Name) (old new : Name → Bool) (path : List Name) (end : Name)
    → IsWalk (cycle_parents parents) start old new path end
    → (name : Name) → IsSettled parents old name → IsSettled parents new name
settled_more parents start old new path end walk name (inl none) = inl none
settled_more parents start old new path end walk name (inr was) =
    inr (walk.walked name ∙ or_left (old name) (is_member bytes_eq path name) was)

-- a walk settles where it starts
pub settled_start : (parents : Parents) (start : Name) (old new : Name → Bool) (path : List Name) (end : Name)
    → IsWalk (cycle_parents parents) start old new path end → Ended parents new end → IsSettled parents new start
settled_start parents start old new path end walk ended = at path walk.starts (λ name i. on name i)
  where
    on : (name : Name) → In name path → new name ≡ true
    on name i = walk.walked name ∙ or_right (old name) (is_member bytes_eq path name) (member_in name path i)

    at : (names : List Name) → first_or end names ≡ start → ((name : Name) → In name names → new name ≡ true)
        → IsSettled parents new start
    at [] is each = let P : Name → Type 0 = IsSettled parents new in subst P is ended
    at (x ∷ names) is each = inr (ap new (sym is) ∙ each x here)

-- Each profile is settled, but for the last ones; and what was found.
pub record Progress (es : WrittenParents) (walked : Name → Bool) (found : List (List Name))
    (rest : WrittenParents) : Type 0 where
  pub explored : Explored (parents_in es) walked found
  pub settled : (name : Name) → In name (keys_of es) → In name (keys_of rest) ⊎ IsSettled (parents_in es) walked name
  pub order : IsStrictlySortedBy (slice_cmp (slice_cmp nat_cmp)) found

-- before the first walk
pub progress_start : (es : WrittenParents) (walked : Name → Bool) → ((name : Name) → walked name ≡ false)
    → Progress es walked [] es
unfolding IsStrictlySortedBy
progress_start es walked none = record {
  explored = explored_start (parents_in es) walked none;
  settled = λ name i. inl i;
  order = tt;
}

settled_next : (es : WrittenParents) (e : Name × Option Name) (rest : WrittenParents) (old new : Name → Bool)
    (path : List Name) (end : Name)
    → IsWalk (cycle_parents (parents_in es)) e.0 old new path end → Ended (parents_in es) new end → (name : Name)
    → In name (keys_of (e ∷ rest)) ⊎ IsSettled (parents_in es) old name
    → In name (keys_of rest) ⊎ IsSettled (parents_in es) new name
settled_next es e rest old new path end walk ended name (inl here) =
    inr (settled_start (parents_in es) e.0 old new path end walk ended)
settled_next es e rest old new path end walk ended name (inl (there i)) = inl i
settled_next es e rest old new path end walk ended name (inr s) =
    inr (settled_more (parents_in es) e.0 old new path end walk name s)

-- a walk that does not come back
pub progress_past : (es : WrittenParents) (e : Name × Option Name) (rest : WrittenParents)
    (old new : Name → Bool) (path : List Name) (end : Name) (found : List (List Name))
    → IsWalk (cycle_parents (parents_in es)) e.0 old new path end → Ended (parents_in es) new end
    → is_member bytes_eq path end ≡ false
    → Progress es old found (e ∷ rest) → Progress es new found rest
progress_past es e rest old new path end found walk ended away p = record {
  explored = explored_past (parents_in es) e.0 old new path end found walk ended away p.explored;
  settled = λ name i. settled_next es e rest old new path end walk ended name (p.settled name i);
  order = p.order;
}

-- a walk that does
pub progress_found : (es : WrittenParents) (e : Name × Option Name) (rest : WrittenParents)
    (old new : Name → Bool) (path : List Name) (end : Name) (cycle : List Name) (found more : List (List Name))
    → IsWalk (cycle_parents (parents_in es)) e.0 old new path end → Ended (parents_in es) new end
    → IsTurned (path_from_name end path) cycle → Progress es old found (e ∷ rest)
    → ((c : List Name) → In c more → (c ≡ cycle) ⊎ In c found) → In cycle more
    → ((c : List Name) → In c found → In c more)
    → IsStrictlySortedBy (slice_cmp (slice_cmp nat_cmp)) more → Progress es new more rest
progress_found es e rest old new path end cycle found more walk ended turned p only new_one others order = record {
  explored = explored_found (parents_in es) e.0 old new path end cycle found more walk
      (walk_turned (parents_in es) e.0 old new path end cycle walk turned) p.explored only new_one others;
  settled = λ name i. settled_next es e rest old new path end walk ended name (p.settled name i);
  order = order;
}

-- after the last walk, all cycles are found
pub progress_end : (es : WrittenParents) (walked : Name → Bool) (found : List (List Name))
    → Progress es walked found [] → AreCycles (parents_in es) found
progress_end es walked found p = record {
  sound = all_from (IsCycle (parents_in es)) found p.explored.sound;
  complete = λ cycle is. contains_in cycle found (at cycle is);
  order = p.order;
}
  where
    first_in : (cycle : List Name) → IsCycle (parents_in es) cycle → (name : Name) × In name cycle
    first_in [] is = absurd is
    first_in (x ∷ xs) is = (x, here)

    walked_is : (name parent : Name) → cycle_parents (parents_in es) name ≡ Some parent
        → In name [] ⊎ IsSettled (parents_in es) walked name → walked name ≡ true
    walked_is name parent is (inl i) = elim i [ ]
    walked_is name parent is (inr (inl none)) = let bad : None ≡ Some parent = sym none ∙ is in cc
    walked_is name parent is (inr (inr was)) = was

    at : (cycle : List Name) → IsCycle (parents_in es) cycle → In cycle found
    at cycle is =
        let first = first_in cycle is in
        let p' = in_has_parent (parents_in es) cycle is first.0 first.1 in
        p.explored.complete cycle is first.0 first.1
        (walked_is first.0 p'.0 p'.1 (p.settled first.0 (cycle_keys es first.0 p'.0 p'.1)))
