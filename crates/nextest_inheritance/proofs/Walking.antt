-- Walks along parents, step by step.
use Rattle.std.proofs.Common.{◌≡◌, ℕ, ◌+◌, ◌≤◌, List, [], ◌∷◌, ◌++◌, length, Bool, true, false, not, ◌||◌, cond, None, Some, refl, sym, ap, ◌∙◌, arith, drop, take, ◌-◌, Bor, position, unwrap_or, nat_lt, length-drop, one-add}
use Rattle.std.proofs.Math.Seq.{take-length}
use Rattle.std.proofs.lemmas.List.Sums.{prefix_len-le-length}
use Rattle.nextest_inheritance.specs.View.{borrowed_view}
use Rattle.std.specs.List.{IsDistinct, drop-map, position_or_len}
use Rattle.std.specs.Map.{keys_of}
use Rattle.std.specs.Set.{is_member}
use Rattle.std.specs.Str.{bytes_eq}
use Rattle.std.proofs.lemmas.Bool.{or_right, ltb-false}
use Rattle.std.proofs.lemmas.Cmp.{nat_list_eq_equiv}
use Rattle.std.proofs.lemmas.Slice.Eq.{bytes_eq-Decides}
use Rattle.nextest_inheritance.specs.Names.{Name}
use Rattle.nextest_inheritance.specs.Parents.{Parents, WrittenParents, parents_in}
use Rattle.nextest_inheritance.specs.Walks.{cycle_parents, IsWalk, path_from_name}
use Rattle.nextest_inheritance.proofs.Members.{In, here, there, member_in, distinct_cons}
use Rattle.nextest_inheritance.proofs.Trails.{first_or-append, lead_push, lead_parent}
use Rattle.nextest_inheritance.proofs.Rings.{cycle_parent_is}
use Rattle.nextest_inheritance.proofs.Ends.{AreKeys, as_many, distinct_push}
use Rattle.nextest_inheritance.proofs.Listing.{are_keys}

or_nothing : (b : Bool) → b ≡ (b || false)
or_nothing true = refl
or_nothing false = refl

-- before the first step
pub walk_start : (parents : Parents) (start : Name) (walked : Name → Bool) → IsWalk parents start walked walked [] start
unfolding IsDistinct
walk_start parents start walked =
    record { starts = refl; leads = tt; distinct = tt; walked = λ name. or_nothing (walked name) }

-- a name that was not walked is not on the path
fresh : (parents : Parents) (start : Name) (old new : Name → Bool) (path : List Name) (end : Name)
    → IsWalk parents start old new path end → new end ≡ false → In end path → ⊥
fresh parents start old new path end walk unwalked i =
    let is : new end ≡ true =
    walk.walked end ∙ or_right (old end) (is_member bytes_eq path end) (member_in end path i) in
    let bad : true ≡ false = sym is ∙ unwalked in cc

member_push : (name last : Name) (path : List Name)
    → is_member bytes_eq (path ++ last ∷ []) name ≡ (is_member bytes_eq path name || bytes_eq name last)
member_push name last [] = sym (or_nothing_right (bytes_eq name last))
  where
    or_nothing_right : (b : Bool) → b ≡ (b || false)
    or_nothing_right true = refl
    or_nothing_right false = refl
member_push name last (x ∷ path) =
    ap (λ b. bytes_eq name x || b) (member_push name last path)
    ∙ or_again (bytes_eq name x) (is_member bytes_eq path name) (bytes_eq name last)
  where
    or_again : (a b c : Bool) → (a || (b || c)) ≡ ((a || b) || c)
    or_again true b c = refl
    or_again false b c = refl

walked_more : (same old on new : Bool) → new ≡ (old || on) → cond same true new ≡ (old || (on || same))
walked_more true true on new is = refl
walked_more true false true new is = refl
walked_more true false false new is = refl
walked_more false true on new is = is
walked_more false false true new is = is
walked_more false false false new is = is

-- one step
pub walk_step : (parents : Parents) (start : Name) (old new newer : Name → Bool) (path : List Name)
    (end next : Name) → IsWalk parents start old new path end
    → parents end ≡ Some next → new end ≡ false
    → ((name : Name) → newer name ≡ cond (bytes_eq end name) true (new name))
    → IsWalk parents start old newer (path ++ end ∷ []) next
walk_step parents start old new newer path end next walk is unwalked more = record {
  starts = first_or-append next path (end ∷ []) ∙ walk.starts;
  leads = lead_push parents end path next walk.leads is;
  distinct = distinct_push path end walk.distinct (fresh parents start old new path end walk unwalked);
  walked = λ name.
      more name
      ∙ ap (λ b. cond b true (new name)) (nat_list_eq_equiv.symm end name)
      ∙ walked_more (bytes_eq name end) (old name) (is_member bytes_eq path name) (new name) (walk.walked name)
      ∙ ap (λ b. old name || b) (sym (member_push name end path));
}

pub cycle_keys : (es : WrittenParents) → AreKeys (cycle_parents (parents_in es)) (keys_of es)
cycle_keys es name parent is = are_keys es name parent (cycle_parent_is (parents_in es) name parent is).is

-- there are profiles left while a walk goes on
pub walk_short : (es : WrittenParents) (start : Name) (old new : Name → Bool) (path : List Name)
    (end next : Name) → IsWalk (cycle_parents (parents_in es)) start old new path end
    → cycle_parents (parents_in es) end ≡ Some next → new end ≡ false → length path + 1 ≤ length (keys_of es)
walk_short es start old new path end next walk is unwalked =
    let room = as_many (cycle_parents (parents_in es)) (keys_of es) (cycle_keys es) (end ∷ path)
    (distinct_cons end path (fresh (cycle_parents (parents_in es)) start old new path end walk unwalked)
    walk.distinct) (λ name i. have name i) in
    omega (arith, room)
  where
    have : (name : Name) → In name (end ∷ path) → (parent : Name) × (cycle_parents (parents_in es) name ≡ Some parent)
    have name here = (next, is)
    have name (there i) = lead_parent (cycle_parents (parents_in es)) end path name walk.leads i

-- the place of a name, or the end
place_at : {X : Type 0} (test : X → Bool) (xs : List X) (below : Bool)
    → nat_lt (position_or_len test xs) (length xs) ≡ below
    → unwrap_or (cond below (Some (position_or_len test xs)) None) (length xs) ≡ position_or_len test xs
place_at test xs true is = refl
place_at test xs false is =
    omega (arith, prefix_len-le-length (λ x. not (test x)) xs, ltb-false (position_or_len test xs) (length xs) is)

place_seen : (end : Name) (names : List (Bor Name))
    → position_or_len (λ name. bytes_eq end name.now) names ≡ position_or_len (bytes_eq end) (borrowed_view names)
place_seen end [] = refl
place_seen end (x ∷ names) = ap (λ n. cond (not (bytes_eq end x.now)) (1 + n) 0) (place_seen end names)

drop_seen : (n : ℕ) (names : List (Bor Name)) → borrowed_view (drop n names) ≡ drop n (borrowed_view names)
drop_seen n names = sym (drop-map (λ name. name.now) n names)

-- what a walk's ring is
pub ring_seen : (end : Name) (names : List (Bor Name)) (from : ℕ)
    → from ≡ unwrap_or (position (λ name. bytes_eq end name.now) names) (length names)
    → borrowed_view (take (length names - from) (drop from names)) ≡ path_from_name end (borrowed_view names)
ring_seen end names from is =
    let place : from ≡ position_or_len (bytes_eq end) (borrowed_view names) =
    is ∙ place_at (λ name. bytes_eq end name.now) names _ refl ∙ place_seen end names in
    let long : length (drop from names) ≡ length names - from = length-drop from names in
    let whole : take (length names - from) (drop from names) ≡ drop from names =
    ap (λ n. take n (drop from names)) (sym long) ∙ take-length (drop from names) in
    ap borrowed_view whole ∙ drop_seen from names ∙ ap (λ n. drop n (borrowed_view names)) place

-- a path from a name on
from_at : (end x : Name) (path : List Name) (same : Bool)
    → drop (cond (not same) (1 + position_or_len (bytes_eq end) path) 0) (x ∷ path)
    ≡ cond same (x ∷ path) (path_from_name end path)
from_at end x path true = refl
from_at end x path false = rw one-add refl

from_is : (end x : Name) (path : List Name)
    → path_from_name end (x ∷ path) ≡ cond (bytes_eq end x) (x ∷ path) (path_from_name end path)
from_is end x path = from_at end x path (bytes_eq end x)

-- it is empty where the name is not on the path
pub nothing_from : (end : Name) (path : List Name) → path_from_name end path ≡ [] → is_member bytes_eq path end ≡ false
nothing_from end [] none = refl
nothing_from end (x ∷ path) none =
    out (bytes_eq end x) refl (sym (from_is end x path) ∙ none) (λ later. nothing_from end path later)
  where
    out : (same : Bool) → bytes_eq end x ≡ same → cond same (x ∷ path) (path_from_name end path) ≡ []
        → (path_from_name end path ≡ [] → is_member bytes_eq path end ≡ false)
        → (bytes_eq end x || is_member bytes_eq path end) ≡ false
    out true is none later = cc
    out false is none later = rw is (later none)

-- else it begins with the name
pub record FromName (end : Name) (path ring : List Name) : Type 0 where
  pub front : List Name
  pub back : List Name
  pub is_path : path ≡ front ++ end ∷ back
  pub is_ring : ring ≡ end ∷ back

pub something_from : (end : Name) (path : List Name) (first : Name) (rest : List Name)
    → path_from_name end path ≡ first ∷ rest → FromName end path (first ∷ rest)
something_from end [] first rest is = cc
something_from end (x ∷ path) first rest is =
    at (bytes_eq end x) refl (sym (from_is end x path) ∙ is) (λ later. something_from end path first rest later)
  where
    at : (same : Bool) → bytes_eq end x ≡ same → cond same (x ∷ path) (path_from_name end path) ≡ first ∷ rest
        → (path_from_name end path ≡ first ∷ rest → FromName end path (first ∷ rest))
        → FromName end (x ∷ path) (first ∷ rest)
    at true same is later =
        let e : end ≡ x = (bytes_eq-Decides end x).0 same in record {
          front = [];
          back = path;
          is_path = ap (λ v. v ∷ path) (sym e);
          is_ring = sym is ∙ ap (λ v. v ∷ path) (sym e);
        }
    at false same is later =
        let f = later is in record
        { front = x ∷ f.front; back = f.back; is_path = ap (λ l. x ∷ l) f.is_path; is_ring = f.is_ring }
