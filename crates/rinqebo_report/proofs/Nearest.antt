-- The nearest of known names, where one name more is known.
use Rattle.std.proofs.Common.{◌≡◌, ◌<◌, ◌≤◌, ◌+◌, ℕ, Bool, true, false, cond, eqb, List, [], ◌∷◌, ◌++◌, length, take, get_or, map, Option, None, Some, All, MatchOption, Bor, refl, sym, ap, ap₂, ◌∙◌, subst, lt-ltb, arith}
use Rattle.std.specs.List.{Contains}
use Rattle.std.specs.Cmp.{IsTotalOrder}
use Rattle.std.specs.Cmp.Lexicographic.{slice_cmp}
use Rattle.std.specs.declared.cmp.Ordering.{Ordering}
use Rattle.std.specs.declared.cmp.Ordering.TheVariants.{Less, Equal, Greater}
use Rattle.std.specs.Ordering.{is_gt, is_lt, nat_cmp, ordering_reverse, ordering_then}
use Rattle.std.proofs.lemmas.Cmp.{on_total, then_total, nat_cmp_total, nat_list_cmp_total, tied_itself, upto}
use Rattle.std.proofs.lemmas.Grind.{take_at_read}
use Rattle.std.proofs.lemmas.List.{map-append}
use Rattle.std.proofs.lemmas.List.Elements.{All-push, Contains-append_left, Contains-append_right}
use Rattle.rinqebo_report.specs.Hints.{distance, reach, by_distance, IsNearest, comes_before, first_of}
use Rattle.rinqebo_report.specs.declared.hint.Candidate.{Candidate}

by_distance_total : (name : List ℕ) → IsTotalOrder (by_distance name)
by_distance_total name = then_total (on_total (distance name) nat_cmp_total) nat_list_cmp_total

-- a nearer name comes before another
nearer_first : (name one other : List ℕ) → distance name one < distance name other
    → is_gt (by_distance name one other) ≡ false
nearer_first name one other h =
    ap (λ b. is_gt (ordering_then
    (cond b Less (cond (eqb (distance name one) (distance name other)) Equal Greater))
    (slice_cmp nat_cmp one other)))
    (lt-ltb (distance name one) (distance name other) h)

less_from : (o : Ordering) → is_lt o ≡ true → is_gt o ≡ false
less_from Less h = refl
less_from Equal h = refl
less_from Greater h = absurd (cc)

not_more_from : (o : Ordering) → is_lt o ≡ false → is_gt (ordering_reverse o) ≡ false
not_more_from Less h = absurd (cc)
not_more_from Equal h = refl
not_more_from Greater h = refl

-- another name does not come before this one
abbrev IsFirst : List ℕ → List ℕ → Bor (List ℕ) → Type 0
IsFirst name one other = is_gt (by_distance name one other.now) ≡ false

-- what is found among known names
abbrev pub IsFound : List ℕ → List (Bor (List ℕ)) → Option Candidate → Type 0
IsFound name known found =
    MatchOption found (All (λ other. reach name < distance name other.now) known)
    (λ candidate. (candidate.distance ≡ distance name candidate.name.now) × IsNearest name known candidate.name.now)

known_push : (xs : List (Bor (List ℕ))) (x : Bor (List ℕ)) (nearest : List ℕ)
    → Contains (map (λ other. other.now) xs) nearest → Contains (map (λ other. other.now) (xs ++ x ∷ [])) nearest
known_push xs x nearest h =
    subst (λ names. Contains names nearest) (sym (map-append (λ (other : Bor (List ℕ)). other.now) xs (x ∷ [])))
    (Contains-append_left (map (λ (other : Bor (List ℕ)). other.now) xs) (x.now ∷ []) nearest h)

known_last : (xs : List (Bor (List ℕ))) (x : Bor (List ℕ)) → Contains (map (λ other. other.now) (xs ++ x ∷ [])) x.now
known_last xs x =
    subst (λ names. Contains names x.now) (sym (map-append (λ (other : Bor (List ℕ)). other.now) xs (x ∷ [])))
    (Contains-append_right (map (λ (other : Bor (List ℕ)). other.now) xs) (x.now ∷ []) x.now (0, omega arith, refl))

-- a name that is not near changes nothing
pub far_push : (name : List ℕ) (xs : List (Bor (List ℕ))) (x : Bor (List ℕ)) (found : Option Candidate)
    → IsFound name xs found → reach name < distance name x.now → IsFound name (xs ++ x ∷ []) found
far_push name xs x None h far = All-push (λ (other : Bor (List ℕ)). reach name < distance name other.now) xs x h far
far_push name xs x (Some best) h far = (
  h.0,
  record {
    is_known = known_push xs x best.name.now h.1.is_known;
    near = h.1.near;
    first = All-push (IsFirst name best.name.now) xs x h.1.first
        (nearer_first name best.name.now x.now (let near = h.1.near in omega arith));
  },
)

-- a near one is found, unless the one that was found comes first
pub near_push : (name : List ℕ) (xs : List (Bor (List ℕ))) (c : Candidate) (found : Option Candidate)
    → IsFound name xs found → c.distance ≡ distance name c.name.now → c.distance ≤ reach name
    → IsFound name (xs ++ c.name ∷ []) (Some (first_of found c))
near_push name xs c None h is near = (
  is,
  record {
    is_known = known_last xs c.name;
    near = omega arith;
    first = All-push (IsFirst name c.name.now) xs c.name
        (λ k d lt. let far = h k d lt in nearer_first name c.name.now _ (omega arith))
        (ap is_gt (tied_itself (by_distance_total name) c.name.now));
  },
)
near_push name xs c (Some best) h is near =
    let order = by_distance_total name in
    let same : comes_before c best ≡ is_lt (by_distance name c.name.now best.name.now) =
    ap₂ (λ m n. is_lt (ordering_then (nat_cmp m n) (slice_cmp nat_cmp c.name.now best.name.now))) is h.0 in
    let P : Bool → Type 0 = λ b. comes_before c best ≡ b → IsFound name (xs ++ c.name ∷ []) (Some (cond b c best)) in
    let cases : (b : Bool) → P b = λ b. elim b as P [
      | true ↦ (λ e.
          let before : is_gt (by_distance name c.name.now best.name.now) ≡ false = less_from _ (sym same ∙ e) in (
            is,
            record {
              is_known = known_last xs c.name;
              near = omega arith;
              first = All-push (IsFirst name c.name.now) xs c.name
                  (λ k d lt. upto order c.name.now best.name.now _ before (h.1.first k d lt))
                  (ap is_gt (tied_itself order c.name.now));
            },
          ))
      | false ↦ (λ e.
          let behind : is_gt (by_distance name best.name.now c.name.now) ≡ false =
          ap is_gt (order.antisymm best.name.now c.name.now) ∙ not_more_from _ (sym same ∙ e) in (
            h.0,
            record {
              is_known = known_push xs c.name best.name.now h.1.is_known;
              near = h.1.near;
              first = All-push (IsFirst name best.name.now) xs c.name h.1.first behind;
            },
          ))
    ] in
    cases (comes_before c best) refl

-- the names that were gone through, with the next
pub more_known : (xs : List (Bor (List ℕ))) (i : ℕ) (x : Bor (List ℕ)) → i < length xs → x ≡ get_or xs i x
    → take (i + 1) xs ≡ take i xs ++ x ∷ []
more_known xs i x lt is = (take_at_read xs i x lt).1 ∙ ap (λ y. take i xs ++ y ∷ []) (sym is)
