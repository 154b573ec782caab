-- Rules so far, of which no two are at one place.
use Rattle.std.proofs.Common.{◌≡◌, ◌∙◌, ◌+◌, ◌++◌, ◌∷◌, [], ◌<◌, ◌≤◌, inl, inr, ℕ, zero, suc, List, Option, Some, None, ap, arith, get_or, length, map, option_map, refl, slice_get, subst, sym}
use Rattle.std.proofs.lemmas.Bool.{cases_lt}
use Rattle.std.proofs.lemmas.Option.{same_Some, slice_get-get_or, slice_get-map, slice_get_within}
use Rattle.std.proofs.lemmas.List.{map-append}
use Rattle.rinqebo_rules.specs.Distinct.{AreDistinct, IsBehind, IsOfOneList, IsOfNone}
use Rattle.rinqebo_origins.specs.RulePlaces.{Place, part_of, place_view}
use Rattle.rinqebo_report.specs.declared.origin.Part.{Part}
use Rattle.rinqebo_report.specs.declared.origin.Part.TheVariants as parts
use Rattle.rinqebo_origins.specs.declared.rule_places.RuleKind.{RuleKind}
use Rattle.rinqebo_origins.specs.declared.rule_places.RuleKind.TheVariants as kinds
use Rattle.rinqebo_origins.specs.declared.rule_places.RulePlace.{RulePlace}

-- the position of a part
abbrev pub position : Part → ℕ
position parts.Fields = 0
position (parts.Override n) = n
position (parts.Script n) = n

-- the position of a rule in its list
abbrev pub number_of : Place → ℕ
number_of place = position place.part

position_of : (kind : RuleKind) (n : ℕ) → position (part_of kind n) ≡ n
position_of kinds.Override n = refl
position_of kinds.Script n = refl

-- a rule that comes behind the last one has a greater position
pub later : (last place : RulePlace) → last.index < place.index
    → number_of (place_view last) < number_of (place_view place)
later last place below =
    let one = position_of last.kind last.index in
    let other = position_of place.kind place.index in
    omega (arith, below, one, other)

-- a rule is of one list with one of these
pub record IsBegun (firsts : List Place) (place : Place) : Type 0 where
  pub at : ℕ
  pub first : Place
  pub stands : slice_get firsts at ≡ Some first
  pub same : IsOfOneList place first

-- the first rules are distinct, of lists that were begun, and those of the last one's list are not
-- behind it
pub record SoFar (places : List Place) (n : ℕ) (firsts : List Place) (last : Option Place) : Type 0 where
  pub distinct : (i j : ℕ) (p : Place) → i < n → j < n → slice_get places i ≡ Some p
      → slice_get places j ≡ Some p → i ≡ j
  pub begun : (i : ℕ) (p : Place) → i < n → slice_get places i ≡ Some p → IsBegun firsts p
  pub behind : (l : Place) → last ≡ Some l → (i : ℕ) (p : Place) → i < n → slice_get places i ≡ Some p
      → IsOfOneList p l → number_of p ≤ number_of l
  pub of_last : (l : Place) → last ≡ Some l → IsBegun firsts l

pub none_yet : (places : List Place) → SoFar places 0 [] None
none_yet places = record {
  distinct = λ i j p below under here there. absurd (omega (arith, below));
  begun = λ i p below here. absurd (omega (arith, below));
  behind = λ l is i p below here same. absurd cc;
  of_last = λ l is. absurd cc;
}

other_list : (p q r : Place) → IsOfOneList p q → IsOfOneList q r → IsOfOneList p r
other_list p q r one two = (one.0 ∙ two.0, one.1 ∙ two.1)

back : (p q : Place) → IsOfOneList p q → IsOfOneList q p
back p q one = (sym one.0, sym one.1)

-- no rule before is the next one
differs : (places : List Place) (n : ℕ) (x : Place) → slice_get places n ≡ Some x
    → ((i : ℕ) (p : Place) → i < n → slice_get places i ≡ Some p → p ≡ x → ⊥)
    → ((i j : ℕ) (p : Place) → i < n → j < n → slice_get places i ≡ Some p → slice_get places j ≡ Some p → i ≡ j)
    → (i j : ℕ) (p : Place) → i < n + 1 → j < n + 1 → slice_get places i ≡ Some p → slice_get places j ≡ Some p
    → i ≡ j
differs places n x stands new before i j p below under here there =
    elim (cases_lt i n) [
      | inl early ↦ elim (cases_lt j n) [
        | inl soon ↦ before i j p early soon here there
        | inr late ↦
            let at : j ≡ n = omega (arith, late, under) in
            let is : p ≡ x = same_Some p x (sym there ∙ ap (slice_get places) at ∙ stands) in
            absurd (new i p early here is)
      ]
      | inr late ↦ elim (cases_lt j n) [
        | inl soon ↦
            let at : i ≡ n = omega (arith, late, below) in
            let is : p ≡ x = same_Some p x (sym here ∙ ap (slice_get places) at ∙ stands) in
            absurd (new j p soon there is)
        | inr tardy ↦ omega (arith, late, tardy, below, under)
      ]
    ]

grow : (firsts : List Place) (x p : Place) → IsBegun firsts p → IsBegun (firsts ++ x ∷ []) p
grow firsts x p is = record {
  at = is.at;
  first = is.first;
  stands = within firsts is.at is.stands;
  same = is.same;
} where
  within : (fs : List Place) (k : ℕ) → slice_get fs k ≡ Some is.first
      → slice_get (fs ++ x ∷ []) k ≡ Some is.first
  within [] k here = absurd cc
  within (f ∷ fs) zero here = here
  within (f ∷ fs) (suc k) here = within fs k here

newest : (firsts : List Place) (x : Place) → IsBegun (firsts ++ x ∷ []) x
newest firsts x = record {
  at = length firsts;
  first = x;
  stands = end firsts;
  same = (refl, refl);
} where
  end : (fs : List Place) → slice_get (fs ++ x ∷ []) (length fs) ≡ Some x
  end [] = refl
  end (f ∷ fs) = end fs

module _ (places : List Place) (n : ℕ) (firsts : List Place) (x : Place) (stands : slice_get places n ≡ Some x) where
  -- what holds of the rules before, and of the next one, holds of those up to it
  each_more : (P : Place → Type 0) → ((i : ℕ) (p : Place) → i < n → slice_get places i ≡ Some p → P p) → P x
      → (i : ℕ) (p : Place) → i < n + 1 → slice_get places i ≡ Some p → P p
  each_more P before next i p below here =
      elim (cases_lt i n) [
        | inl early ↦ before i p early here
        | inr late ↦
            let at : i ≡ n = omega (arith, late, below) in
            let is : x ≡ p = same_Some x p (sym stands ∙ ap (slice_get places) (sym at) ∙ here) in
            subst P is next
      ]

  -- a rule more that comes behind the last one of its list
  pub next_more : (l : Place) → IsOfOneList x l → number_of l < number_of x
      → SoFar places n firsts (Some l) → SoFar places (n + 1) firsts (Some x)
  next_more l same late so_far =
      let of_x : IsBegun firsts x =
      let of_l = so_far.of_last l refl in
      record { at = of_l.at; first = of_l.first; stands = of_l.stands; same = other_list x l of_l.first same of_l.same } in
      record {
        distinct = differs places n x stands
            (λ i p below here is.
            let one : IsOfOneList p l = subst (λ q. IsOfOneList q l) (sym is) same in
            let most : number_of p ≤ number_of l = so_far.behind l refl i p below here one in
            let even : number_of p ≡ number_of x = ap number_of is in
            absurd (omega (arith, most, late, even)))
            so_far.distinct;
        begun = each_more (IsBegun firsts) so_far.begun of_x;
        behind = λ k is i p below here one.
            let xk : x ≡ k = same_Some x k is in
            subst (λ m. number_of p ≤ number_of m) xk
            (each_more (λ q. IsOfOneList q x → number_of q ≤ number_of x)
            (λ j q under there of.
            let most : number_of q ≤ number_of l = so_far.behind l refl j q under there (other_list q x l of same) in
            omega (arith, most, late))
            (λ of. omega arith) i p below here (subst (IsOfOneList p) (sym xk) one));
        of_last = λ k is. subst (IsBegun firsts) (same_Some x k is) of_x;
      }

  -- a rule more that begins a list
  pub begun_more : (last : Option Place) → IsOfNone firsts x → SoFar places n firsts last
      → SoFar places (n + 1) (firsts ++ x ∷ []) (Some x)
  begun_more last new so_far =
      let apart : (i : ℕ) (p : Place) → i < n → slice_get places i ≡ Some p → IsOfOneList p x → ⊥ =
      λ i p below here one.
      let of_p = so_far.begun i p below here in
      new of_p.at of_p.first of_p.stands (other_list x p of_p.first (back p x one) of_p.same) in
      record {
        distinct = differs places n x stands
            (λ i p below here is. apart i p below here (subst (λ q. IsOfOneList q x) (sym is) (refl, refl)))
            so_far.distinct;
        begun = each_more (IsBegun (firsts ++ x ∷ []))
            (λ i p below here. grow firsts x p (so_far.begun i p below here)) (newest firsts x);
        behind = λ k is i p below here one.
            let xk : x ≡ k = same_Some x k is in
            subst (λ m. number_of p ≤ number_of m) xk
            (each_more (λ q. IsOfOneList q x → number_of q ≤ number_of x)
            (λ j q under there of. absurd (apart j q under there of))
            (λ of. omega arith) i p below here (subst (IsOfOneList p) (sym xk) one));
        of_last = λ k is. subst (IsBegun (firsts ++ x ∷ [])) (same_Some x k is) (newest firsts x);
      }

-- all rules are distinct
pub distinct_all : (places : List Place) (n : ℕ) (firsts : List Place) (last : Option Place) → length places ≤ n
    → SoFar places n firsts last → AreDistinct places
distinct_all places n firsts last past so_far i j p here there =
    so_far.distinct i j p
    (omega (arith, past, slice_get_within places i p here))
    (omega (arith, past, slice_get_within places j p there)) here there

-- what holds of no place holds of none that is viewed
pub none_viewed : (xs : List RulePlace) (P : Place → Type 0)
    → ((k : ℕ) (x : RulePlace) → slice_get xs k ≡ Some x → P (place_view x) → ⊥)
    → (k : ℕ) (p : Place) → slice_get (map place_view xs) k ≡ Some p → P p → ⊥
none_viewed [] P none k p here of = absurd cc
none_viewed (x ∷ xs) P none zero p here of =
    none zero x refl (subst P (sym (same_Some (place_view x) p here)) of)
none_viewed (x ∷ xs) P none (suc k) p here of = none_viewed xs P (λ j y. none (suc j) y) k p here of

-- what is made of distinct elements is distinct only if they are
pub distinct_made : {A B : Type 0} (f : A → B) (xs : List A) → AreDistinct (map f xs) → AreDistinct xs
distinct_made f xs distinct m n x here there =
    distinct m n (f x) (slice_get-map f xs m ∙ ap (option_map f) here)
    (slice_get-map f xs n ∙ ap (option_map f) there)

module _ (places : List RulePlace) (n : ℕ) (firsts : List RulePlace) (place d : RulePlace) (below : n < length places)
    (is : place ≡ get_or places n d) where
  stands : slice_get (map place_view places) n ≡ Some (place_view place)
  stands =
      slice_get-map place_view places n
      ∙ ap (option_map place_view) (slice_get-get_or places n d below ∙ ap Some (sym is))

  -- a rule more that comes behind the last one of its list
  pub behind_more : (last : Option RulePlace) (new : List RulePlace) → new ≡ firsts → IsBehind last place
      → SoFar (map place_view places) n (map place_view firsts) (option_map place_view last)
      → SoFar (map place_view places) (n + 1) (map place_view new) (Some (place_view place))
  behind_more None new same behind so_far = absurd behind
  behind_more (Some last) new same behind so_far =
      subst (λ fs. SoFar (map place_view places) (n + 1) (map place_view fs) (Some (place_view place))) (sym same)
      (next_more (map place_view places) n (map place_view firsts) (place_view place) stands (place_view last) behind.1
      (later last place behind.0) so_far)

  -- a rule more that begins a list
  pub first_more : (last : Option RulePlace) (seen new : List RulePlace) → new ≡ firsts ++ place ∷ []
      → seen ≡ firsts → IsOfNone (map place_view seen) (place_view place)
      → SoFar (map place_view places) n (map place_view firsts) (option_map place_view last)
      → SoFar (map place_view places) (n + 1) (map place_view new) (Some (place_view place))
  first_more last seen new put same none so_far =
      subst (λ fs. SoFar (map place_view places) (n + 1) fs (Some (place_view place)))
      (sym (ap (map place_view) put ∙ map-append place_view firsts (place ∷ [])))
      (begun_more (map place_view places) n (map place_view firsts) (place_view place) stands
      (option_map place_view last)
      (subst (λ fs. IsOfNone (map place_view fs) (place_view place)) same none) so_far)
