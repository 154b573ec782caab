-- How the marks of a search spread.
use Rattle.std.proofs.Common.{◌≡◌, ℕ, zero, suc, ◌+◌, ◌<◌, ◌≤◌, Bool, true, false, not, ◌||◌, cond, List, [], ◌∷◌, length, get_or, set, refl, sym, ap, ◌∙◌, subst, arith, below_more, MatchBool, ◌⊎◌, inl, inr}
use Rattle.std.proofs.lemmas.List.{get_or_default, length-set}
use Rattle.std.proofs.lemmas.List.Sums.{sum_by-cons}
use Rattle.std.specs.Bool.{OnTrue, OnFalse}
use Rattle.filter_inputs.specs.declared.packages.edges.Edge.{Edge}
use Rattle.filter_inputs.specs.declared.packages.edges.Direction.{Direction}
use Rattle.filter_inputs.specs.declared.packages.edges.Direction.TheVariants.{Dependencies, Dependents}
use Rattle.filter_inputs.specs.Packages.Edges.{Reaches, itself, onward, oriented}
use Rattle.filter_inputs.specs.Packages.Marks.{IsMarked, unmarked, KeepsMarks, MarksReached, IsClosed, IsBelow}
use Rattle.filter_inputs.proofs.packages.Reaching.{reaches_through, reaches_next}

-- the edge at k ends at a mark if it starts at one
abbrev pub EndsAt : List Edge → List Bool → ℕ → Type 0
EndsAt edges marks k = (d : Edge) → IsMarked marks (get_or edges k d).from → IsMarked marks (get_or edges k d).to

-- so do the first edges
abbrev pub ClosedBelow : List Edge → List Bool → ℕ → Type 0
ClosedBelow edges marks n = (k : ℕ) → k < n → EndsAt edges marks k

-- what the first edges have done to the marks
pub record IsSpread (edges : List Edge) (old new : List Bool) (n : ℕ) (grown : Bool) : Type 0 where
  pub same_length : length new ≡ length old
  pub keeps : KeepsMarks old new
  pub reached : MarksReached edges old new
  pub fewer : OnTrue grown (unmarked new < unmarked old)
  pub closed : OnFalse grown ((new ≡ old) × ClosedBelow edges old n)

pub spread_start : (edges : List Edge) (marks : List Bool) → IsSpread edges marks marks 0 false
spread_start edges marks = record {
  same_length = refl;
  keeps = λ place is. is;
  reached = λ place is. (place, is, itself place);
  fewer = tt;
  closed = (refl, λ k h. absurd (omega arith));
}

unmarked-cons : (m : Bool) (marks : List Bool) → unmarked (m ∷ marks) ≡ cond (not m) 1 0 + unmarked marks
unmarked-cons m marks = sum_by-cons (λ m. cond (not m) 1 0) m marks

-- a new mark leaves one place less without one
unmarked-set : (marks : List Bool) (i : ℕ) → i < length marks → (IsMarked marks i → ⊥)
    → unmarked (set marks i true) + 1 ≡ unmarked marks
unmarked-set [] i h n = absurd (omega arith)
unmarked-set (true ∷ marks) zero h n = absurd (n refl)
unmarked-set (false ∷ marks) zero h n = omega (arith, unmarked-cons false marks, unmarked-cons true marks)
unmarked-set (m ∷ marks) (suc i) h n =
    omega (arith, unmarked-set marks i (omega arith) n, unmarked-cons m marks, unmarked-cons m (set marks i true))

-- a new mark is at the place where it was set
set_keeps : (marks : List Bool) (i p : ℕ) → IsMarked marks p → IsMarked (set marks i true) p
set_keeps [] i p h = h
set_keeps (m ∷ marks) zero zero h = refl
set_keeps (m ∷ marks) zero (suc p) h = h
set_keeps (m ∷ marks) (suc i) zero h = h
set_keeps (m ∷ marks) (suc i) (suc p) h = set_keeps marks i p h

set_adds : (marks : List Bool) (i p : ℕ) → IsMarked (set marks i true) p → IsMarked marks p ⊎ (p ≡ i)
set_adds [] i p h = inl h
set_adds (m ∷ marks) zero zero h = inr refl
set_adds (m ∷ marks) zero (suc p) h = inl h
set_adds (m ∷ marks) (suc i) zero h = inl h
set_adds (m ∷ marks) (suc i) (suc p) h = elim (set_adds marks i p h) [ inl was ↦ inl was | inr e ↦ inr (ap suc e) ]

-- an edge that gives no mark
pub spread_same : (edges : List Edge) (old now : List Bool) (n : ℕ) (grown : Bool) (edge : Edge)
    → n < length edges → edge ≡ get_or edges n edge → IsSpread edges old now n grown
    → (IsMarked now edge.from → IsMarked now edge.to) → IsSpread edges old now (n + 1) grown
spread_same edges old now n true edge within at spread ends = record {
  same_length = spread.same_length;
  keeps = spread.keeps;
  reached = spread.reached;
  fewer = spread.fewer;
  closed = tt;
}
spread_same edges old now n false edge within at spread ends = record {
  same_length = spread.same_length;
  keeps = spread.keeps;
  reached = spread.reached;
  fewer = tt;
  closed = (spread.closed.0, below_more (EndsAt edges old) n spread.closed.1 here);
}
  where
    here : EndsAt edges old n
    here d m =
        let is : edge ≡ get_or edges n d = at ∙ get_or_default edges n edge d within in
        let P : Edge → Type 0 = λ e. IsMarked old e.from → IsMarked old e.to in
        subst P is (subst (λ marks. IsMarked marks edge.from → IsMarked marks edge.to) spread.closed.0 ends) m

not_more : {edges : List Edge} {old now : List Bool} {n : ℕ} {grown : Bool} → IsSpread edges old now n grown
    → unmarked now ≤ unmarked old
not_more {grown = true} spread = omega (arith, spread.fewer)
not_more {grown = false} spread = omega (arith, ap unmarked spread.closed.0)

-- an edge that gives a mark
pub spread_new : (edges : List Edge) (old now new : List Bool) (n : ℕ) (grown : Bool) (edge : Edge)
    → n < length edges → edge ≡ get_or edges n edge → edge.to < length now → IsSpread edges old now n grown
    → IsMarked now edge.from → (IsMarked now edge.to → ⊥) → new ≡ set now edge.to true
    → IsSpread edges old new (n + 1) true
spread_new edges old now new n grown edge within at inside spread from_marked to_unmarked is = record {
  same_length = ap length is ∙ length-set now edge.to true ∙ spread.same_length;
  keeps = λ place m. subst (λ marks. IsMarked marks place) (sym is)
      (set_keeps now edge.to place (spread.keeps place m));
  reached = λ place m. elim (set_adds now edge.to place (subst (λ marks. IsMarked marks place) is m)) [
    | inl was ↦ spread.reached place was
    | inr e ↦ let start = spread.reached edge.from from_marked in
        (start.0, start.1, subst (Reaches edges start.0) (sym e) (reaches_next start.2 (n, within, sym at)))
  ];
  fewer = omega (arith, less, not_more spread);
  closed = tt;
}
  where
    less : unmarked new + 1 ≡ unmarked now
    less = ap (λ marks. unmarked marks + 1) is ∙ unmarked-set now edge.to inside to_unmarked

-- what `follow` does to the marks, and its answer
abbrev pub Follows : Edge → List Bool → List Bool → Bool → Type 0
Follows edge now new is_new =
    MatchBool is_new
    (IsMarked now edge.from × (IsMarked now edge.to → ⊥) × (new ≡ set now edge.to true))
    ((new ≡ now) × (IsMarked now edge.from → IsMarked now edge.to))

pub spread_step : (edges : List Edge) (old now new : List Bool) (n : ℕ) (grown is_new : Bool) (edge : Edge)
    → n < length edges → edge ≡ get_or edges n edge → edge.to < length now → IsSpread edges old now n grown
    → Follows edge now new is_new → IsSpread edges old new (n + 1) (grown || is_new)
spread_step edges old now new n true true edge within at inside spread f =
    spread_new edges old now new n true edge within at inside spread f.0 f.1 f.2
spread_step edges old now new n false true edge within at inside spread f =
    spread_new edges old now new n false edge within at inside spread f.0 f.1 f.2
spread_step edges old now new n true false edge within at inside spread f =
    subst (λ marks. IsSpread edges old marks (n + 1) true) (sym f.0)
    (spread_same edges old now n true edge within at spread f.1)
spread_step edges old now new n false false edge within at inside spread f =
    subst (λ marks. IsSpread edges old marks (n + 1) false) (sym f.0)
    (spread_same edges old now n false edge within at spread f.1)

pub below_oriented : (direction : Direction) (n : ℕ) (edge : Edge) → IsBelow n edge
    → IsBelow n (oriented direction edge)
below_oriented Dependencies n edge below = below
below_oriented Dependents n edge below = (below.1, below.0)

-- after a pass without a new mark, what marked packages depend on is marked
pub spread_closed : (edges : List Edge) (old new : List Bool) (n : ℕ) (grown : Bool) → length edges ≤ n
    → IsSpread edges old new n grown → OnFalse grown (IsClosed edges new)
spread_closed edges old new n true passed spread = tt
spread_closed edges old new n false passed spread = λ a b (k, within, is) m.
    let d : Edge = record { from = a; to = b } in
    let P : Edge → Type 0 = λ e. IsMarked old e.from → IsMarked old e.to in
    let ends : IsMarked old a → IsMarked old b = subst P is (spread.closed.1 k (omega arith) d) in
    subst (λ marks. IsMarked marks a → IsMarked marks b) (sym spread.closed.0) ends m

-- in a closed list of marks, what a marked package reaches is marked
pub closed_reaches : {edges : List Edge} (marks : List Bool) {a b : ℕ} → IsClosed edges marks
    → IsMarked marks a → Reaches edges a b → IsMarked marks b
closed_reaches marks closed m (itself a) = m
closed_reaches marks closed m (onward a x b d r) = closed_reaches marks closed (closed a x d m) r

-- a search after a search is one
pub reached_again : (edges : List Edge) (old now new : List Bool) → MarksReached edges old now
    → MarksReached edges now new → MarksReached edges old new
reached_again edges old now new first second place m =
    let later = second place m in
    let earlier = first later.0 later.1 in
    (earlier.0, earlier.1, reaches_through earlier.2 later.2)
