-- Lists in turn.
use Rattle.std.proofs.Common.{◌≡◌, ℕ, ◌+◌, ◌%◌, Bool, List, [], cond, sym, ap, ◌∙◌, subst, ⊎_elim, arith, eq-eqb, ne_eqb}
use Rattle.std.proofs.lemmas.Bool.{cases_eq}
use Rattle.regex_nfa.specs.declared.nfa.Nfa.{Nfa}
use Rattle.filter_engine.specs.StateLists.{AddsAll, HasSame}
use Rattle.filter_engine.specs.Runs.{in_turn, AreStates, Steps}
use Rattle.filter_engine.proofs.Targets.{added_to_none}

pub even_now : (at : ℕ) (a b : List ℕ) → at % 2 ≡ 0 → in_turn at a b ≡ a
even_now at a b h = ap (λ t. cond t a b) (eq-eqb (at % 2) 0 h)

pub odd_now : (at : ℕ) (a b : List ℕ) → (at % 2 ≡ 0 → ⊥) → in_turn at a b ≡ b
odd_now at a b h = ap (λ t. cond t a b) (ne_eqb (at % 2) 0 h)

odd_next : (at : ℕ) (a b : List ℕ) → at % 2 ≡ 0 → in_turn (at + 1) a b ≡ b
odd_next at a b h = odd_now (at + 1) a b (λ even. omega arith)

even_next : (at : ℕ) (a b : List ℕ) → (at % 2 ≡ 0 → ⊥) → in_turn (at + 1) a b ≡ a
even_next at a b h = even_now (at + 1) a b (omega arith)

module _ (nfa : Nfa) where
  -- At an even position the states are those of the one list.
  pub states_even : (at : ℕ) (a b : List ℕ) → at % 2 ≡ 0 → AreStates nfa (in_turn at a b) → AreStates nfa a
  states_even at a b h states = subst (λ (l : List ℕ). AreStates nfa l) (even_now at a b h) states

  pub states_odd : (at : ℕ) (a b : List ℕ) → (at % 2 ≡ 0 → ⊥) → AreStates nfa (in_turn at a b) → AreStates nfa b
  states_odd at a b h states = subst (λ (l : List ℕ). AreStates nfa l) (odd_now at a b h) states

  -- Behind an even position they are those of the other.
  pub states_after_even : (at : ℕ) (a b : List ℕ) → at % 2 ≡ 0 → AreStates nfa b → AreStates nfa (in_turn (at + 1) a b)
  states_after_even at a b h states = subst (λ (l : List ℕ). AreStates nfa l) (sym (odd_next at a b h)) states

  pub states_after_odd : (at : ℕ) (a b : List ℕ) → (at % 2 ≡ 0 → ⊥) → AreStates nfa a
      → AreStates nfa (in_turn (at + 1) a b)
  states_after_odd at a b h states = subst (λ (l : List ℕ). AreStates nfa l) (sym (even_next at a b h)) states

module _ (nfa : Nfa) (name : List ℕ) where
  -- A step at an even position goes from the one list to the other.
  pub step_even : (at : ℕ) (a b s n : List ℕ) (r : Bool) → at % 2 ≡ 0 → Steps nfa name at a n r
      → Steps nfa name at (in_turn at a b) (in_turn (at + 1) s n) r
  step_even at a b s n r h steps =
      subst (λ (l : List ℕ). Steps nfa name at l (in_turn (at + 1) s n) r) (sym (even_now at a b h))
      (subst (λ (l : List ℕ). Steps nfa name at a l r) (sym (odd_next at s n h)) steps)

  pub step_odd : (at : ℕ) (a b s n : List ℕ) (r : Bool) → (at % 2 ≡ 0 → ⊥) → Steps nfa name at b s r
      → Steps nfa name at (in_turn at a b) (in_turn (at + 1) s n) r
  step_odd at a b s n r h steps =
      subst (λ (l : List ℕ). Steps nfa name at l (in_turn (at + 1) s n) r) (sym (odd_now at a b h))
      (subst (λ (l : List ℕ). Steps nfa name at b l r) (sym (even_next at s n h)) steps)

-- States that are put into the one list of two, which is empty.
pub put_even : (at : ℕ) (states old new odd : List ℕ) → at % 2 ≡ 0 → in_turn at old odd ≡ [] → AddsAll states old new
    → HasSame states (in_turn at new odd)
put_even at states old new odd h none all =
    subst (λ (l : List ℕ). HasSame states l) (sym (even_now at new odd h))
    (added_to_none states old new (sym (even_now at old odd h) ∙ none) all)

pub put_odd : (at : ℕ) (states even old new : List ℕ) → (at % 2 ≡ 0 → ⊥) → in_turn at even old ≡ []
    → AddsAll states old new → HasSame states (in_turn at even new)
put_odd at states even old new h none all =
    subst (λ (l : List ℕ). HasSame states l) (sym (odd_now at even new h))
    (added_to_none states old new (sym (odd_now at even old h) ∙ none) all)

-- Two empty lists are empty in turn.
pub empty_in_turn : (at : ℕ) (even odd : List ℕ) → even ≡ [] → odd ≡ [] → in_turn at even odd ≡ []
empty_in_turn at even odd one two =
    ⊎_elim
    (λ (h : at % 2 ≡ 0). even_now at even odd h ∙ one)
    (λ (h : at % 2 ≡ 0 → ⊥). odd_now at even odd h ∙ two)
    (cases_eq (at % 2) 0)
