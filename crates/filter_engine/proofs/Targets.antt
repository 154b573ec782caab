-- What a state leads to with no byte.
use Rattle.std.proofs.Common.{◌≡◌, ℕ, ◌+◌, ◌<◌, ◌⊎◌, true, List, [], ◌∷◌, ◌++◌, length, take, get_or, arith, sym, ap, ◌∙◌, subst, ⊎_elim, inl, inr, append_assoc, append-nil}
use Rattle.std.specs.Prelude.{Contains}
use Rattle.std.proofs.Math.Seq.{take-length}
use Rattle.std.proofs.lemmas.List.{take_more, length-take}
use Rattle.std.proofs.lemmas.List.Elements.{Contains-append_left, Contains-push, Contains-push_cases}
use Rattle.regex_hir.specs.Looks.{holds}
use Rattle.regex_hir.specs.declared.look.Look as look
use Rattle.regex_nfa.specs.Run.{state_of}
use Rattle.regex_nfa.specs.Paths.{EmptyEdge, by_first, by_second, by_save, by_look}
use Rattle.regex_nfa.specs.declared.state.State.TheVariants.{Split, Save, Look}
use Rattle.regex_nfa.specs.declared.nfa.Nfa.{Nfa}
use Rattle.filter_engine.specs.StateLists.{AddsAll, AddsState, HasSame}
use Rattle.filter_engine.specs.Runs.{AddsTargets, Extends}

-- Where a state is added, the old list stays in front.
pub extends_of : (q : ℕ) (old new : List ℕ) → AddsState q old new → Extends old new
extends_of q old new adds =
    ⊎_elim (λ same. ([], same ∙ sym (append-nil old))) (λ more. (q ∷ [], more)) adds.after

-- What is in a list is in one that extends it.
pub keeps : (old new : List ℕ) (r : ℕ) → Extends old new → Contains old r → Contains new r
keeps old new r (added, is) there = rw is (Contains-append_left old added r there)

-- A list extends one that extends a third.
pub extends_on : (old mid new : List ℕ) → Extends old mid → Extends mid new → Extends old new
extends_on old mid new (first, is) (second, next) =
    (first ++ second, next ∙ ap (λ l. l ++ second) is ∙ append_assoc old first second)

-- A state of the new list is an old one or the one that was added.
pub cases_of : (q : ℕ) (old new : List ℕ) (r : ℕ) → AddsState q old new → Contains new r → Contains old r ⊎ (q ≡ r)
cases_of q old new r adds there =
    ⊎_elim
    (λ (same : new ≡ old). inl (rw same at there))
    (λ (more : new ≡ old ++ q ∷ []). Contains-push_cases old q r (rw more at there))
    adds.after

-- One more of some states is added.
pub adds_more : (states base old new : List ℕ) (i q : ℕ) → i < length states → q ≡ get_or states i 0
    → AddsAll (take i states) base old → AddsState q old new → AddsAll (take (i + 1) states) base new
adds_more states base old new i q below is all adds r =
    rw (take_more states i 0 below, ← is) (
      λ there.
          ⊎_elim
          (λ (before : Contains old r).
          ⊎_elim
          (λ first. inl first)
          (λ among. inr (Contains-append_left (take i states) (q ∷ []) r among))
          ((all r).0 before))
          (λ (same : q ≡ r). inr (subst (λ s. Contains (take i states ++ q ∷ []) s) same (Contains-push (take i states) q)))
          (cases_of q old new r adds there),
      λ from.
          ⊎_elim
          (λ (first : Contains base r). keeps old new r (extends_of q old new adds) ((all r).1 (inl first)))
          (λ (among : Contains (take i states ++ q ∷ []) r).
          ⊎_elim
          (λ (earlier : Contains (take i states) r).
          keeps old new r (extends_of q old new adds) ((all r).1 (inr earlier)))
          (λ (same : q ≡ r). rw same at adds.there)
          (Contains-push_cases (take i states) q r among))
          from,
    )

-- Where none is added.
pub adds_none : (states base : List ℕ) → AddsAll (take 0 states) base base
adds_none states base q =
    (λ there. inl there, λ from. ⊎_elim (λ first. first) (λ none. absurd (no_state q none)) from)
  where
    no_state : (q : ℕ) → Contains (take 0 states) q → ⊥
    no_state q none = omega (arith, none.1, length-take 0 states)

-- Where all are added.
pub adds_done : (states base new : List ℕ) (i : ℕ) → AddsAll (take i states) base new → i ≡ length states
    → AddsAll states base new
adds_done states base new i all same = rw take-length at (rw same at all)

-- States that are added to none are the same.
pub added_to_none : (states old new : List ℕ) → old ≡ [] → AddsAll states old new → HasSame states new
added_to_none states old new none all q = (
  λ there.
      ⊎_elim (λ (before : Contains old q). absurd (let e = rw none at before in omega (arith, e.1))) (λ among. among)
      ((all q).0 there),
  λ among. (all q).1 (inr among),
)

module _ (nfa : Nfa) (name : List ℕ) (at q : ℕ) where
  -- Where one state is added, to which alone a state leads.
  pub adds_one : (target : ℕ) (old new : List ℕ) → EmptyEdge nfa name at q target
      → ((r : ℕ) → EmptyEdge nfa name at q r → target ≡ r) → AddsState target old new
      → AddsTargets nfa name at q old new
  adds_one target old new edge only adds = record {
    kept = extends_of target old new adds;
    added = λ r there.
        ⊎_elim (λ before. inl before) (λ (same : target ≡ r). inr (rw same at edge))
        (cases_of target old new r adds there);
    all = λ r to. rw (only r to) at adds.there;
  }

  split_edge : (first second r : ℕ) → state_of nfa q ≡ Split first second → EmptyEdge nfa name at q r
      → (first ≡ r) ⊎ (second ≡ r)
  split_edge first second r is (by_first other e) = inl (cc)
  split_edge first second r is (by_second other e) = inr (cc)
  split_edge first second r is (by_save slot e) = absurd (cc)
  split_edge first second r is (by_look l e ok) = absurd (cc)

  save_edge : (slot next r : ℕ) → state_of nfa q ≡ Save slot next → EmptyEdge nfa name at q r → next ≡ r
  save_edge slot next r is (by_first other e) = absurd (cc)
  save_edge slot next r is (by_second other e) = absurd (cc)
  save_edge slot next r is (by_save other e) = cc
  save_edge slot next r is (by_look l e ok) = absurd (cc)

  look_edge : (l : look.Look) (next r : ℕ) → state_of nfa q ≡ Look l next → EmptyEdge nfa name at q r
      → (next ≡ r) × (holds l name at ≡ true)
  look_edge l next r is (by_first other e) = absurd (cc)
  look_edge l next r is (by_second other e) = absurd (cc)
  look_edge l next r is (by_save other e) = absurd (cc)
  look_edge l next r is (by_look m e ok) =
      let same : m ≡ l = cc in
      (cc, rw same at ok)

  pub split_targets : (first second : ℕ) (old mid new : List ℕ) → state_of nfa q ≡ Split first second
      → AddsState first old mid → AddsState second mid new → AddsTargets nfa name at q old new
  split_targets first second old mid new is one two = record {
    kept = extends_on old mid new (extends_of first old mid one) (extends_of second mid new two);
    added = λ r there.
        ⊎_elim
        (λ (between : Contains mid r).
        ⊎_elim (λ before. inl before) (λ (same : first ≡ r). inr (rw (← same) (by_first second is)))
        (cases_of first old mid r one between))
        (λ (same : second ≡ r). inr (rw (← same) (by_second first is)))
        (cases_of second mid new r two there);
    all = λ r to.
        ⊎_elim
        (λ (same : first ≡ r). keeps mid new r (extends_of second mid new two) (rw same at one.there))
        (λ (same : second ≡ r). rw same at two.there)
        (split_edge first second r is to);
  }

  pub save_targets : (slot next : ℕ) (old new : List ℕ) → state_of nfa q ≡ Save slot next → AddsState next old new
      → AddsTargets nfa name at q old new
  save_targets slot next old new is adds = adds_one next old new (by_save slot is) (λ r. save_edge slot next r is) adds

  pub look_targets : (l : look.Look) (next : ℕ) (old new : List ℕ) → state_of nfa q ≡ Look l next
      → holds l name at ≡ true
      → AddsState next old new → AddsTargets nfa name at q old new
  look_targets l next old new is ok adds =
      adds_one next old new (by_look l is ok) (λ r to. (look_edge l next r is to).0) adds
