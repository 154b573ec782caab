-- A step over one byte of a name.
use Rattle.std.proofs.Common.{◌≡◌, ℕ, ◌+◌, ◌<◌, ◌≤◌, false, List, [], Some, length, get_or, vec_len, refl, sym, ◌∙◌, subst, ⊎_elim, inl, inr, arith}
use Rattle.std.specs.Prelude.{Contains}
use Rattle.std.proofs.lemmas.Option.{slice_get-get_or}
use Rattle.regex_nfa.specs.States.{next_on, byte_below}
use Rattle.regex_nfa.specs.Run.{state_of}
use Rattle.regex_nfa.specs.Paths.{Accepts, matched, skipped, consumed}
use Rattle.regex_nfa.specs.declared.nfa.Nfa.{Nfa}
use Rattle.regex_nfa.specs.declared.state.State.TheVariants.{Match}
use Rattle.regex_nfa.proofs.RunLemmas.{byte_below-length, byte_below_some}
use Rattle.filter_engine.specs.StateLists.{AddsAll, AddsState}
use Rattle.filter_engine.specs.Runs.{AreStates, Reads, Succeeds, SomeSucceeds, Begins, Steps, Reached, among, behind, HasStart, IsClosed, IsClosing}
use Rattle.filter_engine.proofs.Targets.{added_to_none, extends_of, keeps, cases_of}

module _ (nfa : Nfa) (name : List ℕ) where
  -- The byte that is read at a position of the name.
  byte_here : (at : ℕ) → at < length name → byte_below name (length name) at ≡ Some (get_or name at 0)
  byte_here at h = byte_below-length name at ∙ slice_get-get_or name at 0 h

  -- From a closed state, a match goes on behind the byte.
  goes_on : (at : ℕ) (states next : List ℕ) → IsClosed nfa name at states → at < length name
      → Reads nfa (get_or name at 0) states [] next
      → (end q i : ℕ) → i ≡ at → Contains states q → Accepts nfa name (length name) end q i
      → SomeSucceeds nfa name (at + 1) next
  goes_on at states next closed h reads end q i same there (matched _ _ is e) = absurd (closed.unmatched q there is)
  goes_on at states next closed h reads end q i same there (skipped _ _ r edge rest) =
      goes_on at states next closed h reads end r i same (closed.targets q r there (rw same at edge)) rest
  goes_on at states next closed h reads end q i same there (consumed _ _ r edge rest) =
      let byte : Some edge.0 ≡ Some (get_or name at 0) = sym (rw same at edge.1) ∙ byte_here at h in
      let is : edge.0 ≡ get_or name at 0 = cc in
      (r, reads.all q r there (rw is at edge.2), (omega arith, (end, rw same at rest)))

  -- At the end of the name no match goes on from a closed state.
  ends : (at : ℕ) (states : List ℕ) → IsClosed nfa name at states → at ≡ length name
      → (end q i : ℕ) → i ≡ at → Contains states q → Accepts nfa name (length name) end q i → ⊥
  ends at states closed h end q i same there (matched _ _ is e) = closed.unmatched q there is
  ends at states closed h end q i same there (skipped _ _ r edge rest) =
      ends at states closed h end r i same (closed.targets q r there (rw same at edge)) rest
  ends at states closed h end q i same there (consumed _ _ r edge rest) =
      let inside = (byte_below_some name (length name) i edge.0 edge.1).0 in
      omega arith

  -- A match from behind the byte is one from before it.
  comes_from : (at : ℕ) (states next : List ℕ) → at < length name → Reads nfa (get_or name at 0) states [] next
      → SomeSucceeds nfa name (at + 1) next → SomeSucceeds nfa name at states
  comes_from at states next h reads (r, there, succeeds) =
      ⊎_elim
      (λ (none : Contains [] r). absurd (omega (arith, none.1)))
      (λ (from : (q : ℕ) × Contains states q
      × (next_on nfa.transitions.items (state_of nfa q) (get_or name at 0) ≡ Some r)). (
        from.0,
        from.1,
        (
          omega arith,
          (succeeds.1.0, consumed from.0 at r (get_or name at 0, byte_here at h, from.2) succeeds.1.1),
        ),
      ))
      (reads.added r there)

  -- What succeeds at a state that is reached succeeds at one of those from which it is.
  reached_from : (at : ℕ) (states : List ℕ) (q : ℕ) → Reached nfa name at states q → Succeeds nfa name at q
      → SomeSucceeds nfa name at states
  reached_from at states q (among _ there) succeeds = (q, there, succeeds)
  reached_from at states q (behind p _ before edge) succeeds =
      reached_from at states p before (succeeds.0, (succeeds.1.0, skipped p at q edge succeeds.1.1))

  -- A match begins in the old states or at the start just where one goes on in the states with the start.
  begins_in : (at : ℕ) (old states : List ℕ) → HasStart nfa old states
      → SomeSucceeds nfa name at states → Begins nfa name at old
  begins_in at old states starts (q, there, succeeds) =
      ⊎_elim (λ before. inl (q, before, succeeds))
      (λ (same : nfa.start ≡ q). inr (subst (λ p. Succeeds nfa name at p) (sym same) succeeds))
      ((starts q).0 there)

  goes_in : (at : ℕ) (old states : List ℕ) → HasStart nfa old states → Begins nfa name at old
      → SomeSucceeds nfa name at states
  goes_in at old states starts begins =
      ⊎_elim
      (λ (some : SomeSucceeds nfa name at old). (some.0, (starts some.0).1 (inl some.1), some.2))
      (λ (start : Succeeds nfa name at nfa.start). (nfa.start, (starts nfa.start).1 (inr refl), start))
      begins

  -- A step that finds a match.
  pub steps_matched : (at : ℕ) (old states : List ℕ) → at ≤ length name → HasStart nfa old states
      → (q : ℕ) × Reached nfa name at states q × (state_of nfa q ≡ Match) → Begins nfa name at old
  steps_matched at old states within starts (q, reached, ends) =
      begins_in at old states starts (reached_from at states q reached (within, (at, matched q at ends refl)))

  from_closed : (at : ℕ) (states new : List ℕ) → IsClosing nfa name at states new
      → SomeSucceeds nfa name at states → SomeSucceeds nfa name at new
  from_closed at states new closing (q, there, succeeds) = (q, keeps states new q closing.kept there, succeeds)

  to_closed : (at : ℕ) (states new : List ℕ) → IsClosing nfa name at states new
      → SomeSucceeds nfa name at new → SomeSucceeds nfa name at states
  to_closed at states new closing (q, there, succeeds) = reached_from at states q (closing.reached q there) succeeds

  -- A step over a byte.
  pub steps_over : (at : ℕ) (old states new next : List ℕ) → at < length name → HasStart nfa old states
      → IsClosing nfa name at states new → Reads nfa (get_or name at 0) new [] next
      → Steps nfa name at old next false
  steps_over at old states new next h starts closing reads = (
    λ begins.
        let some = from_closed at states new closing (goes_in at old states starts begins) in
        goes_on at new next closing.closed h reads some.2.1.0 some.0 at refl some.1 some.2.1.1,
    λ later. begins_in at old states starts (to_closed at states new closing (comes_from at new next h reads later)),
  )

  -- The step at the end of the name.
  pub steps_at_end : (at : ℕ) (old states new : List ℕ) → at ≡ length name → HasStart nfa old states
      → IsClosing nfa name at states new → Steps nfa name at old [] false
  steps_at_end at old states new h starts closing = (
    λ begins.
        let some = from_closed at states new closing (goes_in at old states starts begins) in
        absurd (ends at new closing.closed h some.2.1.0 some.0 at refl some.1 some.2.1.1),
    λ later. absurd (omega (arith, later.2.0)),
  )

  -- The states with the start among them.
  pub within_started : (old states : List ℕ) → AreStates nfa old → HasStart nfa old states → AreStates nfa states
  within_started old states within starts q there =
      ⊎_elim (λ before. within q before)
      (λ (same : nfa.start ≡ q). subst (λ p. p < vec_len nfa.states) same nfa.start_in)
      ((starts q).0 there)

-- Where the start is added, it is there.
pub start_added : (nfa : Nfa) (old new : List ℕ) → AddsState nfa.start old new → HasStart nfa old new
start_added nfa old new adds q = (
  λ there. cases_of nfa.start old new q adds there,
  λ from.
      ⊎_elim
      (λ (before : Contains old q). keeps old new q (extends_of nfa.start old new adds) before)
      (λ (same : nfa.start ≡ q). rw same at adds.there)
      from,
)

-- Where states are added to none, and the start, these are the states and the start.
pub start_with : (nfa : Nfa) (states none mid new : List ℕ) → none ≡ [] → AddsAll states none mid
    → AddsState nfa.start mid new → HasStart nfa states new
start_with nfa states none mid new empty all adds q =
    let same = added_to_none states none mid empty all q in
    let starts = start_added nfa mid new adds q in (
      λ there. ⊎_elim (λ (before : Contains mid q). inl (same.0 before)) (λ start. inr start) (starts.0 there),
      λ from. ⊎_elim (λ (among : Contains states q). starts.1 (inl (same.1 among))) (λ start. starts.1 (inr start)) from,
    )
