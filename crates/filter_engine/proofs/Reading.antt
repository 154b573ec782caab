-- What states lead to on a byte.
use Rattle.std.proofs.Common.{◌≡◌, ℕ, ◌+◌, ◌<◌, List, [], ◌∷◌, ◌++◌, Option, Some, None, length, take, get_or, vec_len, refl, sym, ap, ◌∙◌, ⊎_elim, inl, inr, arith, append-nil}
use Rattle.std.specs.Prelude.{Contains, MatchOption}
use Rattle.std.proofs.Math.Seq.{take-length}
use Rattle.std.proofs.lemmas.List.{take_more}
use Rattle.std.proofs.lemmas.List.Elements.{Contains-get_or, Contains-append_left, Contains-push, Contains-push_cases}
use Rattle.regex_nfa.specs.States.{next_on}
use Rattle.regex_nfa.specs.Run.{state_of}
use Rattle.regex_nfa.specs.declared.nfa.Nfa.{Nfa}
use Rattle.regex_nfa.proofs.RunLemmas.{next_on_within}
use Rattle.filter_engine.specs.StateLists.{AddsState}
use Rattle.filter_engine.specs.Runs.{AreStates, Reads, ReadsState}
use Rattle.filter_engine.proofs.Targets.{extends_of, extends_on, keeps, cases_of}

module _ (nfa : Nfa) (byte : ℕ) where
  -- what a state leads to on the byte
  abbrev next : ℕ → Option ℕ
  next q = next_on nfa.transitions.items (state_of nfa q) byte

  -- No state leads anywhere.
  pub reads_none : (old : List ℕ) → Reads nfa byte [] old old
  reads_none old = record {
    added = λ r there. inl there;
    all = λ q r none is. absurd (omega (arith, none.1));
    kept = ([], sym (append-nil old));
  }

  -- One more state that leads nowhere.
  more_none : (states : List ℕ) (q : ℕ) (old new : List ℕ) → Reads nfa byte states old new → next q ≡ None
      → Reads nfa byte (states ++ q ∷ []) old new
  more_none states q old new reads none = record {
    added = λ r there.
        ⊎_elim
        (λ before. inl before)
        (λ (from : (p : ℕ) × Contains states p × (next p ≡ Some r)). inr
        (from.0, Contains-append_left states (q ∷ []) from.0 from.1, from.2))
        (reads.added r there);
    all = λ p r there is.
        ⊎_elim
        (λ (before : Contains states p). reads.all p r before is)
        (λ (same : q ≡ p). absurd (let other : next p ≡ None = rw same at none in cc))
        (Contains-push_cases states q p there);
    kept = reads.kept;
  }

  -- One more state that leads to a state.
  more_some : (states : List ℕ) (q target : ℕ) (old mid new : List ℕ) → Reads nfa byte states old mid
      → next q ≡ Some target
      → AddsState target mid new → Reads nfa byte (states ++ q ∷ []) old new
  more_some states q target old mid new reads to adds = record {
    added = λ r there.
        ⊎_elim
        (λ (between : Contains mid r).
        ⊎_elim
        (λ before. inl before)
        (λ (from : (p : ℕ) × Contains states p × (next p ≡ Some r)). inr
        (from.0, Contains-append_left states (q ∷ []) from.0 from.1, from.2))
        (reads.added r between))
        (λ (same : target ≡ r). inr (q, Contains-push states q, to ∙ ap Some same))
        (cases_of target mid new r adds there);
    all = λ p r there is.
        ⊎_elim
        (λ (before : Contains states p). keeps mid new r (extends_of target mid new adds) (reads.all p r before is))
        (λ (same : q ≡ p).
        let also : next p ≡ Some target = rw same at to in
        let one : target ≡ r = cc in
        rw one at adds.there)
        (Contains-push_cases states q p there);
    kept = extends_on old mid new reads.kept (extends_of target mid new adds);
  }

  by_target : (states : List ℕ) (q : ℕ) (old mid new : List ℕ) (to : Option ℕ) → next q ≡ to
      → Reads nfa byte states old mid
      → MatchOption to (new ≡ mid) (λ r. AddsState r mid new) → Reads nfa byte (states ++ q ∷ []) old new
  by_target states q old mid new None is reads same = rw same (more_none states q old mid reads is)
  by_target states q old mid new (Some target) is reads adds = more_some states q target old mid new reads is adds

  -- One more of the states is read.
  pub reads_more : (states : List ℕ) (i q : ℕ) (old mid new : List ℕ) → Reads nfa byte (take i states) old mid
      → i < length states
      → q ≡ get_or states i 0 → ReadsState nfa byte q mid new → Reads nfa byte (take (i + 1) states) old new
  reads_more states i q old mid new reads below is read =
      rw (take_more states i 0 below, ← is) (by_target (take i states) q old mid new (next q) refl reads read)

  -- What is read are states.
  pub reads_within : (states old new : List ℕ) → Reads nfa byte states old new → AreStates nfa old → AreStates nfa new
  reads_within states old new reads within r there =
      ⊎_elim
      (λ before. within r before)
      (λ (from : (q : ℕ) × Contains states q × (next q ≡ Some r)). next_on_within nfa from.0 byte r from.2)
      (reads.added r there)

  -- Where all are read.
  pub reads_all : (states : List ℕ) (i : ℕ) (old new : List ℕ) → Reads nfa byte (take i states) old new
      → i ≡ length states → Reads nfa byte states old new
  reads_all states i old new reads same = rw take-length at (rw same at reads)

-- A state at a place of the list.
pub within_at : (nfa : Nfa) (states : List ℕ) (i q : ℕ) → AreStates nfa states → i < length states
    → q ≡ get_or states i 0 → q < vec_len nfa.states
within_at nfa states i q within below is = rw is (within (get_or states i 0) (Contains-get_or states i 0 below))

-- No state is a state.
pub none_within : (nfa : Nfa) (states : List ℕ) → states ≡ [] → AreStates nfa states
none_within nfa states none = rw none (λ q there. absurd (omega (arith, there.1)))
