-- Bytes that no state distinguishes.
use Rattle.std.proofs.Common.{◌≡◌, ℕ, suc, ◌+◌, ◌-◌, ◌<◌, ◌≤◌, Bool, true, false, cond, List, [], ◌∷◌, ◌++◌, length, get_or, set, drop, find, option_map, Some, None, slice_index, slice_index_or, slice_range, refl, sym, ap, ap₂, ◌∙◌, subst, ⊎_elim, true≢false, arith, get_or-take, get_or-drop, get_or-set_same, get_or-set_other, length-take, length-drop}
use Rattle.std.proofs.lemmas.Bool.{cases_eq, cases_lt}
use Rattle.std.proofs.lemmas.Bool.Decides.{nat_tests}
use Rattle.std.proofs.lemmas.List.{get_or_past, get_or_append_left, get_or_push, length_push, length-set}
use Rattle.regex_nfa.specs.States.{covers, next_on, target_in}
use Rattle.regex_nfa.specs.Run.{state_of}
use Rattle.regex_nfa.specs.declared.state.State.{State}
use Rattle.regex_nfa.specs.declared.state.State.TheVariants.{ByteRange, Sparse, Split, Save, Look, Match, Fail}
use Rattle.regex_nfa.specs.declared.state.Transition.{Transition}
use Rattle.regex_nfa.specs.declared.nfa.Nfa.{Nfa}
use Rattle.filter_engine.specs.Classes.{flag, IsCut, KeepsCuts, AreAlike, SeparatesBytes, AreClasses}

-- A transition takes both bytes or none where no cut is between them.
covers_next : (cuts : List Bool) (t : Transition) (b : ℕ) → IsCut cuts t → flag cuts (b + 1) ≡ false
    → covers t b ≡ covers t (b + 1)
covers_next cuts t b cut none =
    let start : t.start ≡ b + 1 → ⊥ = λ e. true≢false (sym cut.0 ∙ ap (flag cuts) e ∙ none) in
    let end : t.end ≡ b → ⊥ = λ e. true≢false (sym cut.1 ∙ ap (λ x. flag cuts (x + 1)) e ∙ none) in
    same t.start t.end b start end
  where
    same : (lo hi x : ℕ) → (lo ≡ x + 1 → ⊥) → (hi ≡ x → ⊥)
        → covers (record { start = lo; end = hi; next = 0 }) x
        ≡ covers (record { start = lo; end = hi; next = 0 }) (x + 1)
    same lo hi x p q = grind (arith, nat_tests)

-- The states so far are cut around.
abbrev pub CutsStates : List Bool → Nfa → ℕ → Type 0
CutsStates cuts nfa n = (q : ℕ) (t : Transition) → q < n → state_of nfa q ≡ ByteRange t → IsCut cuts t

-- The transitions so far are cut around.
abbrev pub CutsTransitions : List Bool → List Transition → ℕ → Type 0
CutsTransitions cuts ts n = (k : ℕ) (d : Transition) → k < n → IsCut cuts (slice_index_or ts k d)

targets_alike : (ts : List Transition) (a b : ℕ)
    → ((k : ℕ) (d : Transition) → k < length ts → covers (slice_index_or ts k d) a ≡ covers (slice_index_or ts k d) b)
    → target_in ts a ≡ target_in ts b
targets_alike ts a b each = ap (option_map (λ (t : Transition). t.next)) (finds ts each)
  where
    finds : (us : List Transition)
        → ((k : ℕ) (d : Transition) → k < length us
        → covers (slice_index_or us k d) a ≡ covers (slice_index_or us k d) b)
        → find (λ t. covers t a) us ≡ find (λ t. covers t b) us
    finds [] all = refl
    finds (u ∷ us) all =
        ap₂ (λ x rest. cond x (Some u) rest) (all 0 u (omega arith))
        (finds us (λ k d inside. all (suc k) d (omega arith)))

next_alike : (ts : List Transition) (cuts : List Bool) (state : State) (b : ℕ) → CutsTransitions cuts ts (length ts)
    → ((t : Transition) → state ≡ ByteRange t → IsCut cuts t) → flag cuts (b + 1) ≡ false
    → next_on ts state b ≡ next_on ts state (b + 1)
unfolding next_on
next_alike ts cuts (ByteRange t) b all own none = ap (λ x. cond x (Some t.next) None) (covers_next cuts t b (own t refl) none)
next_alike ts cuts (Sparse from to) b all own none =
    targets_alike (slice_range ts from to) b (b + 1) (λ k d inside.
    let fits : (k < to - from) × (from + k < length ts) =
    omega (arith, length-take (to - from) (drop from ts), length-drop from ts) in
    let is = get_or-take (to - from) (drop from ts) k d fits.0 ∙ get_or-drop from ts k d in
    subst (λ (t : Transition). covers t b ≡ covers t (b + 1)) (sym is)
    (covers_next cuts (slice_index_or ts (from + k) d) b (all (from + k) d fits.1) none))
next_alike ts cuts (Split first second) b all own none = refl
next_alike ts cuts (Save slot next) b all own none = refl
next_alike ts cuts (Look l next) b all own none = refl
next_alike ts cuts Match b all own none = refl
next_alike ts cuts Fail b all own none = refl

-- A state that reads a byte is one of the automaton.
range_within : (nfa : Nfa) (q : ℕ) (t : Transition) → state_of nfa q ≡ ByteRange t → q < length nfa.states.items
range_within nfa q t is =
    ⊎_elim (λ inside. inside)
    (λ past. absurd (let f = get_or_past nfa.states.items q Fail past in cc))
    (cases_lt q (length nfa.states.items))

-- Where all are cut around, bytes between which there is no cut are alike.
pub cuts_separate : (nfa : Nfa) (cuts : List Bool) → CutsStates cuts nfa (length nfa.states.items)
    → CutsTransitions cuts nfa.transitions.items (length nfa.transitions.items) → SeparatesBytes nfa cuts
cuts_separate nfa cuts states transitions b none q =
    next_alike nfa.transitions.items cuts (state_of nfa q) b transitions
    (λ t is. states q t (range_within nfa q t is) is) none

pub states_keep : (old new : List Bool) (nfa : Nfa) (n : ℕ) → KeepsCuts old new → CutsStates old nfa n
    → CutsStates new nfa n
states_keep old new nfa n keeps cut q t below is = let was = cut q t below is in (keeps _ was.0, keeps _ was.1)

pub transitions_keep : (old new : List Bool) (ts : List Transition) (n : ℕ) → KeepsCuts old new
    → CutsTransitions old ts n → CutsTransitions new ts n
transitions_keep old new ts n keeps cut k d below = let was = cut k d below in (keeps _ was.0, keeps _ was.1)

pub states_more : (cuts : List Bool) (nfa : Nfa) (n : ℕ) → CutsStates cuts nfa n
    → ((t : Transition) → state_of nfa n ≡ ByteRange t → IsCut cuts t) → CutsStates cuts nfa (n + 1)
states_more cuts nfa n before here q t below is =
    ⊎_elim (λ earlier. before q t earlier is)
    (λ (last : n ≤ q). let same : n ≡ q = omega arith in here t (ap (state_of nfa) same ∙ is))
    (cases_lt q n)

pub transitions_more : (cuts : List Bool) (ts : List Transition) (n : ℕ) → CutsTransitions cuts ts n
    → ((d : Transition) → IsCut cuts (slice_index_or ts n d)) → CutsTransitions cuts ts (n + 1)
transitions_more cuts ts n before here k d below =
    ⊎_elim (before k d)
    (λ (last : n ≤ k).
    let same : n ≡ k = omega arith in
    subst (λ x. IsCut cuts (slice_index_or ts x d)) same (here d))
    (cases_lt k n)

-- A cut that is made is there, and others stay.
pub cut_set : (cuts : List Bool) (at k : ℕ) → flag cuts k ≡ true → flag (set cuts at true) k ≡ true
cut_set cuts at k is =
    ⊎_elim
    (λ (same : k ≡ at).
    ⊎_elim
    (λ (below : at < length cuts). rw same (get_or-set_same cuts at true false below))
    (λ (past : length cuts ≤ at).
    absurd (true≢false (sym is ∙ ap (flag cuts) same ∙ get_or_past cuts at false past)))
    (cases_lt at (length cuts)))
    (λ (other : k ≡ at → ⊥). get_or-set_other cuts at k true false other ∙ is)
    (cases_eq k at)

-- The classes of the bytes so far.
pub record AreClassesTo (nfa : Nfa) (classes bytes : List ℕ) (n : ℕ) : Type 0 where
  pub some : 0 < n → 0 < length bytes
  pub few : length bytes ≤ n
  pub size : length classes ≡ 128
  pub sorted : (k : ℕ) → k < n → (slice_index classes k < length bytes)
      × AreAlike nfa (slice_index bytes (slice_index classes k)) k
  pub last : 0 < n → slice_index classes (n - 1) + 1 ≡ length bytes

pub no_classes : (nfa : Nfa) (classes bytes : List ℕ) → length classes ≡ 128 → bytes ≡ []
    → AreClassesTo nfa classes bytes 0
no_classes nfa classes bytes size none = record {
  some = λ h. absurd (omega arith);
  few = omega (arith, ap length none);
  size = size;
  sorted = λ k h. absurd (omega arith);
  last = λ h. absurd (omega arith);
}

module _ (nfa : Nfa) (cuts : List Bool) (classes old new : List ℕ) (n class : ℕ) where
  -- A byte with which a class begins.
  class_begun : AreClassesTo nfa classes old n → n < 128 → new ≡ old ++ n ∷ [] → class + 1 ≡ length new
      → AreClassesTo nfa (set classes n class) new (n + 1)
  class_begun before below is count =
      let longer : length new ≡ length old + 1 = omega (arith, ap length is, length_push old n) in
      let place : n < length classes = omega (arith, before.size) in
      let here : get_or (set classes n class) n 0 ≡ length old =
      get_or-set_same classes n class 0 place ∙ let e : class ≡ length old = omega arith in e in
      record {
        some = λ _. omega arith;
        few = omega (arith, before.few);
        size = length-set classes n class ∙ before.size;
        sorted = λ k h.
            ⊎_elim
            (λ (same : k ≡ n).
            rw (same, here)
            (omega arith, rw (is, get_or_push old n 0 (length old) refl) (λ q. refl)))
            (λ (other : k ≡ n → ⊥).
            let was = before.sorted k (omega arith) in
            rw (get_or-set_other classes n k class 0 other)
            (omega (arith, was.0), rw (is, get_or_append_left old (n ∷ []) 0 (get_or classes k 0) was.0) was.1))
            (cases_eq k n);
        last = λ _. let e : n + 1 - 1 ≡ n = omega arith in rw (e, here) (sym longer);
      }

  -- A byte of the class of the byte below it.
  class_goes_on : AreClassesTo nfa classes old n → n < 128 → 0 < n → AreAlike nfa (n - 1) n → new ≡ old
      → class + 1 ≡ length new → AreClassesTo nfa (set classes n class) new (n + 1)
  class_goes_on before below later alike is count =
      let place : n < length classes = omega (arith, before.size) in
      let some = before.some later in
      let was = before.sorted (n - 1) (omega arith) in
      let top = before.last later in
      let same_class : class ≡ get_or classes (n - 1) 0 = omega (arith, ap length is) in
      let here : get_or (set classes n class) n 0 ≡ get_or classes (n - 1) 0 =
      get_or-set_same classes n class 0 place ∙ same_class in
      record {
        some = λ _. omega (arith, ap length is);
        few = omega (arith, before.few, ap length is);
        size = length-set classes n class ∙ before.size;
        sorted = λ k h.
            ⊎_elim
            (λ (same : k ≡ n). rw (same, here, is) (was.0, λ q. was.1 q ∙ alike q))
            (λ (other : k ≡ n → ⊥).
            rw (get_or-set_other classes n k class 0 other, is) (before.sorted k (omega arith)))
            (cases_eq k n);
        last = λ _. let e : n + 1 - 1 ≡ n = omega arith in rw (e, here) (omega (arith, ap length is));
      }

  -- With the first byte a class begins.
  first_begins : flag cuts 0 ≡ true → flag cuts n ≡ false → 0 < n
  first_begins first is =
      ⊎_elim (λ (zero_is : n ≡ 0). absurd (true≢false (sym first ∙ ap (flag cuts) (sym zero_is) ∙ is)))
      (λ (other : n ≡ 0 → ⊥). omega arith) (cases_eq n 0)

  -- There is a class then, and there are few.
  pub some_class : (begins : Bool) → flag cuts n ≡ begins → flag cuts 0 ≡ true → AreClassesTo nfa classes old n
      → new ≡ cond begins (old ++ n ∷ []) old → (0 < length new) × (length new ≤ n + 1)
  some_class true is first before new_is =
      let few = before.few in
      let more = length_push old n in
      let same = ap length new_is in (omega arith, omega arith)
  some_class false is first before new_is =
      let few = before.few in
      let some = before.some (first_begins first is) in
      let same = ap length new_is in (omega arith, omega arith)

  -- One byte more.
  pub class_more : (begins : Bool) → flag cuts n ≡ begins → flag cuts 0 ≡ true → SeparatesBytes nfa cuts
      → AreClassesTo nfa classes old n → n < 128 → new ≡ cond begins (old ++ n ∷ []) old → class + 1 ≡ length new
      → AreClassesTo nfa (set classes n class) new (n + 1)
  class_more true is first apart before below new_is count = class_begun before below new_is count
  class_more false is first apart before below new_is count =
      let later = first_begins first is in
      let step : n - 1 + 1 ≡ n = omega arith in
      let alike = apart (n - 1) (ap (flag cuts) step ∙ is) in
      class_goes_on before below later (subst (AreAlike nfa (n - 1)) step alike) new_is count

-- Where all bytes are done.
pub classes_done : (nfa : Nfa) (classes bytes : List ℕ) → AreClassesTo nfa classes bytes 128 → AreClasses nfa classes bytes
classes_done nfa classes bytes all b small = all.sorted b small
