-- What entries bring of a path, by the numbers of those that matter to it.
use Rattle.std.proofs.Common.{◌≡◌, ℕ, zero, suc, Bool, true, false, cond, List, [], ◌∷◌, drop, slice_get, Option, Some, None, MatchOption, refl, sym, ap, ◌∙◌, inl, inr, arith}
use Rattle.std.proofs.lemmas.Bool.{cases_Bool, true≢false}
use Rattle.std.specs.List.{AllByRecursion}
use Rattle.toml_parser.specs.Reading.{path_view}
use Rattle.nextest_places.specs.Branches.{HasNumber, comes_before, lines_by_number, numbers_where}
use Rattle.nextest_places.specs.Entries.{Outcome, IsWaiting, found, waits, outcome_of, scan}
use Rattle.nextest_places.specs.Marks.{Mark, State, into, seen, missing, next_element, turn}
use Rattle.nextest_places.specs.declared.entry.Entry.{Entry}
use Rattle.nextest_places.specs.declared.place.Lines.{Lines}
use Rattle.nextest_places.specs.declared.step.Step.{Step}
use Rattle.nextest_places.proofs.Numbers.{at_least, is_below, none_before}
use Rattle.nextest_places.proofs.Passed.{passed, passed_by, passed_missing, passed_seen}

-- the state of a path behind an entry
abbrev pub turn_by : Entry → List Mark → State
turn_by entry ms = turn entry.kind (path_view entry.parts.items) ms

pub lines_are : (entries : List Entry) (outcome : Outcome) (number : Option ℕ) → HasNumber entries outcome number
    → MatchOption (lines_by_number entries number) (IsWaiting outcome) (λ lines. outcome ≡ found lines)
lines_are entries outcome None waiting = waiting
lines_are entries outcome (Some n) (e, is, brings) = rw is brings

pub scan_stays : (entries : List Entry) (lines : Lines) → scan entries (found lines) ≡ found lines
scan_stays [] lines = refl
scan_stays (e ∷ entries) lines = scan_stays entries lines

scan_seen : (e : Entry) (rest : List Entry) (ms : List Mark) → turn_by e ms ≡ seen
    → scan (e ∷ rest) (waits ms) ≡ found e.lines
scan_seen e rest ms is = ap (λ s. scan rest (outcome_of e.lines ms s)) is ∙ scan_stays rest e.lines

scan_missing : (e : Entry) (rest : List Entry) (ms more : List Mark) → turn_by e ms ≡ missing more
    → scan (e ∷ rest) (waits ms) ≡ scan rest (waits more)
scan_missing e rest ms more is = ap (λ s. scan rest (outcome_of e.lines ms s)) is

drop_next : (entries : List Entry) (n : ℕ) (e : Entry) (rest : List Entry) → e ∷ rest ≡ drop n entries
    → (slice_get entries n ≡ Some e) × (rest ≡ drop (suc n) entries)
drop_next [] zero e rest is = absurd (cc)
drop_next [] (suc n) e rest is = absurd (cc)
drop_next (x ∷ xs) zero e rest is = (cc, cc)
drop_next (x ∷ xs) (suc n) e rest is = drop_next xs n e rest is

tells_same : (entries : List Entry) (o p : Outcome) (m n : Option ℕ) → o ≡ p → m ≡ n → HasNumber entries p n
    → HasNumber entries o m
tells_same entries o p m n outcomes numbers tells = rw (outcomes, numbers) tells

-- the first of the entries that pass a test ends a scan that else stays as it is
pub first_found : (test : Entry → Bool) (ms : List Mark) (entries : List Entry) (n : ℕ) (rest : List Entry)
    → rest ≡ drop n entries
    → AllByRecursion (λ e. turn_by e ms ≡ cond (test e) seen (missing ms)) rest
    → HasNumber entries (scan rest (waits ms)) (slice_get (numbers_where test n rest) 0)
first_found test ms entries n [] is turns = tt
first_found test ms entries n (e ∷ rest) is (here, turns) =
    let next = drop_next entries n e rest is in
    elim (cases_Bool (test e)) [
      | inl passes ↦
          let first : slice_get (numbers_where test n (e ∷ rest)) 0 ≡ Some n = rw passes refl in
          let ends : turn_by e ms ≡ seen = here ∙ rw passes refl in
          tells_same entries (scan (e ∷ rest) (waits ms)) (found e.lines)
          (slice_get (numbers_where test n (e ∷ rest)) 0) (Some n) (scan_seen e rest ms ends) first (e, next.0, refl)
      | inr fails ↦
          let first : slice_get (numbers_where test n (e ∷ rest)) 0 ≡ slice_get (numbers_where test (suc n) rest) 0 =
          rw fails refl in
          let goes : turn_by e ms ≡ missing ms = here ∙ rw fails refl in
          tells_same entries (scan (e ∷ rest) (waits ms)) (scan rest (waits ms))
          (slice_get (numbers_where test n (e ∷ rest)) 0) (slice_get (numbers_where test (suc n) rest) 0)
          (scan_missing e rest ms ms goes) first (first_found test ms entries (suc n) rest next.1 turns)
    ]

-- An element begins before a pair holds it: what is behind its header, for the rest of the path.
pub record Enters (entries : List Entry) (steps : List Step) (tail : List Mark) (stop : Entry → Bool)
    (outcome : Outcome) (pair : Option ℕ) (n : ℕ) : Type 0 where
  pub header : Entry
  pub is : slice_get entries n ≡ Some header
  pub last : tail ≡ [] → outcome ≡ found header.lines
  pub on : (tail ≡ [] → ⊥) → outcome ≡ scan (drop (suc n) entries) (waits (passed steps (into zero ∷ tail)))
  pub same : pair ≡ slice_get (numbers_where stop (suc n) (drop (suc n) entries)) 0

-- by the number of the element's header, if there is one
abbrev pub Meets : List Entry → List Step → List Mark → (Entry → Bool) → Outcome → Option ℕ → Option ℕ → Type 0
Meets entries steps tail stop outcome pair number =
    MatchOption number (HasNumber entries outcome pair)
    (λ n. (comes_before pair n ≡ true → HasNumber entries outcome pair)
    × (comes_before pair n ≡ false → Enters entries steps tail stop outcome pair n))

meets_same : (entries : List Entry) (steps : List Step) (tail : List Mark) (stop : Entry → Bool)
    (o p : Outcome) (a b m n : Option ℕ) → o ≡ p → a ≡ b → m ≡ n
    → Meets entries steps tail stop p b n → Meets entries steps tail stop o a m
meets_same entries steps tail stop o p a b m n outcomes pairs numbers meets = rw (outcomes, pairs, numbers) meets

module _ (entries : List Entry) (steps : List Step) (tail : List Mark) (stop element : Entry → Bool)
    (turns : (e : Entry) (j : ℕ) → turn_by e (passed steps (into (suc j) ∷ tail))
    ≡ cond (stop e) seen (cond (element e) (passed_by steps (next_element j tail))
    (missing (passed steps (into (suc j) ∷ tail)))))
    (apart : (e : Entry) → stop e ≡ true → element e ≡ false) where
  abbrev waiting : ℕ → List Mark
  waiting j = passed steps (into (suc j) ∷ tail)

  -- a pair comes first
  stopped : (outcome : Outcome) (n : ℕ) (number : Option ℕ) → HasNumber entries outcome (Some n)
      → ((m : ℕ) → number ≡ Some m → comes_before (Some n) m ≡ true) → Meets entries steps tail stop outcome (Some n) number
  stopped outcome n None tells before = tells
  stopped outcome n (Some m) tells before = (
    λ first. tells,
    λ after. absurd (true≢false (sym (before m refl) ∙ after)),
  )

  nonempty : (ms : List Mark) → (ms ≡ [] → ⊥) → next_element zero ms ≡ missing (into zero ∷ ms)
  nonempty [] some = absurd (some refl)
  nonempty (m ∷ ms) some = refl

  empty : (ms : List Mark) → ms ≡ [] → next_element zero ms ≡ seen
  empty [] none = refl
  empty (m ∷ ms) none = absurd (cc)

  -- an element's header: the one that is wanted, or one before it
  begun : (n : ℕ) (e : Entry) (rest : List Entry) → slice_get entries n ≡ Some e → rest ≡ drop (suc n) entries
      → ((j : ℕ) → turn_by e (waiting j) ≡ passed_by steps (next_element j tail))
      → ((j : ℕ) → Meets entries steps tail stop (scan rest (waits (waiting j))) (slice_get (numbers_where stop (suc n) rest) 0)
      (slice_get (numbers_where element (suc n) rest) j))
      → (j : ℕ) → Meets entries steps tail stop (scan (e ∷ rest) (waits (waiting j))) (slice_get (numbers_where stop (suc n) rest) 0)
      (slice_get (n ∷ numbers_where element (suc n) rest) j)
  begun n e rest is next turned later zero = (
    λ first. absurd (true≢false (sym first
        ∙ none_before (slice_get (numbers_where stop (suc n) rest) 0) n
        (λ m h. let least = at_least stop (suc n) rest 0 m h in omega (arith, least)))),
    λ first. record {
      header = e;
      is = is;
      last = λ none. scan_seen e rest (waiting zero)
          (turned zero ∙ ap (passed_by steps) (empty tail none) ∙ passed_seen steps);
      on = λ some. scan_missing e rest (waiting zero) (passed steps (into zero ∷ tail))
          (turned zero ∙ ap (passed_by steps) (nonempty tail some) ∙ passed_missing steps (into zero ∷ tail))
          ∙ ap (λ es. scan es (waits (passed steps (into zero ∷ tail)))) next;
      same = ap (λ es. slice_get (numbers_where stop (suc n) es) 0) next;
    },
  )
  begun n e rest is next turned later (suc j) =
      meets_same entries steps tail stop (scan (e ∷ rest) (waits (waiting (suc j)))) (scan rest (waits (waiting j)))
      (slice_get (numbers_where stop (suc n) rest) 0) (slice_get (numbers_where stop (suc n) rest) 0)
      (slice_get (n ∷ numbers_where element (suc n) rest) (suc j)) (slice_get (numbers_where element (suc n) rest) j)
      (scan_missing e rest (waiting (suc j)) (waiting j) (turned (suc j) ∙ passed_missing steps (into (suc j) ∷ tail)))
      refl refl (later j)

  pub element_found : (n : ℕ) (rest : List Entry) → rest ≡ drop n entries → (j : ℕ)
      → Meets entries steps tail stop (scan rest (waits (waiting j))) (slice_get (numbers_where stop n rest) 0)
      (slice_get (numbers_where element n rest) j)
  element_found n [] is j = tt
  element_found n (e ∷ rest) is j =
      let next = drop_next entries n e rest is in
      let later = element_found (suc n) rest next.1 in
      elim (cases_Bool (stop e)) [
        | inl stops ↦
            let lacks = apart e stops in
            let pair : slice_get (numbers_where stop n (e ∷ rest)) 0 ≡ Some n = rw stops refl in
            let number : slice_get (numbers_where element n (e ∷ rest)) j
            ≡ slice_get (numbers_where element (suc n) rest) j = rw lacks refl in
            let ends : turn_by e (waiting j) ≡ seen = turns e j ∙ rw stops refl in
            meets_same entries steps tail stop (scan (e ∷ rest) (waits (waiting j))) (found e.lines)
            (slice_get (numbers_where stop n (e ∷ rest)) 0) (Some n)
            (slice_get (numbers_where element n (e ∷ rest)) j) (slice_get (numbers_where element (suc n) rest) j)
            (scan_seen e rest (waiting j) ends) pair number
            (stopped (found e.lines) n (slice_get (numbers_where element (suc n) rest) j) (e, next.0, refl)
            (λ m h. let least = at_least element (suc n) rest j m h in is_below n m (omega (arith, least))))
        | inr goes ↦
            let pair : slice_get (numbers_where stop n (e ∷ rest)) 0 ≡ slice_get (numbers_where stop (suc n) rest) 0 =
            rw goes refl in
            elim (cases_Bool (element e)) [
              | inl begins ↦
                  let number : slice_get (numbers_where element n (e ∷ rest)) j
                  ≡ slice_get (n ∷ numbers_where element (suc n) rest) j = rw begins refl in
                  meets_same entries steps tail stop (scan (e ∷ rest) (waits (waiting j))) (scan (e ∷ rest) (waits (waiting j)))
                  (slice_get (numbers_where stop n (e ∷ rest)) 0) (slice_get (numbers_where stop (suc n) rest) 0)
                  (slice_get (numbers_where element n (e ∷ rest)) j)
                  (slice_get (n ∷ numbers_where element (suc n) rest) j) refl pair number
                  (begun n e rest next.0 next.1 (λ i. turns e i ∙ rw (goes, begins) refl) later j)
              | inr other ↦
                  let number : slice_get (numbers_where element n (e ∷ rest)) j
                  ≡ slice_get (numbers_where element (suc n) rest) j = rw other refl in
                  let stays : turn_by e (waiting j) ≡ missing (waiting j) = turns e j ∙ rw (goes, other) refl in
                  meets_same entries steps tail stop (scan (e ∷ rest) (waits (waiting j))) (scan rest (waits (waiting j)))
                  (slice_get (numbers_where stop n (e ∷ rest)) 0) (slice_get (numbers_where stop (suc n) rest) 0)
                  (slice_get (numbers_where element n (e ∷ rest)) j) (slice_get (numbers_where element (suc n) rest) j)
                  (scan_missing e rest (waiting j) (waiting j) stays) pair number (later j)
            ]
      ]
