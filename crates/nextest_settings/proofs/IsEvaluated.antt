-- Exactly the rules are evaluated that have a filter, whose platforms hold, and that write something
-- which no lower rule decides.
use Rattle.std.proofs.Common.{◌≡◌, ◌∙◌, ◌⊎◌, inl, inr, ℕ, zero, suc, ◌+◌, ◌<◌, ◌≤◌, Bool, true, false, cond, Option, Some, None, List, [], ◌∷◌, ◌++◌, length, map, take, find, filter, refl, ap, sym, subst, is_some, is_none, ◌||◌, ◌&&◌, if◌then◌else◌, slice_get, slice_index_or, arith, append_assoc, append-nil, length-append}
use Rattle.std.proofs.lemmas.List.Elements.{Contains-append_left, Contains-append_right, Contains-append_cases}
use Rattle.std.proofs.lemmas.List.Sums.{length-filter, sum_by-append}
use Rattle.std.specs.List.{Contains, list_any, count_by}
use Rattle.nextest_settings.specs.Deciding.{QueryContext, decides, winner, is_asked, asked_from, IsEvaluated}
use Rattle.nextest_settings.specs.Platforms.{EvaluatedRule, is_on}
use Rattle.nextest_settings.proofs.StandsFirst.{find-none}

and_parts : (a b : Bool) → a && b ≡ true → (a ≡ true) × (b ≡ true)
and_parts true b e = (refl, e)
and_parts false b e = absurd cc

and_of : (a b : Bool) → a ≡ true → b ≡ true → a && b ≡ true
and_of true b e f = f
and_of false b e f = absurd cc

or_right : (a b : Bool) → b ≡ true → a || b ≡ true
or_right true b e = refl
or_right false b e = e

none_of : {X : Type 0} (o : Option X) → is_none o ≡ true → o ≡ None
none_of None e = refl
none_of (Some x) e = absurd cc

none_found : {X : Type 0} (passes : X → Bool) (xs : List X)
    → ((n : ℕ) (x : X) → slice_get xs n ≡ Some x → passes x ≡ false) → find passes xs ≡ None
none_found passes [] fails = refl
none_found passes (x ∷ xs) fails =
    let first : passes x ≡ false = fails 0 x refl in
    rw first (none_found passes xs (λ n y at. fails (suc n) y at))

taken : {X : Type 0} (xs : List X) (k n : ℕ) (x : X) → slice_get (take k xs) n ≡ Some x
    → (n < k) × (slice_get xs n ≡ Some x)
taken xs zero n x at = absurd cc
taken [] (suc k) n x at = absurd cc
taken (y ∷ ys) (suc k) zero x at = (omega arith, at)
taken (y ∷ ys) (suc k) (suc n) x at =
    let h = taken ys k n x at in
    (omega (arith, h.0), h.1)

in_taken : {X : Type 0} (xs : List X) (k n : ℕ) (x : X) → n < k → slice_get xs n ≡ Some x
    → slice_get (take k xs) n ≡ Some x
in_taken xs zero n x lt at = absurd (omega (arith, lt))
in_taken [] (suc k) n x lt at = at
in_taken (y ∷ ys) (suc k) zero x lt at = at
in_taken (y ∷ ys) (suc k) (suc n) x lt at = in_taken ys k n x (omega (arith, lt)) at

alone : (m n : ℕ) → Contains (m ∷ []) n → n ≡ m
alone m n there = at there.0 there.1 there.2 where
  at : (k : ℕ) → k < length (m ∷ []) → slice_index_or (m ∷ []) k n ≡ n → n ≡ m
  at zero lt is = sym is
  at (suc k) lt is = absurd (omega (arith, lt))

-- the things among which those are looked for that a rule writes
module _ {T M W : Type 0} (writes : T → W → Bool) (ts : List T) (query : QueryContext M) where
  abbrev things : List (W → Bool)
  things = map writes ts

  -- a thing that passes a test
  some_thing : (p : (W → Bool) → Bool) (ss : List T) → list_any p (map writes ss) ≡ true
      → (t : T) × (p (writes t) ≡ true)
  some_thing p [] e = absurd cc
  some_thing p (t ∷ ss) e = at (p (writes t)) refl (some_thing p ss) e where
    at : (b : Bool) → p (writes t) ≡ b → (list_any p (map writes ss) ≡ true → (s : T) × (p (writes s) ≡ true))
        → b || list_any p (map writes ss) ≡ true → (s : T) × (p (writes s) ≡ true)
    at true is rest e = (t, is)
    at false is rest e = rest e

  thing_there : (p : (W → Bool) → Bool) (ss : List T) (n : ℕ) (t : T) → slice_get ss n ≡ Some t
      → p (writes t) ≡ true → list_any p (map writes ss) ≡ true
  thing_there p [] n t at is = absurd cc
  thing_there p (s ∷ ss) zero t at is =
      let same : s ≡ t = cc in
      let head : p (writes s) ≡ true = rw same is in
      rw head refl
  thing_there p (s ∷ ss) (suc n) t at is =
      or_right (p (writes s)) (list_any p (map writes ss)) (thing_there p ss n t at is)

  -- a number is that of a rule which is asked
  abbrev Found : ℕ → List (EvaluatedRule M W) → List (EvaluatedRule M W) → ℕ → Type 0
  Found first before rest n =
      (k : ℕ) × (r : EvaluatedRule M W) × (slice_get rest k ≡ Some r) × (n ≡ first + length before + k)
      × (is_asked things query (before ++ take k rest) r ≡ true)

  found_head : (first : ℕ) (before rest : List (EvaluatedRule M W)) (n : ℕ) (r : EvaluatedRule M W) (b : Bool)
      → is_asked things query before r ≡ b
      → Contains (if b then (first + length before) ∷ [] else []) n → Found first before (r ∷ rest) n
  found_head first before rest n r true is here =
      let same : n ≡ first + length before = alone (first + length before) n here in
      (0, r, refl, omega (arith, same), subst (λ l. is_asked things query l r ≡ true) (sym (append-nil before)) is)
  found_head first before rest n r false is here = absurd (omega (arith, here.1))

  found_rest : (first : ℕ) (before rest : List (EvaluatedRule M W)) (n : ℕ) (r : EvaluatedRule M W)
      → Found first (before ++ r ∷ []) rest n → Found first before (r ∷ rest) n
  found_rest first before rest n r h =
      let len : length (before ++ r ∷ []) ≡ length before + 1 = length-append before (r ∷ []) in (
        suc h.0,
        h.1,
        h.2,
        omega (arith, len, h.3),
        subst (λ l. is_asked things query l h.1 ≡ true)
            (append_assoc before (r ∷ []) (take h.0 rest)) h.4,
      )

  -- each number that is asked is one
  inside : (first : ℕ) (before rest : List (EvaluatedRule M W)) (n : ℕ)
      → Contains (asked_from things first query before rest) n → Found first before rest n
  inside first before [] n there = absurd (omega (arith, there.1))
  inside first before (r ∷ rest) n there =
      elim (Contains-append_cases
      (if is_asked things query before r then (first + length before) ∷ [] else [])
      (asked_from things first query (before ++ r ∷ []) rest) n there) [
        | inl here ↦ found_head first before rest n r (is_asked things query before r) refl here
        | inr later ↦ found_rest first before rest n r (inside first (before ++ r ∷ []) rest n later)
      ]

  -- and the number of each rule that is asked is among them
  outside : (first : ℕ) (before rest : List (EvaluatedRule M W)) (k : ℕ) (r : EvaluatedRule M W) (n : ℕ)
      → slice_get rest k ≡ Some r → n ≡ first + length before + k
      → is_asked things query (before ++ take k rest) r ≡ true → Contains (asked_from things first query before rest) n
  outside first before [] k r n at is asked = absurd cc
  outside first before (q ∷ rest) zero r n at is asked =
      let same : r ≡ q = cc in
      let now : is_asked things query before q ≡ true =
      subst (λ l. is_asked things query l q ≡ true) (append-nil before)
      (subst (λ x. is_asked things query (before ++ []) x ≡ true) same asked) in
      let eq : first + length before ≡ n = omega (arith, is) in
      let here : Contains ((first + length before) ∷ []) n = (0, omega arith, eq) in
      Contains-append_left (if is_asked things query before q then (first + length before) ∷ [] else [])
      (asked_from things first query (before ++ q ∷ []) rest) n
      (subst (λ b. Contains (if b then (first + length before) ∷ [] else []) n) (sym now) here)
  outside first before (q ∷ rest) (suc k) r n at is asked =
      let len : length (before ++ q ∷ []) ≡ length before + 1 = length-append before (q ∷ []) in
      Contains-append_right (if is_asked things query before q then (first + length before) ∷ [] else [])
      (asked_from things first query (before ++ q ∷ []) rest) n
      (outside first (before ++ q ∷ []) rest k r n at (omega (arith, len, is))
      (subst (λ l. is_asked things query l r ≡ true) (sym (append_assoc before (q ∷ []) (take k rest))) asked))

  module _ (rules : List (EvaluatedRule M W)) where
    asked_is : (k : ℕ) (r : EvaluatedRule M W) → slice_get rules k ≡ Some r
        → is_asked things query (take k rules) r ≡ true → IsEvaluated writes query rules k
    asked_is k r at asked =
        let filter = and_parts (is_some r.filter)
        (is_on r query.platform && list_any
        (λ wants. is_none (winner query wants (take k rules)) && wants r.writes) things) asked in
        let on = and_parts (is_on r query.platform)
        (list_any (λ wants. is_none (winner query wants (take k rules)) && wants r.writes) things) filter.1 in
        let thing = some_thing (λ wants. is_none (winner query wants (take k rules)) && wants r.writes) ts on.1 in
        let open_one = and_parts (is_none (winner query (writes thing.0) (take k rules)))
        (writes thing.0 r.writes) thing.1 in
        record {
          rule = r;
          stands = at;
          has_filter = filter.0;
          platforms_hold = on.0;
          thing = thing.0;
          written = open_one.1;
          undecided = λ n lower lt at_n. find-none (decides query (writes thing.0)) (take k rules) n lower
              (none_of (winner query (writes thing.0) (take k rules)) open_one.0) (in_taken rules k n lower lt at_n);
        }

    module _ (all : (t : T) → (n : ℕ) × (slice_get ts n ≡ Some t)) where
      is_asked_at : (k : ℕ) → (e : IsEvaluated writes query rules k)
          → is_asked things query (take k rules) e.rule ≡ true
      is_asked_at k e =
          let place = all e.thing in
          let none : winner query (writes e.thing) (take k rules) ≡ None =
          none_found (decides query (writes e.thing)) (take k rules)
          (λ n lower at. e.undecided n lower (taken rules k n lower at).0 (taken rules k n lower at).1) in
          let wanted : is_none (winner query (writes e.thing) (take k rules)) && writes e.thing e.rule.writes
          ≡ true = and_of (is_none (winner query (writes e.thing) (take k rules)))
          (writes e.thing e.rule.writes) (ap is_none none) e.written in
          and_of (is_some e.rule.filter)
          (is_on e.rule query.platform
          && list_any (λ wants. is_none (winner query wants (take k rules)) && wants e.rule.writes)
          things) e.has_filter
          (and_of (is_on e.rule query.platform)
          (list_any (λ wants. is_none (winner query wants (take k rules)) && wants e.rule.writes) things)
          e.platforms_hold
          (thing_there (λ wants. is_none (winner query wants (take k rules)) && wants e.rule.writes) ts
          place.0 e.thing place.1 wanted))

      -- the numbers that are asked are those of the rules that are evaluated, counted on from the first
      pub asked_evaluated : (first n : ℕ) → Contains (asked_from things first query [] rules) n
          → (k : ℕ) × (n ≡ first + k) × IsEvaluated writes query rules k
      asked_evaluated first n there =
          let h = inside first [] rules n there in
          let count : n ≡ first + 0 + h.0 = h.3 in
          (h.0, omega (arith, count), asked_is h.0 h.1 h.2 h.4)

      pub evaluated_asked : (first n k : ℕ) → n ≡ first + k → IsEvaluated writes query rules k
          → Contains (asked_from things first query [] rules) n
      evaluated_asked first n k is e =
          let count : n ≡ first + 0 + k = omega (arith, is) in
          outside first [] rules k e.rule n e.stands count (is_asked_at k e)

-- two lists of rules, numbered one after the other
module _ {T U M W V : Type 0} (writes : T → W → Bool) (ts : List T)
    (all : (t : T) → (n : ℕ) × (slice_get ts n ≡ Some t)) (others_write : U → V → Bool) (us : List U)
    (every : (u : U) → (n : ℕ) × (slice_get us n ≡ Some u))
    (query : QueryContext M) (rules : List (EvaluatedRule M W)) (others : List (EvaluatedRule M V)) (n : ℕ) where
  abbrev Numbered : Type 0
  Numbered = IsEvaluated writes query rules n
      ⊎ ((k : ℕ) × (n ≡ length rules + k) × IsEvaluated others_write query others k)

  pub both_evaluated : Contains
      (asked_from (map writes ts) 0 query [] rules
      ++ asked_from (map others_write us) (length rules) query [] others) n → Numbered
  both_evaluated there =
      elim (Contains-append_cases (asked_from (map writes ts) 0 query [] rules)
      (asked_from (map others_write us) (length rules) query [] others) n there) [
        | inl here ↦
            let h = asked_evaluated writes ts query rules all 0 n here in
            let same : h.0 ≡ n = omega (arith, h.1) in
            inl (subst (λ m. IsEvaluated writes query rules m) same h.2)
        | inr later ↦ inr (asked_evaluated others_write us query others every (length rules) n later)
      ]

  pub evaluated_both : Numbered
      → Contains (asked_from (map writes ts) 0 query [] rules
      ++ asked_from (map others_write us) (length rules) query [] others) n
  evaluated_both h =
      elim h [
        | inl e ↦ Contains-append_left (asked_from (map writes ts) 0 query [] rules)
            (asked_from (map others_write us) (length rules) query [] others) n
            (evaluated_asked writes ts query rules all 0 n n (omega arith) e)
        | inr e ↦ Contains-append_right (asked_from (map writes ts) 0 query [] rules)
            (asked_from (map others_write us) (length rules) query [] others) n
            (evaluated_asked others_write us query others every (length rules) n e.0 e.1 e.2)
      ]

-- how many are evaluated
module _ {M W : Type 0} (things : List (W → Bool)) (query : QueryContext M) (first : ℕ) where
  asked_has : (before : List (EvaluatedRule M W)) (r : EvaluatedRule M W)
      → is_asked things query before r ≡ true → is_some r.filter ≡ true
  asked_has before r asked =
      (and_parts (is_some r.filter)
      (is_on r query.platform && list_any (λ wants. is_none (winner query wants before) && wants r.writes)
      things) asked).0

  one : (b c : Bool) → (b ≡ true → c ≡ true)
      → (m : ℕ) (ns : List ℕ) (r : EvaluatedRule M W) (rs : List (EvaluatedRule M W)) → length ns ≤ length rs
      → length ((if b then m ∷ [] else []) ++ ns) ≤ length (cond c (r ∷ rs) rs)
  one true true has m ns r rs le = omega (arith, le)
  one true false has m ns r rs le =
      let no : false ≡ true = has refl in
      absurd cc
  one false true has m ns r rs le = omega (arith, le)
  one false false has m ns r rs le = le

  few : (before rest : List (EvaluatedRule M W))
      → length (asked_from things first query before rest) ≤ length (filter (λ r. is_some r.filter) rest)
  few before [] = omega arith
  few before (r ∷ rest) =
      one (is_asked things query before r) (is_some r.filter) (asked_has before r) (first + length before)
      (asked_from things first query (before ++ r ∷ []) rest) r (filter (λ r. is_some r.filter) rest)
      (few (before ++ r ∷ []) rest)

  with_filters : (rules : List (EvaluatedRule M W))
      → length (filter (λ r. is_some r.filter) rules) ≡ length (filter is_some (map (λ r. r.filter) rules))
  with_filters [] = refl
  with_filters (r ∷ rules) =
      elim (is_some r.filter) as
      (λ b. length (cond b (r ∷ filter (λ r. is_some r.filter) rules)
      (filter (λ r. is_some r.filter) rules))
      ≡ length (cond b (r.filter ∷ filter is_some (map (λ r. r.filter) rules))
      (filter is_some (map (λ r. r.filter) rules)))) [
        | true ↦ ap suc (with_filters rules)
        | false ↦ with_filters rules
      ]

  pub asked_count : (rules : List (EvaluatedRule M W))
      → length (asked_from things first query [] rules) ≤ count_by is_some (map (λ r. r.filter) rules)
  asked_count rules =
      subst (λ n. length (asked_from things first query [] rules) ≤ n)
      (with_filters rules ∙ length-filter is_some (map (λ r. r.filter) rules)) (few [] rules)

-- how many are evaluated of two lists of rules
pub both_count : {M W V : Type 0} (things : List (W → Bool)) (more : List (V → Bool)) (query : QueryContext M)
    (rules : List (EvaluatedRule M W)) (others : List (EvaluatedRule M V))
    → length (asked_from things 0 query [] rules ++ asked_from more (length rules) query [] others) ≤ count_by
    is_some (map (λ r. r.filter) rules ++ map (λ r. r.filter) others)
both_count things more query rules others =
    let some : Option _ → ℕ = λ o. cond (is_some o) 1 0 in
    let total = sum_by-append some (map (λ r. r.filter) rules) (map (λ r. r.filter) others) in
    let long = length-append (asked_from things 0 query [] rules) (asked_from more (length rules) query [] others) in
    omega (arith, total, long, asked_count things query 0 rules, asked_count more query (length rules) others)
