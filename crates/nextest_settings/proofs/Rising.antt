-- The rules that are evaluated are a strictly rising list of numbers of rules that have a filter.
use Rattle.std.proofs.Common.{◌≡◌, ℕ, zero, suc, ◌+◌, ◌≤◌, Bool, true, false, Option, Some, None, option_map, List, [], ◌∷◌, ◌++◌, length, map, refl, ap, ◌∙◌, is_some, ◌&&◌, if◌then◌else◌, slice_get, arith, append_assoc, append-nil, length-append}
use Rattle.std.proofs.Math.ListN.{length-map}
use Rattle.std.proofs.lemmas.Option.{slice_get-map}
use Rattle.nextest_settings.specs.Deciding.{QueryContext, Rising, HasFilterAt, asked_from, is_asked}
use Rattle.nextest_settings.specs.Platforms.{EvaluatedRule}

and-first : (a b : Bool) → a && b ≡ true → a ≡ true
and-first true b e = refl
and-first false b e = absurd cc

looser : (P : ℕ → Type 0) (m n : ℕ) (ns : List ℕ) → m ≤ n → Rising P n ns → Rising P m ns
looser P m n [] le h = tt
looser P m n (k ∷ ns) le h = (omega (arith, h.0), h.1, h.2)

at_end : {X : Type 0} (before rest : List X) (x : X) → slice_get (before ++ x ∷ rest) (length before) ≡ Some x
at_end [] rest x = refl
at_end (y ∷ before) rest x = at_end before rest x

-- each number of rules with a filter is one of P, counted on from the first, and so is what follows
module _ {M W : Type 0} (things : List (W → Bool)) (query : QueryContext M) (first : ℕ)
    (all : List (EvaluatedRule M W)) (P : ℕ → Type 0) (tail : List ℕ)
    (has : (n : ℕ) (r : EvaluatedRule M W) → slice_get all n ≡ Some r → is_some r.filter ≡ true
    → P (first + n)) (after : Rising P (first + length all) tail) where
  one : (before rest : List (EvaluatedRule M W)) (r : EvaluatedRule M W) (ns : List ℕ)
      → before ++ r ∷ rest ≡ all → Rising P (first + length before + 1) (ns ++ tail)
      → (b : Bool) → is_asked things query before r ≡ b
      → Rising P (first + length before) (((if b then (first + length before) ∷ [] else []) ++ ns) ++ tail)
  one before rest r ns e more true is =
      let at : slice_get all (length before) ≡ Some r = rw (← e) (at_end before rest r) in
      (omega arith, has (length before) r at (and-first _ _ is), more)
  one before rest r ns e more false is =
      looser P (first + length before) (first + length before + 1) (ns ++ tail) (omega arith) more

  pub rising : (before rest : List (EvaluatedRule M W)) → before ++ rest ≡ all
      → Rising P (first + length before) (asked_from things first query before rest ++ tail)
  rising before [] e = rw (← e, append-nil before) at after
  rising before (r ∷ rest) e =
      let next : (before ++ r ∷ []) ++ rest ≡ all = append_assoc before (r ∷ []) rest ∙ e in
      let len : first + length (before ++ r ∷ []) ≡ first + length before + 1 =
      rw (length-append before (r ∷ [])) (omega arith) in
      one before rest r (asked_from things first query (before ++ r ∷ []) rest) e
      (rw len at (rising (before ++ r ∷ []) rest next)) (is_asked things query before r) refl

-- the filters of two lists of rules, one after the other
module _ {M W V : Type 0} (rules : List (EvaluatedRule M W)) (others : List (EvaluatedRule M V)) where
  filter_there : {X : Type 0} (filter : X → Option M) (xs : List X) (n : ℕ) (x : X) → slice_get xs n ≡ Some x
      → is_some (filter x) ≡ true → HasFilterAt (map filter xs) n
  filter_there filter xs n x at some = there (filter x) refl some where
    there : (o : Option M) → filter x ≡ o → is_some o ≡ true → HasFilterAt (map filter xs) n
    there (Some m) is some = (m, slice_get-map filter xs n ∙ ap (option_map filter) at ∙ ap Some is)
    there None is some = absurd cc

  left : (xs ys : List (Option M)) (n : ℕ) → HasFilterAt xs n → HasFilterAt (xs ++ ys) n
  left [] ys n h = absurd (none h.1) where
    none : {X : Type 0} {x : X} → None ≡ Some x → ⊥
    none e = cc
  left (x ∷ xs) ys zero h = h
  left (x ∷ xs) ys (suc n) h = left xs ys n h

  right : (xs ys : List (Option M)) (n : ℕ) → HasFilterAt ys n → HasFilterAt (xs ++ ys) (length xs + n)
  right [] ys n h =
      let same : 0 + n ≡ n = omega arith in
      rw same h
  right (x ∷ xs) ys n h =
      let same : suc (length xs) + n ≡ suc (length xs + n) = omega arith in
      rw same (right xs ys n h)

  abbrev filters : List (Option M)
  filters = map (λ r. r.filter) rules ++ map (λ r. r.filter) others

  pub first_has : (n : ℕ) (r : EvaluatedRule M W) → slice_get rules n ≡ Some r → is_some r.filter ≡ true
      → HasFilterAt filters (0 + n)
  first_has n r at some =
      let same : 0 + n ≡ n = omega arith in
      rw same (left (map (λ r. r.filter) rules) (map (λ r. r.filter) others) n
      (filter_there (λ r. r.filter) rules n r at some))

  pub other_has : (n : ℕ) (r : EvaluatedRule M V) → slice_get others n ≡ Some r → is_some r.filter ≡ true
      → HasFilterAt filters (length rules + n)
  other_has n r at some =
      let same : length (map (λ r. r.filter) rules) ≡ length rules = length-map rules (λ r. r.filter) in
      rw (← same) (right (map (λ r. r.filter) rules) (map (λ r. r.filter) others) n
      (filter_there (λ r. r.filter) others n r at some))

  module _ (things : List (W → Bool)) (more : List (V → Bool)) (query : QueryContext M) where
    pub others_rise : Rising (HasFilterAt filters) (length rules) (asked_from more (length rules) query [] others)
    others_rise =
        let start : length rules + 0 ≡ length rules = omega arith in
        let h : Rising (HasFilterAt filters) (length rules + 0)
        (asked_from more (length rules) query [] others ++ []) =
        rising more query (length rules) others (HasFilterAt filters) [] other_has tt [] others refl in
        rw (start, append-nil (asked_from more (length rules) query [] others)) at h

    pub all_rise : Rising (HasFilterAt filters) 0
        (asked_from things 0 query [] rules ++ asked_from more (length rules) query [] others)
    all_rise =
        let start : 0 + length rules ≡ length rules = omega arith in
        rising things query 0 rules (HasFilterAt filters) (asked_from more (length rules) query [] others)
        first_has (rw start others_rise) [] rules refl
