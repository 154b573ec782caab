use Rattle.std.proofs.Common.{◌≡◌, ℕ, ◌+◌, ◌-◌, ◌*◌, ◌%◌, ◌^◌, ◌≤◌, ◌<◌, ◌≢◌, suc, Bool, true, false, Option, Some, None, is_none, option_and_then, IfSome, List, [], ◌∷◌, ◌++◌, length, map, refl, ap, sym, ◌∙◌, ◌&&◌, ◌||◌, if◌then◌else◌, arith, append_assoc, append-nil, length-append, add-zero, get_or, drop, subst, slice_get, IsTrue}
use Rattle.std.specs.Prelude.{bit_and, bit_xor}
use Rattle.std.specs.List.{list_any}
use Rattle.std.specs.Option.{option_or}
use Rattle.std.proofs.lemmas.List.Folds.{find-append}
use Rattle.std.proofs.lemmas.List.{length-map}
use Rattle.std.proofs.lemmas.Grind.{common_steps}
use Rattle.std.proofs.Math.Pow.{pow-lt}
use Rattle.std.proofs.lemmas.Nat.{xor_block}
use Rattle.rule_lists.specs.declared.rows.Row.{Row}
use Rattle.rule_lists.specs.Lists.{AreKnown, HaveAnswers, first_of, firsts, is_wanted, asked_from}
use Rattle.rule_lists.specs.Rows.{bits_of, lists_of, lists_in, row_of, rows_of, settled}
use Rattle.rule_lists.proofs.Bits.{bit, bit-lt, halved, bits-and, zero-none, none-zero}

-- the lists in which none was found
abbrev pub open_in : {R : Type 0} → List (Option R) → ℕ
open_in found = bits_of (map is_none found)

or-false : (a b : Bool) → a || b ≡ false → (a ≡ false) × (b ≡ false)
or-false true b e = absurd cc
or-false false b e = (refl, e)

and-true : (b : Bool) → b && true ≡ b
and-true true = refl
and-true false = refl

module _ {R : Type 0} (met : R → Bool) where
  -- whether none was found for a test
  abbrev none : List R → (R → Bool) → Bool
  none before t = is_none (first_of met t before)

  none-flags : (tests : List (R → Bool)) (before : List R)
      → map is_none (firsts met tests before) ≡ map (λ t. none before t) tests
  none-flags [] before = refl
  none-flags (t ∷ tests) before = rw (none-flags tests before) refl

  first-push : (t : R → Bool) (before : List R) (r : R)
      → first_of met t (before ++ r ∷ []) ≡ option_or (first_of met t before) (if t r && met r then Some r else None)
  first-push t before r = find-append (λ q. t q && met q) before (r ∷ [])

  module _ (before : List R) (r : R) where
    -- a rule that is not wanted changes nothing
    found-one : (t : R → Bool) (o : Option R) (b : Bool) → first_of met t before ≡ o → t r ≡ b → is_none o && b ≡ false
        → first_of met t before ≡ first_of met t (before ++ r ∷ [])
    found-one t None true is_o is_b e = absurd cc
    found-one t None false is_o is_b e = rw (first-push t before r, is_o, is_b) refl
    found-one t (Some x) b is_o is_b e = rw (first-push t before r, is_o) refl

    pub found-same : (tests : List (R → Bool)) → is_wanted met tests before r ≡ false
        → firsts met tests before ≡ firsts met tests (before ++ r ∷ [])
    found-same [] e = refl
    found-same (t ∷ tests) e =
        let both = or-false (none before t && t r) (is_wanted met tests before r) e in
        rw (← found-one t (first_of met t before) (t r) refl refl both.0, found-same tests both.1) refl

    -- nor does one that is not met
    unmet-one : (t : R → Bool) (o : Option R) (b : Bool) → first_of met t before ≡ o → t r ≡ b → met r ≡ false
        → first_of met t before ≡ first_of met t (before ++ r ∷ [])
    unmet-one t None true is_o is_b fails = rw (first-push t before r, is_o, is_b, fails) refl
    unmet-one t None false is_o is_b fails = rw (first-push t before r, is_o, is_b) refl
    unmet-one t (Some x) b is_o is_b fails = rw (first-push t before r, is_o) refl

    pub found-unmet : met r ≡ false → (tests : List (R → Bool))
        → firsts met tests before ≡ firsts met tests (before ++ r ∷ [])
    found-unmet fails [] = refl
    found-unmet fails (t ∷ tests) =
        rw (← unmet-one t (first_of met t before) (t r) refl refl fails, found-unmet fails tests) refl

    -- the lists of a rule in which none was found
    pub wanted-bits : (tests : List (R → Bool))
        → bit_and (open_in (firsts met tests before)) (lists_of tests r)
        ≡ bits_of (map (λ t. none before t && t r) tests)
    wanted-bits tests = rw (none-flags tests before) (bits-and (λ t. none before t) (λ t. t r) tests)

    -- one that is met is found there
    met-one : (t : R → Bool) (o : Option R) (b : Bool) → first_of met t before ≡ o → t r ≡ b → met r ≡ true
        → (if none before t && t r then Some r else first_of met t before) ≡ first_of met t (before ++ r ∷ [])
    met-one t None true is_o is_b holds = rw (first-push t before r, is_o, is_b, holds) refl
    met-one t None false is_o is_b holds = rw (first-push t before r, is_o, is_b) refl
    met-one t (Some x) b is_o is_b holds = rw (first-push t before r, is_o) refl

    pub found-met : met r ≡ true → (tests : List (R → Bool))
        → settled r (bits_of (map (λ t. none before t && t r) tests)) (firsts met tests before)
        ≡ firsts met tests (before ++ r ∷ [])
    found-met holds [] = refl
    found-met holds (t ∷ tests) =
        let half = halved (bits_of (map (λ t. none before t && t r) tests)) (none before t && t r) in
        rw (half.0, half.1, met-one t (first_of met t before) (t r) refl refl holds, found-met holds tests) refl

    xor-one : (t : R → Bool) (o : Option R) (b : Bool) → first_of met t before ≡ o → t r ≡ b → met r ≡ true
        → bit_xor (bit (none before t)) (bit (none before t && t r)) ≡ bit (none (before ++ r ∷ []) t)
    xor-one t None true is_o is_b holds = rw (first-push t before r, is_o, is_b, holds) refl
    xor-one t None false is_o is_b holds = rw (first-push t before r, is_o, is_b) refl
    xor-one t (Some x) b is_o is_b holds = rw (first-push t before r, is_o) refl

    open-flags : met r ≡ true → (tests : List (R → Bool))
        → bit_xor (bits_of (map (λ t. none before t) tests)) (bits_of (map (λ t. none before t && t r) tests))
        ≡ bits_of (map (λ t. none (before ++ r ∷ []) t) tests)
    open-flags holds [] = refl
    open-flags holds (t ∷ tests) =
        xor_block 1 (bits_of (map (λ t. none before t) tests))
        (bits_of (map (λ t. none before t && t r) tests)) (bit (none before t)) (bit (none before t && t r))
        (bit-lt (none before t)) (bit-lt (none before t && t r))
        ∙ rw (open-flags holds tests, xor-one t (first_of met t before) (t r) refl refl holds) refl

    pub open-met : met r ≡ true → (tests : List (R → Bool))
        → bit_xor (open_in (firsts met tests before)) (bits_of (map (λ t. none before t && t r) tests))
        ≡ open_in (firsts met tests (before ++ r ∷ []))
    open-met holds tests = rw (none-flags tests before, none-flags tests (before ++ r ∷ [])) (open-flags holds tests)

    -- whether a rule is wanted, by its bits
    pub unwanted : (tests : List (R → Bool))
        → bit_and (open_in (firsts met tests before)) (lists_of tests r) ≡ 0 → is_wanted met tests before r ≡ false
    unwanted tests e = zero-none (λ t. none before t && t r) tests (sym (wanted-bits tests) ∙ e)

    pub wanted : (tests : List (R → Bool))
        → bit_and (open_in (firsts met tests before)) (lists_of tests r) ≢ 0 → is_wanted met tests before r ≡ true
    wanted tests e = go (is_wanted met tests before r) refl where
      go : (b : Bool) → is_wanted met tests before r ≡ b → is_wanted met tests before r ≡ true
      go true is = is
      go false is = absurd (e (wanted-bits tests ∙ none-zero (λ t. none before t && t r) tests is))

    -- a rule in no list is not wanted
    unlisted : (tests : List (R → Bool)) → list_any (λ t. t r) tests ≡ false → is_wanted met tests before r ≡ false
    unlisted [] e = refl
    unlisted (t ∷ tests) e =
        let both = or-false (t r) (list_any (λ t. t r) tests) e in
        rw (both.0, unlisted tests both.1)
        (elim (none before t) as (λ b. (b && false) || false ≡ false) [ true ↦ refl | false ↦ refl ])

    -- a rule that is wanted is in some list
    pub listed : (tests : List (R → Bool)) → is_wanted met tests before r ≡ true → IsTrue (list_any (λ t. t r) tests)
    listed tests e = go (list_any (λ t. t r) tests) refl where
      clash : true ≡ false → ⊥
      clash e = absurd cc

      go : (b : Bool) → list_any (λ t. t r) tests ≡ b → IsTrue b
      go true is = refl
      go false is = absurd (clash (sym e ∙ unlisted tests is))

    -- whether some list is open that has one of these rules
    abbrev opens : List (R → Bool) → List R → List R → Bool
    opens tests done rest = list_any (λ t. none done t && list_any t rest) tests

    shut-one : (n b any wanted opens : Bool) → (n && (b || any)) || opens ≡ false
        → (opens ≡ false → wanted ≡ false) → (n && b) || wanted ≡ false
    shut-one false b any wanted opens e more = more e
    shut-one true false any wanted opens e more = let both = or-false any opens e in more both.1
    shut-one true true any wanted opens e more = absurd cc

    shut-unwanted : (tests : List (R → Bool)) (rest : List R) → opens tests before (r ∷ rest) ≡ false
        → is_wanted met tests before r ≡ false
    shut-unwanted [] rest e = refl
    shut-unwanted (t ∷ tests) rest e =
        shut-one (none before t) (t r) (list_any t rest) (is_wanted met tests before r)
        (opens tests before (r ∷ rest)) e (shut-unwanted tests rest)

  shut-rest : (n b any opens : Bool) → (n && (b || any)) || opens ≡ false → (n && any ≡ false) × (opens ≡ false)
  shut-rest false b any opens e = (refl, e)
  shut-rest true false any opens e = or-false any opens e
  shut-rest true true any opens e = absurd cc

  shut-next : (before rest : List R) (r : R) (tests : List (R → Bool))
      → list_any (λ t. none before t && list_any t (r ∷ rest)) tests ≡ false
      → list_any (λ t. none before t && list_any t rest) tests ≡ false
  shut-next before rest r [] e = refl
  shut-next before rest r (t ∷ tests) e =
      let both = shut-rest (none before t) (t r) (list_any t rest)
      (list_any (λ t. none before t && list_any t (r ∷ rest)) tests) e in
      rw (both.0, shut-next before rest r tests both.1) refl

-- what is left to walk, once the rules `before` are done
pub record Stands {R : Type 0} (asks met : R → Bool) (tests : List (R → Bool)) (first : ℕ) (rules : List R)
    (left : List Row) (found : List (Option R)) (unset : ℕ) (told started : List ℕ) : Type 0 where
  pub before : List R
  pub rest : List R
  pub whole : before ++ rest ≡ rules
  pub left_is : left ≡ rows_of tests (first + length before) rest
  pub found_is : found ≡ firsts met tests before
  pub open_is : unset ≡ open_in found
  pub told_is : told ++ asked_from asks met tests (first + length before) before rest ≡ started
      ++ asked_from asks met tests first [] rules

-- the next row is that of a rule before which no rule is wanted
pub record Reached {R : Type 0} (asks met : R → Bool) (tests : List (R → Bool)) (n : ℕ) (before rest : List R)
    (row : Row) (more : List Row) : Type 0 where
  pub upto : List R
  pub rule : R
  pub onward : List R
  pub m : ℕ
  pub whole : upto ++ rule ∷ onward ≡ before ++ rest
  pub number : m + length before ≡ n + length upto
  pub row_is : row ≡ row_of tests m rule onward
  pub more_is : more ≡ rows_of tests (m + 1) onward
  pub found : firsts met tests before ≡ firsts met tests upto
  pub told : asked_from asks met tests n before rest ≡ asked_from asks met tests m upto (rule ∷ onward)

module _ {R : Type 0} (asks met : R → Bool) (tests : List (R → Bool)) where
  told-unwanted : (n : ℕ) (before rest : List R) (r : R) → is_wanted met tests before r ≡ false
      → asked_from asks met tests n before (r ∷ rest) ≡ asked_from asks met tests (n + 1) (before ++ r ∷ []) rest
  told-unwanted n before rest r e =
      rw e (elim (asks r) as (λ b. (if b && false then n ∷ [] else [])
      ++ asked_from asks met tests (n + 1) (before ++ r ∷ []) rest
      ≡ asked_from asks met tests (n + 1) (before ++ r ∷ []) rest) [ true ↦ refl | false ↦ refl ])

  told-wanted : (n : ℕ) (before rest : List R) (r : R) → is_wanted met tests before r ≡ true
      → asked_from asks met tests n before (r ∷ rest) ≡ (if asks r then n ∷ [] else [])
      ++ asked_from asks met tests (n + 1) (before ++ r ∷ []) rest
  told-wanted n before rest r e = rw (e, and-true (asks r)) refl

  -- no open list has a rule that is left
  pub shut : (n : ℕ) (before rest : List R) → list_any (λ t. none met before t && list_any t rest) tests ≡ false
      → (firsts met tests before ≡ firsts met tests (before ++ rest)) × (asked_from asks met tests n before rest ≡ [])
  shut n before [] e = (rw (append-nil before) refl, refl)
  shut n before (r ∷ rest) e =
      let is = shut-unwanted met before r tests rest e in
      let same = found-same met before r tests is in
      let later = shut (n + 1) (before ++ r ∷ []) rest (still tests same (shut-next met before rest r tests e)) in (
        same ∙ later.0 ∙ ap (λ (l : List R). firsts met tests l) (append_assoc before (r ∷ []) rest),
        told-unwanted n before rest r is ∙ later.1,
      )
    where
      still : (ts : List (R → Bool)) → firsts met ts before ≡ firsts met ts (before ++ r ∷ [])
          → list_any (λ t. none met before t && list_any t rest) ts ≡ false
          → list_any (λ t. none met (before ++ r ∷ []) t && list_any t rest) ts ≡ false
      still [] same e = refl
      still (t ∷ ts) same e =
          let head : first_of met t before ≡ first_of met t (before ++ r ∷ []) = cc in
          let tail : firsts met ts before ≡ firsts met ts (before ++ r ∷ []) = cc in
          let both = or-false (none met before t && list_any t rest)
          (list_any (λ t. none met before t && list_any t rest) ts) e in
          rw (← head, both.0, still ts tail both.1) refl

  -- no row is left
  pub skip-all : (n : ℕ) (before rest : List R) → rows_of tests n rest ≡ []
      → (firsts met tests before ≡ firsts met tests (before ++ rest)) × (asked_from asks met tests n before rest ≡ [])
  skip-all n before [] e = (rw (append-nil before) refl, refl)
  skip-all n before (r ∷ rest) e =
      go (list_any (λ t. t r) tests) refl e (skip-all (n + 1) (before ++ r ∷ []) rest) where
        go : (b : Bool) → list_any (λ t. t r) tests ≡ b
            → (if b then row_of tests n r rest ∷ rows_of tests (n + 1) rest else rows_of tests (n + 1) rest) ≡ []
            → (rows_of tests (n + 1) rest ≡ []
            → (firsts met tests (before ++ r ∷ []) ≡ firsts met tests ((before ++ r ∷ []) ++ rest))
            × (asked_from asks met tests (n + 1) (before ++ r ∷ []) rest ≡ []))
            → (firsts met tests before ≡ firsts met tests (before ++ r ∷ rest))
            × (asked_from asks met tests n before (r ∷ rest) ≡ [])
        go true is h more = absurd cc
        go false is h more =
            let later = more h in
            let free = unlisted met before r tests is in (
              found-same met before r tests free ∙ later.0
                  ∙ ap (λ (l : List R). firsts met tests l) (append_assoc before (r ∷ []) rest),
              told-unwanted n
                  before rest r free ∙ later.1,
            )

  apart : {row : Row} {more : List Row} → [] ≡ row ∷ more → ⊥
  apart e = absurd cc

  -- the next row is that of the next rule in some list
  pub skip-to : (n : ℕ) (before rest : List R) (row : Row) (more : List Row)
      → rows_of tests n rest ≡ row ∷ more → Reached asks met tests n before rest row more
  skip-to n before [] row more e = absurd (apart e)
  skip-to n before (r ∷ rest) row more e =
      go (list_any (λ t. t r) tests) refl e (skip-to (n + 1) (before ++ r ∷ []) rest row more) where
        go : (b : Bool) → list_any (λ t. t r) tests ≡ b
            → (if b then row_of tests n r rest ∷ rows_of tests (n + 1) rest else rows_of tests (n + 1) rest)
            ≡ row ∷ more
            → (rows_of tests (n + 1) rest ≡ row ∷ more
            → Reached asks met tests (n + 1) (before ++ r ∷ []) rest row more)
            → Reached asks met tests n before (r ∷ rest) row more
        go true is h next = record {
          upto = before;
          rule = r;
          onward = rest;
          m = n;
          whole = refl;
          number = refl;
          row_is = cc;
          more_is = cc;
          found = refl;
          told = refl;
        }
        go false is h next =
            let later = next h in
            let free = unlisted met before r tests is in
            let long = length-append before (r ∷ []) in
            record {
              upto = later.upto;
              rule = later.rule;
              onward = later.onward;
              m = later.m;
              whole = later.whole ∙ append_assoc before (r ∷ []) rest;
              number = omega (arith, later.number, long);
              row_is = later.row_is;
              more_is = later.more_is;
              found = found-same met before r tests free ∙ later.found;
              told = told-unwanted n before rest r free ∙ later.told;
            }

  module _ (first : ℕ) (rules : List R) where
    abbrev total : List ℕ
    total = asked_from asks met tests first [] rules

    abbrev nones : List (R → Bool) → List (Option R)
    nones ts = map (λ test. None) ts

    ones : (ts : List (R → Bool)) → bits_of (map is_none (nones ts)) + 1 ≡ 2 ^ length ts
    ones [] = refl
    ones (t ∷ ts) = let h = ones ts in grind arith

    -- nothing was considered yet
    pub stands-start : (left : List Row) (found : List (Option R)) (unset : ℕ) (told : List ℕ)
        → length tests < 32 → found ≡ nones tests → left ≡ rows_of tests first rules
        → unset ≡ 1 * 2 ^ length found % 2 ^ 32 - 1 → Stands asks met tests first rules left found unset told told
    stands-start left found unset told few none_found is_left is_open =
        let long : length found ≡ length tests = ap length none_found ∙ length-map tests (λ test. None) in
        let small : 2 ^ length tests < 2 ^ 32 = pow-lt few in
        let all : open_in found + 1 ≡ 2 ^ length tests = rw none_found (ones tests) in
        let is : unset ≡ 1 * 2 ^ length tests % 2 ^ 32 - 1 = rw (← long) is_open in
        record {
          before = [];
          rest = rules;
          whole = refl;
          left_is = is_left ∙ ap (λ (k : ℕ). rows_of tests k rules) (sym (add-zero first));
          found_is = none_found;
          open_is = omega (arith, is, small, all);
          told_is = ap (λ (k : ℕ). told ++ asked_from asks met tests k [] rules) (add-zero first);
        }

    -- no row is left
    pub stands-end : (rows : List Row) (i : ℕ) (found : List (Option R)) (unset : ℕ) (told started : List ℕ)
        → length rows ≤ i → Stands asks met tests first rules (drop i rows) found unset told started
        → (found ≡ firsts met tests rules) × (told ≡ started ++ total)
    stands-end rows i found unset told started over h =
        let done : drop i rows ≡ [] = grind (arith, common_steps, over) in
        let all = skip-all (first + length h.before) h.before h.rest (sym h.left_is ∙ done) in (
          h.found_is ∙ all.0 ∙ ap (λ (l : List R). firsts met tests l) h.whole,
          sym (append-nil told)
              ∙ ap (λ (l : List ℕ). told ++ l) (sym all.1) ∙ h.told_is,
        )

    -- the next rule
    pub record Next (row : Row) (more : List Row) (found : List (Option R)) (unset : ℕ)
        (told started : List ℕ) : Type 0 where
      pub upto : List R
      pub rule : R
      pub onward : List R
      pub whole : upto ++ rule ∷ onward ≡ rules
      pub row_is : row ≡ row_of tests (first + length upto) rule onward
      pub more_is : more ≡ rows_of tests (first + length upto + 1) onward
      pub found_is : found ≡ firsts met tests upto
      pub open_is : unset ≡ open_in (firsts met tests upto)
      pub told_is : told ++ asked_from asks met tests (first + length upto) upto (rule ∷ onward) ≡ started ++ total

    pub stands-next : (row : Row) (more : List Row) (found : List (Option R)) (unset : ℕ)
        (told started : List ℕ) → Stands asks met tests first rules (row ∷ more) found unset told started
        → Next row more found unset told started
    stands-next row more found unset told started h =
        let next = skip-to (first + length h.before) h.before h.rest row more (sym h.left_is) in
        let number : next.m ≡ first + length next.upto = omega (arith, next.number) in
        record {
          upto = next.upto;
          rule = next.rule;
          onward = next.onward;
          whole = next.whole ∙ h.whole;
          row_is = rw (← number) next.row_is;
          more_is = rw (← number) next.more_is;
          found_is = h.found_is ∙ next.found;
          open_is = h.open_is ∙ ap open_in (h.found_is ∙ next.found);
          told_is = rw (← number, ← next.told) h.told_is;
        }

    -- row i of those that are walked
    pub stands-at : (rows : List Row) (i : ℕ) (d : Row) (found : List (Option R)) (unset : ℕ)
        (told started : List ℕ) → i < length rows
        → Stands asks met tests first rules (drop i rows) found unset told started
        → Next (get_or rows i d) (drop (i + 1) rows) found unset told started
    stands-at rows i d found unset told started under h =
        let at : drop i rows ≡ get_or rows i d ∷ drop (i + 1) rows = grind (arith, common_steps, under) in
        stands-next (get_or rows i d) (drop (i + 1) rows) found unset told started (rw (← at) h)

    module _ (row : Row) (more : List Row) (found : List (Option R)) (unset : ℕ) (told started : List ℕ)
        (next : Next row more found unset told started) where
      pub next-bounds : (first ≤ row.number) × (row.number - first < length rules) × (row.number - first ≤ length rules)
      next-bounds =
          let number : row.number ≡ first + length next.upto = ap (λ (r : Row). r.number) next.row_is in
          let long : length rules ≡ length next.upto + suc (length next.onward) =
          ap length (sym next.whole) ∙ length-append next.upto (next.rule ∷ next.onward) in
          (omega (arith, number), omega (arith, number, long), omega (arith, number, long))

      at-seam : (xs ys : List R) (x d : R) → get_or (xs ++ x ∷ ys) (length xs) d ≡ x
      at-seam [] ys x d = refl
      at-seam (z ∷ xs) ys x d = at-seam xs ys x d

      -- the rule that the code reads
      next-rule : (r : R) → r ≡ get_or rules (row.number - first) r → r ≡ next.rule
      next-rule r is_r =
          let number : row.number ≡ first + length next.upto = ap (λ (r : Row). r.number) next.row_is in
          let at : row.number - first ≡ length next.upto = omega (arith, number) in
          is_r ∙ ap (λ (l : List R). get_or l (row.number - first) r) (sym next.whole)
          ∙ ap (λ (j : ℕ). get_or (next.upto ++ next.rule ∷ next.onward) j r) at
          ∙ at-seam next.upto next.onward next.rule r

      -- no open list has a rule that is left
      pub next-shut : bit_and unset row.later ≡ 0 → (found ≡ firsts met tests rules) × (told ≡ started ++ total)
      next-shut e =
          let later : row.later ≡ lists_in tests (next.rule ∷ next.onward) = ap (λ (r : Row). r.later) next.row_is in
          let none_open : bits_of (map (λ t. none met next.upto t && list_any t (next.rule ∷ next.onward)) tests) ≡ 0 =
          sym (bits-and (λ t. none met next.upto t) (λ t. list_any t (next.rule ∷ next.onward)) tests)
          ∙ rw (← none-flags met tests next.upto, ← next.open_is, ← later) e in
          let all = shut (first + length next.upto) next.upto (next.rule ∷ next.onward)
          (zero-none (λ t. none met next.upto t && list_any t (next.rule ∷ next.onward)) tests none_open) in (
            next.found_is ∙ all.0 ∙ ap (λ (l : List R). firsts met tests l) next.whole,
            sym (append-nil told)
                ∙ ap (λ (l : List ℕ). told ++ l) (sym all.1) ∙ next.told_is,
          )

      in-lists : bit_and unset row.lists ≡ bit_and (open_in (firsts met tests next.upto)) (lists_of tests next.rule)
      in-lists = rw (next.open_is, next.row_is) refl

      seam : (xs ys : List R) (x : R) → slice_get (xs ++ x ∷ ys) (length xs) ≡ Some x
      seam [] ys x = refl
      seam (z ∷ xs) ys x = seam xs ys x

      -- it has an answer, where it is in an open list
      pub next-answers : (has_answer : R → Type 0) → HaveAnswers tests has_answer rules
          → bit_and unset row.lists ≢ 0 → (r : R) → r ≡ get_or rules (row.number - first) r → has_answer r
      next-answers has_answer have some r is_r =
          let is = wanted met next.upto next.rule tests (λ e. some (in-lists ∙ e)) in
          let at : slice_get rules (length next.upto) ≡ Some next.rule =
          rw (← next.whole) (seam next.upto next.onward next.rule) in
          subst has_answer (sym (next-rule r is_r))
          (have (length next.upto) next.rule at (listed met next.upto next.rule tests is))

      told-known : (found : Option (Option Bool)) (b : Bool) → Some b ≡ option_and_then (λ met. met) found
          → found ≡ Some (Some b)
      told-known None b e = absurd cc
      told-known (Some None) b e = absurd cc
      told-known (Some (Some c)) b e = ap Some (sym e)

      -- what is known of it, where it is in an open list
      pub next-known : (known : List (Option Bool)) → AreKnown tests met rules known → bit_and unset row.lists ≢ 0
          → (r : R) → r ≡ get_or rules (row.number - first) r → (o : Option Bool)
          → o ≡ option_and_then (λ met. met) (slice_get known (row.number - first)) → IfSome o (λ b. met r ≡ b)
      next-known known are some r is_r None is_known = tt
      next-known known are some r is_r (Some b) is_known =
          let number : row.number ≡ first + length next.upto = ap (λ (r : Row). r.number) next.row_is in
          let place : row.number - first ≡ length next.upto = omega (arith, number) in
          let is = wanted met next.upto next.rule tests (λ e. some (in-lists ∙ e)) in
          let at : slice_get rules (length next.upto) ≡ Some next.rule =
          rw (← next.whole) (seam next.upto next.onward next.rule) in
          ap met (next-rule r is_r)
          ∙ are (length next.upto) next.rule b at (listed met next.upto next.rule tests is)
          (told-known (slice_get known (length next.upto)) b
          (is_known ∙ ap (λ (k : ℕ). option_and_then (λ met. met) (slice_get known k)) place))

      -- the walk after the rule
      stands-after : (found' : List (Option R)) (unset' : ℕ) (told' : List ℕ)
          → found' ≡ firsts met tests (next.upto ++ next.rule ∷ [])
          → unset' ≡ open_in (firsts met tests (next.upto ++ next.rule ∷ []))
          → told' ++ asked_from asks met tests (first + length next.upto + 1) (next.upto ++ next.rule ∷ [])
          next.onward ≡ started ++ total → Stands asks met tests first rules more found' unset' told' started
      stands-after found' unset' told' is_found is_open is_told =
          let long = length-append next.upto (next.rule ∷ []) in
          let number : first + length next.upto + 1 ≡ first + length (next.upto ++ next.rule ∷ []) =
          omega (arith, long) in
          record {
            before = next.upto ++ next.rule ∷ [];
            rest = next.onward;
            whole = append_assoc next.upto (next.rule ∷ []) next.onward ∙ next.whole;
            left_is = next.more_is ∙ ap (λ (k : ℕ). rows_of tests k next.onward) number;
            found_is = is_found;
            open_is = is_open ∙ ap open_in (sym is_found);
            told_is = rw (← number) is_told;
          }

      -- it is in no open list
      pub stands-unwanted : bit_and unset row.lists ≡ 0
          → Stands asks met tests first rules more found unset told started
      stands-unwanted e =
          let is = unwanted met next.upto next.rule tests (sym in-lists ∙ e) in
          let same = found-same met next.upto next.rule tests is in
          stands-after found unset told (next.found_is ∙ same) (next.open_is ∙ ap open_in same)
          (rw (← told-unwanted (first + length next.upto) next.upto next.onward next.rule is) next.told_is)

      module _ (some : bit_and unset row.lists ≢ 0) (r : R) (is_r : r ≡ get_or rules (row.number - first) r)
          (told' : List ℕ) (is_told : told' ≡ told ++ (if asks r then row.number ∷ [] else [])) where
        told-after : told' ++ asked_from asks met tests (first + length next.upto + 1)
            (next.upto ++ next.rule ∷ []) next.onward ≡ started ++ total
        told-after =
            let number : row.number ≡ first + length next.upto = ap (λ (r : Row). r.number) next.row_is in
            let is = wanted met next.upto next.rule tests (λ e. some (in-lists ∙ e)) in
            let told_now : told' ≡ told ++ (if asks next.rule then (first + length next.upto) ∷ [] else []) =
            is_told ∙ ap (λ (q : R). told ++ (if asks q then row.number ∷ [] else [])) (next-rule r is_r)
            ∙ ap (λ (k : ℕ). told ++ (if asks next.rule then k ∷ [] else [])) number in
            rw (
              told_now,
              append_assoc,
              ← told-wanted (first + length next.upto) next.upto next.onward
                  next.rule is,
            ) next.told_is

        -- it is not met
        pub stands-unmet : false ≡ met r → Stands asks met tests first rules more found unset told' started
        stands-unmet is_met =
            let same = found-unmet met next.upto next.rule (ap met (sym (next-rule r is_r)) ∙ sym is_met) tests in
            stands-after found unset told' (next.found_is ∙ same) (next.open_is ∙ ap open_in same) told-after

        -- it is met
        pub stands-met : true ≡ met r
            → Stands asks met tests first rules more (settled r (bit_and unset row.lists) found)
            (bit_xor unset (bit_and unset row.lists)) told' started
        stands-met is_met =
            let holds = ap met (sym (next-rule r is_r)) ∙ sym is_met in
            let bits = in-lists ∙ wanted-bits met next.upto next.rule tests in
            stands-after (settled r (bit_and unset row.lists) found) (bit_xor unset (bit_and unset row.lists)) told'
            (rw (bits, next.found_is, next-rule r is_r) (found-met met next.upto next.rule holds tests))
            (rw (bits, next.open_is) (open-met met next.upto next.rule holds tests)) told-after
