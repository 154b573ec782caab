-- The numbers of the entries that pass a test.
use Rattle.std.proofs.Common.{◌≡◌, ℕ, zero, suc, ◌-◌, ◌<◌, ◌≤◌, Bool, true, false, ◌||◌, nat_lt, ltb, List, [], ◌∷◌, length, get_or, drop, slice_get, Bor, Option, Some, None, option_map, refl, sym, ap, ◌∙◌, inl, inr, arith}
use Rattle.std.proofs.lemmas.Bool.{cases_Bool, cases_lt, ltb-true}
use Rattle.std.proofs.lemmas.Bool.Decides.{nat_tests}
use Rattle.std.proofs.lemmas.List.{drop_all}
use Rattle.std.proofs.lemmas.List.Sorted.{IsPartitionedBy-ltb}
use Rattle.std.proofs.lemmas.Option.{none-some, same_Some, slice_get-get_or, slice_get_past, slice_get_read}
use Rattle.std.specs.List.{AllByRecursion}
use Rattle.std.specs.Slice.{IsItemAt}
use Rattle.std.specs.List.Sorted.{IsNonDecreasingBy, IsPartitionPoint, IsPartitionedBy}
use Rattle.nextest_places.specs.Branches.{comes_before, earlier, numbers_where}
use Rattle.nextest_places.specs.declared.entry.Entry.{Entry}

not_below : (m n : ℕ) → n ≤ m → nat_lt m n ≡ false
not_below m n h = grind (arith, nat_tests)

pub is_below : (m n : ℕ) → m < n → nat_lt m n ≡ true
is_below m n h = grind (arith, nat_tests)

from_ltb : (m n : ℕ) → ltb m n ≡ false → n ≤ m
from_ltb m n h = grind (arith, nat_tests)

same_number : (m n : ℕ) → nat_lt n m ≡ false → n ≤ m → n ≡ m
same_number m n none h = grind (arith, nat_tests)

-- the numbers of a list are at least the first entry's
head_least : (n m : ℕ) (rest : List ℕ) (i : ℕ) → ((j : ℕ) → slice_get rest j ≡ Some m → suc n ≤ m)
    → slice_get (n ∷ rest) i ≡ Some m → n ≤ m
head_least n m rest zero later is = let same = same_Some n m is in omega (arith, same)
head_least n m rest (suc i) later is = let after = later i is in omega (arith, after)

pub at_least : (test : Entry → Bool) (n : ℕ) (entries : List Entry) (i m : ℕ)
    → slice_get (numbers_where test n entries) i ≡ Some m → n ≤ m
at_least test n [] i m is = absurd (none-some m is)
at_least test n (e ∷ es) i m is =
    elim (cases_Bool (test e)) [
      | inl passes ↦ head_least n m (numbers_where test (suc n) es) i (λ j. at_least test (suc n) es j m) (rw passes at is)
      | inr fails ↦ let later = at_least test (suc n) es i m (rw fails at is) in omega (arith, later)
    ]

-- numbers up to a place are below another one, and those from there on are not
abbrev pub AreBelow : List ℕ → ℕ → ℕ → Type 0
AreBelow xs at from = (k d : ℕ) → k < at → get_or xs k d < from

abbrev pub AreFrom : List ℕ → ℕ → ℕ → Type 0
AreFrom xs at from = (k d : ℕ) → at ≤ k → k < length xs → from ≤ get_or xs k d

none_below : (xs : List ℕ) (at from : ℕ) → at ≤ length xs → AreBelow xs at from
    → ((m : ℕ) → slice_get xs 0 ≡ Some m → from ≤ m) → at ≡ 0
none_below xs zero from within below least = refl
none_below [] (suc at) from within below least = absurd (omega (arith, within))
none_below (x ∷ xs) (suc at) from within below least =
    let less : x < from = below 0 0 (omega arith) in
    let more = least x refl in
    absurd (omega (arith, less, more))

some_below : (n : ℕ) (xs ys : List ℕ) (at from : ℕ) → n < from → at ≤ length (n ∷ xs)
    → AreFrom (n ∷ xs) at from → ((k : ℕ) → at ≡ suc k → drop k xs ≡ ys) → drop at (n ∷ xs) ≡ ys
some_below n xs ys zero from less within above rest =
    let more : from ≤ n = above 0 0 (omega arith) (omega arith) in
    absurd (omega (arith, less, more))
some_below n xs ys (suc at) from less within above rest = rest at refl

-- the numbers from one on are those of the entries from there on
pub split_at : (test : Entry → Bool) (n : ℕ) (entries : List Entry) (at from : ℕ) → n ≤ from
    → at ≤ length (numbers_where test n entries) → AreBelow (numbers_where test n entries) at from
    → AreFrom (numbers_where test n entries) at from
    → drop at (numbers_where test n entries) ≡ numbers_where test from (drop (from - n) entries)
split_at test n [] at from before within below above =
    let numbers : List ℕ = [] in
    let none : List Entry = [] in
    rw (drop_all at numbers (omega arith), drop_all (from - n) none (omega arith)) refl
split_at test n (e ∷ es) at from before within below above =
    elim (cases_lt n from) [
      | inr over ↦
          let same : from ≡ n = omega (arith, over, before) in
          let least : (m : ℕ) → slice_get (numbers_where test n (e ∷ es)) 0 ≡ Some m → from ≤ m =
          λ m is. let h = at_least test n (e ∷ es) 0 m is in omega (arith, h, same) in
          let first : at ≡ 0 = none_below (numbers_where test n (e ∷ es)) at from within below least in
          let none : from - n ≡ 0 = omega (arith, same) in
          rw (none, first, same) refl
      | inl less ↦
          let more : from - n ≡ suc (from - suc n) = omega (arith, less) in
          rw more (elim (cases_Bool (test e)) [
            | inl passes ↦
                let xs = numbers_where test (suc n) es in
                let all : numbers_where test n (e ∷ es) ≡ n ∷ xs = rw passes refl in
                let fits : at ≤ length (n ∷ xs) = rw all at within in
                let lower : AreBelow (n ∷ xs) at from = rw all at below in
                let upper : AreFrom (n ∷ xs) at from = rw all at above in
                ap (drop at) all
                ∙ some_below n xs (numbers_where test from (drop (from - suc n) es)) at from less fits upper
                (λ k is. split_at test (suc n) es k from (omega (arith, less)) (omega (arith, fits, is))
                (λ j d h. lower (suc j) d (omega (arith, h, is)))
                (λ j d h g. upper (suc j) d (omega (arith, h, is)) (omega (arith, g))))
            | inr fails ↦
                let all : numbers_where test n (e ∷ es) ≡ numbers_where test (suc n) es = rw fails refl in
                ap (drop at) all
                ∙ split_at test (suc n) es at from (omega (arith, less)) (rw all at within) (rw all at below)
                (rw all at above)
          ])
    ]

-- the first number of two tests is the earlier of their first ones
keeps_left : (n : ℕ) (o : Option ℕ) → ((m : ℕ) → o ≡ Some m → n ≤ m) → earlier (Some n) o ≡ Some n
keeps_left n None least = refl
keeps_left n (Some m) least =
    let more = least m refl in
    elim (cases_Bool (nat_lt n m)) [
      | inl less ↦ rw less refl
      | inr none ↦ rw none (ap (λ x. Some x) (sym (same_number m n none more)))
    ]

keeps_right : (n : ℕ) (o : Option ℕ) → ((m : ℕ) → o ≡ Some m → n ≤ m) → earlier o (Some n) ≡ Some n
keeps_right n None least = refl
keeps_right n (Some m) least = rw (not_below m n (least m refl)) refl

module _ (p q : Entry → Bool) where
  pub first_of_both : (n : ℕ) (entries : List Entry)
      → slice_get (numbers_where (λ e. p e || q e) n entries) 0
      ≡ earlier (slice_get (numbers_where p n entries) 0) (slice_get (numbers_where q n entries) 0)
  first_of_both n [] = refl
  first_of_both n (e ∷ es) =
      elim (cases_Bool (p e)) [
        | inl passes ↦ rw passes (sym (keeps_left n (slice_get (numbers_where q n (e ∷ es)) 0)
            (λ m is. at_least q n (e ∷ es) 0 m is)))
        | inr fails ↦ elim (cases_Bool (q e)) [
          | inl passes ↦ rw (fails, passes) (sym (keeps_right n (slice_get (numbers_where p (suc n) es) 0)
              (λ m is. let h = at_least p (suc n) es 0 m is in omega (arith, h))))
          | inr none ↦ rw (fails, none) (first_of_both (suc n) es)
        ]
      ]

pub same_numbers : (p q : Entry → Bool) → ((e : Entry) → p e ≡ q e) → (n : ℕ) (entries : List Entry)
    → numbers_where p n entries ≡ numbers_where q n entries
same_numbers p q same n [] = refl
same_numbers p q same n (e ∷ es) = rw (same e, same_numbers p q same (suc n) es) refl

rises_from : (n : ℕ) (xs : List ℕ) → ((i m : ℕ) → slice_get xs i ≡ Some m → n ≤ m)
    → ((i j d : ℕ) → i ≤ j → j < length xs → get_or xs i d ≤ get_or xs j d)
    → (i j d : ℕ) → i ≤ j → j < length (n ∷ xs) → get_or (n ∷ xs) i d ≤ get_or (n ∷ xs) j d
rises_from n xs least rises zero zero d before within = omega arith
rises_from n xs least rises zero (suc j) d before within =
    let inside : j < length xs = omega (arith, within) in
    least j (get_or xs j d) (slice_get-get_or xs j d inside)
rises_from n xs least rises (suc i) zero d before within = absurd (omega (arith, before))
rises_from n xs least rises (suc i) (suc j) d before within =
    rises i j d (omega (arith, before)) (omega (arith, within))

rising : (test : Entry → Bool) (n : ℕ) (entries : List Entry) → IsNonDecreasingBy (λ x. x) (numbers_where test n entries)
rising test n [] = λ i j d before within. absurd (omega (arith, within))
rising test n (e ∷ es) =
    elim (cases_Bool (test e)) [
      | inl passes ↦ rw passes (rises_from n (numbers_where test (suc n) es)
          (λ i m is. let h = at_least test (suc n) es i m is in omega (arith, h)) (rising test (suc n) es))
      | inr fails ↦ rw fails (rising test (suc n) es)
    ]

pub parted : (test : Entry → Bool) (numbers : List ℕ) (entries : List Entry) (from : ℕ)
    → numbers ≡ numbers_where test 0 entries → IsPartitionedBy (λ y. ltb y from) numbers
parted test numbers entries from are =
    rw are (IsPartitionedBy-ltb (λ x. x) (numbers_where test 0 entries) from (rising test 0 entries))

-- where a search for a number parts them
pub counted : (test : Entry → Bool) (numbers : List ℕ) (entries : List Entry) (at from : ℕ)
    → numbers ≡ numbers_where test 0 entries → at ≤ length numbers
    → IsPartitionPoint (λ y. ltb y from ≡ true) (λ y. ltb y from ≡ false) numbers at
    → drop at numbers ≡ numbers_where test from (drop from entries)
counted test numbers entries at from are within parts =
    let all : from - 0 ≡ from = omega arith in
    let below : AreBelow numbers at from =
    λ k d h. ltb-true (get_or numbers k d) from (parts.0 k d (omega arith) h) in
    let above : AreFrom numbers at from = λ k d h g. from_ltb (get_or numbers k d) from (parts.1 k d h g) in
    ap (drop at) are
    ∙ split_at test 0 entries at from (omega arith) (rw are at within) (rw are at below) (rw are at above)
    ∙ ap (λ n. numbers_where test from (drop n entries)) all

-- where there is no number, no entry passes
pub none_pass : (test : Entry → Bool) (n : ℕ) (entries : List Entry) → numbers_where test n entries ≡ []
    → AllByRecursion (λ e. test e ≡ false) entries
none_pass test n [] none = tt
none_pass test n (e ∷ es) none =
    elim (cases_Bool (test e)) [
      | inl passes ↦ let never : n ∷ numbers_where test (suc n) es ≡ [] = rw passes at none in absurd (cc)
      | inr fails ↦ (fails, none_pass test (suc n) es (rw fails at none))
    ]

pub all_drop : (P : Entry → Type 0) (n : ℕ) (entries : List Entry) → AllByRecursion P entries
    → AllByRecursion P (drop n entries)
all_drop P zero entries all = all
all_drop P (suc n) [] all = tt
all_drop P (suc n) (e ∷ es) (here, all) = all_drop P n es all

-- no number comes before the one below them all
pub none_before : (o : Option ℕ) (n : ℕ) → ((m : ℕ) → o ≡ Some m → n ≤ m) → comes_before o n ≡ false
none_before None n least = refl
none_before (Some m) n least = not_below m n (least m refl)

-- the number that a slice lends
pub item_is : (xs : List ℕ) (i : ℕ) (r : Option (Bor ℕ)) → IsItemAt xs i r → option_map (λ x. x.now) r ≡ slice_get xs i
item_is xs i None is = sym (slice_get_past xs i is.3)
item_is xs i (Some x) is = sym (slice_get_read xs (length xs) i x.now refl is.3.0 is.1)
