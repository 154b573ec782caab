-- Blanks and parts of texts as they are written.
use Rattle.std.proofs.Common.{◌≡◌, ◌==◌, ◌&&◌, ◌||◌, ◌+◌, ◌-◌, not, ℕ, Bool, true, false, List, [], ◌∷◌, ◌++◌, None, Some, is_some, length, take, drop, codes, refl, sym, ◌∙◌, ap, arith, inl, inr, if◌then◌else◌, length-append}
use Rattle.std.proofs.lemmas.Bool.Decides.{eqb_tells}
use Rattle.std.proofs.lemmas.Slice.Eq.{bytes_eq-Decides}
use Rattle.std.specs.List.{list_all}
use Rattle.std.specs.Char.{char_set_contains}
use Rattle.std.specs.Str.{bytes_eq}
use Rattle.filter_language.specs.Texts.{after_prefix, is_blank, skipped, front_until, rest_until}
use Rattle.filter_language.specs.Predicates.{before_rest}
use Rattle.filter_language.specs.Writing.{AreBlanks, BeginsUnblank, is_none_of}

pub both_true : (a b : Bool) → (a && b) ≡ true → (a ≡ true) × (b ≡ true)
both_true true b e = (refl, e)
both_true false b e = absurd (cc)

pub not_true : (b : Bool) → not b ≡ true → b ≡ false
not_true false e = refl
not_true true e = absurd (cc)

-- Whether a text begins with a line feed.
abbrev begins_line : List ℕ → Bool
begins_line text = is_some (after_prefix (codes "\n") text)

blank_or : (a b d e f : Bool) → (e ≡ true → f ≡ true) → (a || (b || (d && e))) ≡ true → (a || (b || (d && f))) ≡ true
blank_or true b d e f known is = refl
blank_or false true d e f known is = refl
blank_or false false true e f known is = known is
blank_or false false false e f known is = is

unblank_or : (a b d e f : Bool) → (e ≡ false → f ≡ false) → (a || (b || (d && e))) ≡ false
    → (a || (b || (d && f))) ≡ false
unblank_or true b d e f known is = is
unblank_or false true d e f known is = is
unblank_or false false true e f known is = known is
unblank_or false false false e f known is = refl

some_if : {X : Type 0} (b : Bool) (x y : X)
    → is_some (if b then Some x else None) ≡ is_some (if b then Some y else None)
some_if true x y = refl
some_if false x y = refl

line_before : (text more : List ℕ) → begins_line text ≡ true → begins_line (text ++ more) ≡ true
line_before [] more e = absurd (cc)
line_before (c ∷ text) more e = some_if (10 == c) (text ++ more) text ∙ e

no_line_before : (text more : List ℕ) → begins_line text ≡ false → begins_line (text ++ (41 ∷ more)) ≡ false
no_line_before [] more e = refl
no_line_before (c ∷ text) more e = some_if (10 == c) (text ++ (41 ∷ more)) text ∙ e

-- What is behind blanks does not matter to them.
pub blank_before : (c : ℕ) (text more : List ℕ) → is_blank c text ≡ true → is_blank c (text ++ more) ≡ true
blank_before c text more e =
    blank_or (c == 32) (c == 10) (c == 13) (begins_line text) (begins_line (text ++ more)) (line_before text more) e

unblank_before : (c : ℕ) (text more : List ℕ) → is_blank c text ≡ false → is_blank c (text ++ (41 ∷ more)) ≡ false
unblank_before c text more e =
    unblank_or (c == 32) (c == 10) (c == 13) (begins_line text) (begins_line (text ++ (41 ∷ more)))
    (no_line_before text more) e

-- Blanks in front of a text are skipped, and nothing else.
pub skips : (blanks text : List ℕ) → AreBlanks blanks → skipped (blanks ++ text) ≡ skipped text
skips [] text are = refl
skips (c ∷ blanks) text are = rw (blank_before c blanks text are.0) (skips blanks text are.1)

pub stays : (text : List ℕ) → BeginsUnblank text → skipped text ≡ text
stays [] is = absurd (is)
stays (c ∷ text) is = rw is refl

pub stays_before : (text more : List ℕ) → BeginsUnblank text → skipped (text ++ (41 ∷ more)) ≡ text ++ (41 ∷ more)
stays_before [] more is = absurd (is)
stays_before (c ∷ text) more is = rw (unblank_before c text more is) refl

no_line_skipped : (text : List ℕ) → begins_line (skipped text) ≡ false
no_line_skipped [] = refl
no_line_skipped (c ∷ text) = first (is_blank c text) refl (no_line_skipped text)
  where
    first : (b : Bool) → is_blank c text ≡ b → begins_line (skipped text) ≡ false
        → begins_line (skipped (c ∷ text)) ≡ false
    first true is known = rw is known
    first false is known =
        elim (eqb_tells 10 c) [
          | inl same ↦ absurd (let clash : true ≡ false = rw (sym same.1) at is in cc)
          | inr other ↦ rw (is, other.0) refl
        ]

pub skipped_are : (text : List ℕ) → (blanks : List ℕ) × AreBlanks blanks × (text ≡ blanks ++ skipped text)
skipped_are [] = ([], tt, refl)
skipped_are (c ∷ text) = one (is_blank c text) refl (skipped_are text)
  where
    line_of : (blanks : List ℕ) → text ≡ blanks ++ skipped text → begins_line text ≡ true → begins_line blanks ≡ true
    line_of [] is line =
        absurd (let clash : true ≡ false = sym line ∙ ap begins_line is ∙ no_line_skipped text in cc)
    line_of (d ∷ blanks) is line =
        some_if (10 == d) blanks (blanks ++ skipped text) ∙ sym (ap begins_line is) ∙ line

    one : (b : Bool) → is_blank c text ≡ b → ((blanks : List ℕ) × AreBlanks blanks × (text ≡ blanks ++ skipped text))
        → (blanks : List ℕ) × AreBlanks blanks × (c ∷ text ≡ blanks ++ skipped (c ∷ text))
    one true is it = (
      c ∷ it.0,
      (blank_or (c == 32) (c == 10) (c == 13) (begins_line text) (begins_line it.0) (line_of it.0 it.2) is, it.1),
      rw is (ap (λ l. c ∷ l) it.2),
    )
    one false is it = ([], tt, rw is refl)

-- What is left of a text begins with no blank, if it begins.
pub skipped_unblank : (text : List ℕ) (c : ℕ) (more : List ℕ) → skipped text ≡ c ∷ more → is_blank c more ≡ false
skipped_unblank [] c more e = absurd (cc)
skipped_unblank (d ∷ text) c more e = first (is_blank d text) refl e (skipped_unblank text c more)
  where
    first : (b : Bool) → is_blank d text ≡ b → skipped (d ∷ text) ≡ c ∷ more
        → (skipped text ≡ c ∷ more → is_blank c more ≡ false) → is_blank c more ≡ false
    first true is e known = known (rw is at e)
    first false is e known =
        let whole : d ∷ text ≡ c ∷ more = rw is at e in
        let head : d ≡ c = cc in
        let tail : text ≡ more = cc in
        rw (head, tail) at is

-- A text is what is before a stop, and the rest.
pub parts : (stops text : List ℕ) → text ≡ front_until stops text ++ rest_until stops text
parts stops [] = refl
parts stops (c ∷ text) = first (char_set_contains stops c) refl (parts stops text)
  where
    first : (b : Bool) → char_set_contains stops c ≡ b → text ≡ front_until stops text ++ rest_until stops text
        → c ∷ text ≡ front_until stops (c ∷ text) ++ rest_until stops (c ∷ text)
    first true is known = rw is refl
    first false is known = rw is (ap (λ l. c ∷ l) known)

pub front_is_none : (stops text : List ℕ) → list_all (is_none_of stops) (front_until stops text) ≡ true
front_is_none stops [] = refl
front_is_none stops (c ∷ text) = first (char_set_contains stops c) refl (front_is_none stops text)
  where
    first : (b : Bool) → char_set_contains stops c ≡ b → list_all (is_none_of stops) (front_until stops text) ≡ true
        → list_all (is_none_of stops) (front_until stops (c ∷ text)) ≡ true
    first true is known = rw is refl
    first false is known = rw is (rw is known)

pub front_of : (stops front : List ℕ) (c : ℕ) (rest : List ℕ) → list_all (is_none_of stops) front ≡ true
    → char_set_contains stops c ≡ true → front_until stops (front ++ (c ∷ rest)) ≡ front
front_of stops [] c rest none is = rw is refl
front_of stops (d ∷ front) c rest none is =
    let it = both_true (is_none_of stops d) (list_all (is_none_of stops) front) none in
    rw (not_true (char_set_contains stops d) it.0) (ap (λ l. d ∷ l) (front_of stops front c rest it.1 is))

pub rest_of : (stops front : List ℕ) (c : ℕ) (rest : List ℕ) → list_all (is_none_of stops) front ≡ true
    → char_set_contains stops c ≡ true → rest_until stops (front ++ (c ∷ rest)) ≡ c ∷ rest
rest_of stops [] c rest none is = rw is refl
rest_of stops (d ∷ front) c rest none is =
    let it = both_true (is_none_of stops d) (list_all (is_none_of stops) front) none in
    rw (not_true (char_set_contains stops d) it.0) (rest_of stops front c rest it.1 is)

-- What ends a text is not a blank.
stop_unblank : (c : ℕ) (text : List ℕ) → char_set_contains (codes ",)\\") c ≡ true → is_blank c text ≡ false
stop_unblank c text is = elim (eqb_tells 44 c) [
  | inl same ↦ rw (← same.1) refl
  | inr no_comma ↦ elim (eqb_tells 41 c) [
    | inl same ↦ rw (← same.1) refl
    | inr no_close ↦ elim (eqb_tells 92 c) [
      | inl same ↦ rw (← same.1) refl
      | inr no_backslash ↦ absurd (
          let clash : false ≡ true = rw (no_comma.0, no_close.0, no_backslash.0) at is in cc)
    ]
  ]
]

pub end_stays : (text : List ℕ) → skipped (rest_until (codes ",)\\") text) ≡ rest_until (codes ",)\\") text
end_stays [] = refl
end_stays (c ∷ text) = first (char_set_contains (codes ",)\\") c) refl (end_stays text)
  where
    first : (b : Bool) → char_set_contains (codes ",)\\") c ≡ b
        → skipped (rest_until (codes ",)\\") text) ≡ rest_until (codes ",)\\") text
        → skipped (rest_until (codes ",)\\") (c ∷ text)) ≡ rest_until (codes ",)\\") (c ∷ text)
    first true is known = rw is (stays (c ∷ text) (stop_unblank c text is))
    first false is known = rw is known

-- What is in a text before a rest of it.
less_back : (a b : ℕ) → a + b - b ≡ a
less_back a b = omega arith

drop_own : (front rest : List ℕ) → drop (length front) (front ++ rest) ≡ rest
drop_own [] rest = refl
drop_own (c ∷ front) rest = drop_own front rest

take_own : (front rest : List ℕ) → take (length front) (front ++ rest) ≡ front
take_own [] rest = refl
take_own (c ∷ front) rest = ap (λ l. c ∷ l) (take_own front rest)

pub before_own : (front rest : List ℕ) → before_rest (front ++ rest) rest ≡ front
before_own front rest =
    let size : length (front ++ rest) - length rest ≡ length front =
    ap (λ n. n - length rest) (length-append front rest) ∙ less_back (length front) (length rest) in
    let same : bytes_eq (drop (length front) (front ++ rest)) rest ≡ true =
    (bytes_eq-Decides (drop (length front) (front ++ rest)) rest).1 (drop_own front rest) in
    rw size (rw same (take_own front rest))
