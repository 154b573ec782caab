-- The content of a string, a piece at a time.
use Rattle.std.proofs.Common.{◌≡◌, ℕ, zero, suc, ◌+◌, ◌<◌, ◌≤◌, ◌⊎◌, inl, inr, Bool, true, false, not, ◌==◌, ◌&&◌, ◌||◌, nat_lt, List, [], ◌∷◌, ◌++◌, length, get_or, drop, Option, Some, None, option_and_then, refl, sym, ap, ◌∙◌, subst, arith, length-append, eqb-true}
use Rattle.std.specs.Prelude.{encode_utf8}
use Rattle.std.specs.Char.{len_utf8}
use Rattle.std.specs.List.{prefix_len}
use Rattle.std.proofs.lemmas.Bool.{and_parts, cases_Bool, true≢false}
use Rattle.std.proofs.lemmas.Bool.Decides.{nat_tests}
use Rattle.std.proofs.lemmas.List.{append-nil}
use Rattle.std.proofs.lemmas.Option.{same_Some}
use Rattle.std.proofs.lemmas.Str.{byte_from_char, char_from_byte, encode_ascii, inside_one, length-encode, len_utf8_bounds}
use Rattle.toml_parser.specs.Lexical.{Read, first, starts_newline}
use Rattle.toml_parser.specs.Strings.{after_piece, body, is_plain, prepend, special}
use Rattle.toml_parser.proofs.StringsLemmas.{body_plain, body_special}
use Rattle.nextest_places.specs.Spans.Offsets.{ReadsOn, cuts_line, is_gap, starts_escape}
use Rattle.nextest_places.specs.Spans.Pieces.{IsClosing, IsDelim, closes}

-- ---- a turn of `body`

body_zero : (delim : ℕ) (multi : Bool) (text : List ℕ) → body delim multi zero text ≡ None
unfolding body
body_zero delim multi text = refl

-- ---- small facts

pub some_pair : {A : Type 0} (p q : A × List ℕ) → Some p ≡ Some q → (p.0 ≡ q.0) × (p.1 ≡ q.1)
some_pair {A} p q e =
    let same = same_Some p q e in
    (ap (λ (r : A × List ℕ). r.0) same, ap (λ (r : A × List ℕ). r.1) same)

pub not_true : (b : Bool) → ¬ (b ≡ true) → b ≡ false
not_true true h = absurd (h refl)
not_true false h = refl

pub second_true : (a b : Bool) → a ≡ true → (a && b) ≡ false → b ≡ false
second_true true b h e = e
second_true false b h e = absurd (true≢false (sym h))

-- ---- pieces of `body`

-- what is left behind these bytes
abbrev pub Left : ℕ → Bool → List ℕ → List ℕ → List ℕ → Type 0
Left delim multi front rest bytes = (more : List ℕ) × (bytes ≡ front ++ more) × ReadsOn delim multi rest more

prepended : (front : List ℕ) (r : Read (List ℕ)) (bytes : List ℕ) → prepend front r ≡ Some (bytes, [])
    → (more : List ℕ) × (r ≡ Some (more, [])) × (bytes ≡ front ++ more)
prepended front None bytes e = let no : ◌≡◌ {A = Read (List ℕ)} None (Some (bytes, [])) = e in absurd (cc)
prepended front (Some p) bytes e =
    let (front_is, over) = some_pair {A = List ℕ} (front ++ p.0, p.1) (bytes, []) e in
    (p.0, ap (λ (xs : List ℕ). Some (p.0, xs)) over, sym front_is)

left_from : (delim : ℕ) (multi : Bool) (front rest bytes : List ℕ) (n : ℕ) → prepend front (body delim multi n rest) ≡ Some (bytes, [])
    → Left delim multi front rest bytes
left_from delim multi front rest bytes n e =
    let (more, on, is) = prepended front (body delim multi n rest) bytes e in
    (more, is, record { pieces = n; reads = on })

pub turn_plain : (delim : ℕ) (multi : Bool) (c : ℕ) (rest bytes : List ℕ) → is_plain delim multi c ≡ true → ReadsOn delim multi (c ∷ rest) bytes
    → Left delim multi (c ∷ []) rest bytes
turn_plain delim multi c rest bytes plain on = by on.pieces on.reads
  where
    by : (n : ℕ) → body delim multi n (c ∷ rest) ≡ Some (bytes, []) → Left delim multi (c ∷ []) rest bytes
    by zero e = let none = body_zero delim multi (c ∷ rest) in absurd (cc)
    by (suc n) e = left_from delim multi (c ∷ []) rest bytes n (sym (body_plain delim multi n c rest plain) ∙ e)

-- what a byte that is not plain leads to
abbrev pub after : ℕ → Bool → ℕ → Option (Option (List ℕ) × List ℕ) → Read (List ℕ)
after delim multi n found = option_and_then (λ p. after_piece (body delim multi n) p.0 p.1) found

turned : (delim : ℕ) (multi : Bool) (text bytes : List ℕ) (found : Option (Option (List ℕ) × List ℕ)) → is_plain delim multi (first text) ≡ false
    → special delim multi text ≡ found → ReadsOn delim multi text bytes → (n : ℕ) × (after delim multi n found ≡ Some (bytes, []))
turned delim multi text bytes found other is on = by on.pieces on.reads
  where
    by : (n : ℕ) → body delim multi n text ≡ Some (bytes, []) → (n : ℕ) × (after delim multi n found ≡ Some (bytes, []))
    by zero e = let none = body_zero delim multi text in absurd (cc)
    by (suc n) e = (n, ap (after delim multi n) (sym is) ∙ sym (body_special delim multi n text other) ∙ e)

pub turn_piece : (delim : ℕ) (multi : Bool) (text front rest bytes : List ℕ) → is_plain delim multi (first text) ≡ false
    → special delim multi text ≡ Some (Some front, rest) → ReadsOn delim multi text bytes → Left delim multi front rest bytes
turn_piece delim multi text front rest bytes other is on =
    let (n, e) = turned delim multi text bytes (Some (Some front, rest)) other is on in
    left_from delim multi front rest bytes n e

pub turn_end : (delim : ℕ) (multi : Bool) (text rest bytes : List ℕ) → is_plain delim multi (first text) ≡ false
    → special delim multi text ≡ Some (None, rest) → ReadsOn delim multi text bytes → (bytes ≡ []) × (rest ≡ [])
turn_end delim multi text rest bytes other is on =
    let (n, e) = turned delim multi text bytes (Some (None, rest)) other is on in
    let (none, over) = some_pair {A = List ℕ} ([], rest) (bytes, []) e in
    (sym none, over)

pub turn_none : (delim : ℕ) (multi : Bool) (text bytes : List ℕ) → is_plain delim multi (first text) ≡ false
    → special delim multi text ≡ None → ReadsOn delim multi text bytes → ⊥
turn_none delim multi text bytes other is on =
    let (n, e) = turned delim multi text bytes None other is on in
    let no : ◌≡◌ {A = Read (List ℕ)} None (Some (bytes, [])) = e in
    absurd (cc)

-- a run of plain bytes
pub plain_run : (delim : ℕ) (multi : Bool) (front rest bytes : List ℕ) → ((k : ℕ) → k < length front → is_plain delim multi (get_or front k 0) ≡ true)
    → ReadsOn delim multi (front ++ rest) bytes → Left delim multi front rest bytes
plain_run delim multi [] rest bytes plain on = (bytes, refl, on)
plain_run delim multi (c ∷ front) rest bytes plain on =
    let (some, is, next) = turn_plain delim multi c (front ++ rest) bytes (plain 0 (omega arith)) on in
    let (more, is_more, last) = plain_run delim multi front rest some (λ k h. plain (suc k) (omega arith)) next in
    (more, is ∙ ap (λ (xs : List ℕ). c ∷ xs) is_more, last)

-- ---- the closing delimiter

pub delim_bounds : (delim : ℕ) → IsDelim delim → (0 < delim) × (delim < 128) × ¬ (delim ≡ 92)
delim_bounds delim (inl h) = (omega arith, omega arith, λ e. omega arith)
delim_bounds delim (inr h) = (omega arith, omega arith, λ e. omega arith)

pub not_plain_delim : (delim : ℕ) (multi : Bool) (c : ℕ) → (c == delim) ≡ true → is_plain delim multi c ≡ false
not_plain_delim delim multi c hit = rw hit refl

pub special_closing : (delim : ℕ) (multi : Bool) (text : List ℕ) → closes delim multi text ≡ true
    → (rest : List ℕ) × (special delim multi text ≡ Some (None, rest))
unfolding special
special_closing delim true text done =
    let (hit, three) = and_parts (first text == delim) (prefix_len (λ c. c == delim) text == 3) done in
    (drop 3 text, rw (hit, three) refl)
special_closing delim false text done =
    let (hit, more) = and_parts (first text == delim) true done in
    (drop 1 text, rw hit refl)

pub no_gap : (delim : ℕ) (multi : Bool) (text : List ℕ) → starts_escape delim text ≡ false → is_gap delim multi text ≡ false
no_gap delim multi text miss = ap (λ (b : Bool). b && cuts_line multi (drop 1 text)) miss

pub closing : (delim : ℕ) (multi : Bool) (text bytes : List ℕ) → IsDelim delim → closes delim multi text ≡ true
    → ReadsOn delim multi text bytes → IsClosing delim multi text bytes
closing delim multi text bytes is done on =
    let (rest, found) = special_closing delim multi text done in
    let hit : (first text == delim) ≡ true = (and_parts (first text == delim) (not multi || prefix_len (λ c. c == delim) text == 3) done).0 in
    let here : first text ≡ delim = eqb-true (first text) delim hit in
    let apart : (first text == 92) ≡ false = not_true _ (λ e. (delim_bounds delim is).2 (sym here ∙ eqb-true (first text) 92 e)) in
    record {
      nothing = (turn_end delim multi text rest bytes (not_plain_delim delim multi (first text) hit) found on).0;
      shown = no_gap delim multi text (ap (λ (b : Bool). b && (delim == 34)) apart);
    }

-- ---- a character that means itself

delim_char : (delim : ℕ) (multi : Bool) (c : ℕ) (rest bytes : List ℕ) → is_plain delim multi c ≡ false → (c == delim) ≡ true
    → closes delim multi (c ∷ rest) ≡ false → ReadsOn delim multi (c ∷ rest) bytes
    → special delim multi (c ∷ rest) ≡ Some (Some (c ∷ []), rest)
unfolding special
delim_char delim false c rest bytes other here shut on = absurd (true≢false (second_true (c == delim) true here shut))
delim_char delim true c rest bytes other here shut on =
    let count = prefix_len (λ x. x == delim) rest in
    let none : ((1 + count) == 3) ≡ false = rw here at (second_true (c == delim) (prefix_len (λ x. x == delim) (c ∷ rest) == 3) here shut) in
    let same : delim ≡ c = sym (eqb-true c delim here) in
    elim (cases_Bool (nat_lt (1 + count) 6)) [
      | inl few ↦ rw (here, none, few) (ap (λ (n : ℕ). Some (Some (n ∷ []), rest)) same)
      | inr many ↦ absurd (turn_none delim true (c ∷ rest) bytes other (rw (here, none, many) refl) on)
    ]

backslash_plain : (delim : ℕ) (multi : Bool) → (92 == delim) ≡ false → (delim == 34) ≡ false → is_plain delim multi 92 ≡ true
backslash_plain delim multi there away = rw (there, away) refl

special_char : (delim : ℕ) (multi : Bool) (c : ℕ) (rest bytes : List ℕ) → is_plain delim multi c ≡ false
    → closes delim multi (c ∷ rest) ≡ false → starts_escape delim (c ∷ rest) ≡ false → ReadsOn delim multi (c ∷ rest) bytes
    → special delim multi (c ∷ rest) ≡ Some (Some (c ∷ []), rest)
unfolding special
special_char delim multi c rest bytes other shut no_escape on =
    elim (cases_Bool (c == delim)) [
      | inl here ↦ delim_char delim multi c rest bytes other here shut on
      | inr there ↦ elim (cases_Bool (c == 92)) [
        | inl slash ↦
            let same : c ≡ 92 = eqb-true c 92 slash in
            let away : (delim == 34) ≡ false = second_true (c == 92) (delim == 34) slash no_escape in
            let apart : (92 == delim) ≡ false = ap (λ (n : ℕ). n == delim) (sym same) ∙ there in
            let plain : is_plain delim multi c ≡ true = ap (is_plain delim multi) same ∙ backslash_plain delim multi apart away in
            absurd (true≢false (sym plain ∙ other))
        | inr bare ↦ elim (cases_Bool (multi && starts_newline (c ∷ rest))) [
          | inl newline ↦ rw (there, bare, newline) refl
          | inr none ↦ absurd (turn_none delim multi (c ∷ rest) bytes other (rw (there, bare, none) refl) on)
        ]
      ]
    ]

pub char_turn : (delim : ℕ) (multi : Bool) (text rest bytes : List ℕ) (c : ℕ) → text ≡ encode_utf8 c ++ rest → IsDelim delim
    → closes delim multi text ≡ false → starts_escape delim text ≡ false → ReadsOn delim multi text bytes
    → Left delim multi (encode_utf8 c) rest bytes
char_turn delim multi text rest bytes c is kind shut no_escape on =
    elim (ascii_or_wide (first text)) [
      | inl ascii ↦
          let size : length text ≡ len_utf8 c + length rest = ap length is ∙ length-append (encode_utf8 c) rest ∙ ap (λ n. n + length rest) (length-encode c) in
          let one = len_utf8_bounds c in
          let here : c ≡ first text = char_from_byte text rest c is ascii (omega (arith, size, one.0)) in
          let alone : encode_utf8 c ≡ c ∷ [] = encode_ascii c (omega (arith, here, ascii)) in
          let whole : text ≡ c ∷ rest = is ∙ ap (λ (xs : List ℕ). xs ++ rest) alone in
          let on_char : ReadsOn delim multi (c ∷ rest) bytes = subst (λ xs. ReadsOn delim multi xs bytes) whole on in
          let still_open : closes delim multi (c ∷ rest) ≡ false = subst (λ xs. closes delim multi xs ≡ false) whole shut in
          let still_none : starts_escape delim (c ∷ rest) ≡ false = subst (λ xs. starts_escape delim xs ≡ false) whole no_escape in
          rw alone (by c rest on_char still_open still_none)
      | inr wide ↦
          plain_run delim multi (encode_utf8 c) rest bytes
          (λ k h. wide_plain delim multi (get_or (encode_utf8 c) k 0) kind (all_wide k h wide))
          (subst (λ xs. ReadsOn delim multi xs bytes) is on)
    ]
  where
    ascii_or_wide : (n : ℕ) → (n < 128) ⊎ (128 ≤ n)
    ascii_or_wide n = grind arith

    by : (c : ℕ) (rest : List ℕ) → ReadsOn delim multi (c ∷ rest) bytes → closes delim multi (c ∷ rest) ≡ false
        → starts_escape delim (c ∷ rest) ≡ false → Left delim multi (c ∷ []) rest bytes
    by c rest on shut no_escape =
        elim (cases_Bool (is_plain delim multi c)) [
          | inl plain ↦ turn_plain delim multi c rest bytes plain on
          | inr other ↦
              turn_piece delim multi (c ∷ rest) (c ∷ []) rest bytes other (special_char delim multi c rest bytes other shut no_escape on) on
        ]

    all_wide : (k : ℕ) → k < length (encode_utf8 c) → 128 ≤ first text → 128 ≤ get_or (encode_utf8 c) k 0
    all_wide k h wide =
        elim (ascii_or_wide (get_or (encode_utf8 c) k 0)) [
          | inl ascii ↦
              let none : encode_utf8 c ≡ encode_utf8 c ++ [] = sym (append-nil (encode_utf8 c)) in
              let low : c ≡ get_or (encode_utf8 c) k 0 = inside_one c [] (encode_utf8 c) k none h ascii in
              let front : first text ≡ c = byte_from_char text rest c is (omega (arith, low, ascii)) in
              absurd (omega (arith, front, low, ascii, wide))
          | inr high ↦ high
        ]

    wide_plain : (delim : ℕ) (multi : Bool) (b : ℕ) → IsDelim delim → 128 ≤ b → is_plain delim multi b ≡ true
    wide_plain delim multi b is wide = let bounds = delim_bounds delim is in grind (arith, nat_tests, bounds.1)
