-- Strings and keys.
use Rattle.std.proofs.Common.{◌≡◌, ℕ, zero, suc, ◌≤◌, Bool, true, false, cond, ◌&&◌, ◌||◌, ◌==◌, nat_le, nat_lt, List, [], ◌∷◌, ◌++◌, length, take, drop, slice_index, encode_utf8, Option, Some, None, option_map, option_and_then, refl, sym, ap, ◌∙◌, inl, inr, arith, le-leb}
use Rattle.std.proofs.lemmas.Bool.{leb-true, cases_Bool, and_parts, true≢false}
use Rattle.std.proofs.lemmas.Bool.Decides.{nat_tests}
use Rattle.std.specs.List.{prefix_len, list_all}
use Rattle.std.specs.Char.{is_digit}
use Rattle.std.specs.Str.Parse.{digits_value}
use Rattle.toml_parser.specs.Lexical.{Read, first, is_bare, skip_ws, skip_lines, starts_newline}
use Rattle.toml_parser.specs.Strings.{simple_escape, hex_len, is_scalar, hex_escape, escape_char, escape, is_plain, at_delims, special, prepend, after_piece, body, trim_newline, one_line, quoted, starts_string, simple_key, Key, key_after}
use Rattle.nextest_places.proofs.GoesOn.{GoesOn, Left, here, next, first_same, second_same, within, after_first, after_any, run_same, skip_ws_grown, skip_grown}
use Rattle.nextest_places.proofs.Kept.{Kept, KeptLeft, kept_bind, kept_map, left_map, or_end}

-- a front with no newline
pub take_same : {behind : List ℕ} → (p : ℕ → Bool) (n : ℕ) (x y : List ℕ) → GoesOn behind x y → p 10 ≡ false
    → n ≤ length x → list_all p (take n x) ≡ true → (take n x ≡ take n y) × GoesOn behind (drop n x) (drop n y)
take_same p zero x y g none room all = (refl, g)
take_same p (suc n) x y here none room all = absurd (true≢false (sym all ∙ rw none))
take_same p (suc n) x y (next c xs ys g) none room all =
    let (one, others) = and_parts (p c) (list_all p (take n xs)) all in
    let (front, rest) = take_same p n xs ys g none (omega arith) others in
    (ap (λ t. c ∷ t) front, rest)

hex_kept : {behind : List ℕ} → (n : ℕ) (x y : List ℕ) → GoesOn behind x y
    → Kept behind (hex_escape n x) (hex_escape n y)
unfolding hex_escape
hex_kept n x y g =
    let digits = list_all (λ c. is_digit c 16) (take n x) in
    let scalar = is_scalar (digits_value 16 (take n x)) in
    elim (cases_Bool ((nat_le n (length x) && digits) && scalar)) [
      | inr bad ↦ rw bad tt
      | inl good ↦
          let (both, is_one) = and_parts (nat_le n (length x) && digits) scalar good in
          let (room, all) = and_parts (nat_le n (length x)) digits both in
          let fits : n ≤ length x = leb-true n (length x) room in
          let (front, rest) = take_same (λ c. is_digit c 16) n x y g refl fits all in
          let wide : nat_le n (length y) ≡ true = le-leb n (length y) (omega (arith, within x y g)) in
          rw good (drop n y, rest, rw (wide, ← front, all, is_one))
    ]

-- the letter of an escape is not a newline
hex_letter : (c : ℕ) → nat_lt 0 (hex_len c) ≡ true → (c == 10) ≡ false
hex_letter c h = grind (arith, nat_tests)

simple_letter : (c v : ℕ) → simple_escape c ≡ Some v → (c == 10) ≡ false
simple_letter c v h = grind (arith, nat_tests)

simple : {behind : List ℕ} → (o : Option ℕ) (x y : List ℕ) → o ≡ simple_escape (first x) → GoesOn behind x y
    → Kept behind (option_map (λ v. (v, drop 1 x)) o) (option_map (λ v. (v, drop 1 y)) o)
simple None x y e g = tt
simple (Some v) x y e g = (drop 1 y, after_first x y g (simple_letter (first x) v (sym e)), refl)

pub escape_char_kept : {behind : List ℕ} → (x y : List ℕ) → GoesOn behind x y
    → Kept behind (escape_char x) (escape_char y)
unfolding escape_char
escape_char_kept x y g =
    rw (← first_same x y g) (elim (cases_Bool (nat_lt 0 (hex_len (first x)))) [
      | inl hex ↦ rw hex (hex_kept (hex_len (first x)) (drop 1 x) (drop 1 y)
          (after_first x y g (hex_letter (first x) hex)))
      | inr other ↦ rw other (simple (simple_escape (first x)) x y refl g)
    ])

newline_same : {behind : List ℕ} → (x y : List ℕ) → GoesOn behind x y → starts_newline x ≡ starts_newline y
newline_same x y here = refl
newline_same x y (next c xs ys g) = rw (first_same xs ys g)

escape_kept : {behind : List ℕ} → (multi : Bool) (x y : List ℕ) → GoesOn behind x y
    → KeptLeft behind (escape multi x) (escape multi y)
unfolding escape
escape_kept multi x y g =
    let cut = skip_grown false x y g false in
    rw (← newline_same (skip_ws x) (skip_ws y) (skip_ws_grown x y g))
    (elim (cases_Bool (multi && starts_newline (skip_ws x))) [
      | inl ends ↦ rw ends (skip_lines y, cut, refl)
      | inr other ↦ rw other (left_map _ (escape_char x) (escape_char y) encode_utf8 (escape_char_kept x y g))
    ])

-- a delimiter of strings
abbrev pub is_delim : ℕ → Bool
is_delim c = c == 34 || c == 39

-- a piece, or the end of the string, which is not a newline
abbrev KeptPiece : List ℕ → Read (Option (List ℕ)) → Read (Option (List ℕ)) → Type 0
KeptPiece behind None s = Unit {0}
KeptPiece behind (Some (None, x)) s = (y : List ℕ) × GoesOn behind x y × (s ≡ Some (None, y))
KeptPiece behind (Some (Some b, x)) s = (y : List ℕ) × Left behind x y × (s ≡ Some (Some b, y))

piece_from : (behind : List ℕ) → (r s : Read (List ℕ)) → KeptLeft behind r s
    → KeptPiece behind (option_map (λ p. (Some p.0, p.1)) r) (option_map (λ p. (Some p.0, p.1)) s)
piece_from behind None s k = tt
piece_from behind (Some p) s k = let (y, g, e) = k in (y, g, ap (option_map (λ p. (Some p.0, p.1))) e)

delims_kept : {behind : List ℕ} → (delim : ℕ) (x y : List ℕ) → GoesOn behind x y → is_delim delim ≡ true
    → first x ≡ delim → KeptPiece behind (at_delims delim x) (at_delims delim y)
delims_kept delim x y g d at =
    let no_newline : (10 == delim) ≡ false = grind (arith, nat_tests) in
    let other : (first x == 10) ≡ false = grind (arith, nat_tests) in
    let (same, rest, front) = run_same (λ c. c == delim) x y g no_newline in
    let count = prefix_len (λ c. c == delim) x in
    rw (← same) (elim (cases_Bool (count == 3)) [
      | inl three ↦
          let n : count ≡ 3 = grind (arith, nat_tests) in
          rw three (drop 3 y, rw n at rest, refl)
      | inr unlike ↦ rw unlike (elim (cases_Bool (nat_lt count 6)) [
        | inl few ↦ rw few (drop 1 y, inr (after_first x y g other), refl)
        | inr many ↦ rw many tt
      ])
    ])

ending : {behind : List ℕ} → (multi : Bool) (delim : ℕ) (x y : List ℕ) → GoesOn behind x y
    → is_delim delim ≡ true → first x ≡ delim
    → KeptPiece behind (cond multi (at_delims delim x) (Some (None, drop 1 x)))
    (cond multi (at_delims delim y) (Some (None, drop 1 y)))
ending true delim x y g d at = delims_kept delim x y g d at
ending false delim x y g d at =
    let other : (first x == 10) ≡ false = grind (arith, nat_tests) in
    (drop 1 y, after_first x y g other, refl)

pub special_kept : {behind : List ℕ} → (delim : ℕ) (multi : Bool) (x y : List ℕ) → GoesOn behind x y
    → is_delim delim ≡ true → KeptPiece behind (special delim multi x) (special delim multi y)
unfolding special
special_kept delim multi x y g d =
    rw (← newline_same x y g, ← first_same x y g) (elim (cases_Bool (first x == delim)) [
      | inl at ↦ rw at (ending multi delim x y g d (grind (arith, nat_tests)))
      | inr unlike ↦ rw unlike (elim (cases_Bool (first x == 92)) [
        | inl slash ↦
            let other : (first x == 10) ≡ false = grind (arith, nat_tests) in
            rw slash (piece_from _ _ _ (escape_kept multi (drop 1 x) (drop 1 y) (after_first x y g other)))
        | inr plain ↦ rw plain (elim (cases_Bool (multi && starts_newline x)) [
          | inl line ↦ rw line (drop 1 y, after_any x y g, refl)
          | inr bad ↦ rw bad tt
        ])
      ])
    ])

-- no string goes on at the end of the text
body_end : (delim : ℕ) (multi : Bool) (n : ℕ) → is_delim delim ≡ true → body delim multi n [] ≡ None
unfolding body special
body_end delim multi zero d = refl
body_end delim true (suc n) d =
    let other : (0 == delim) ≡ false = grind (arith, nat_tests) in
    rw other refl
body_end delim false (suc n) d =
    let other : (0 == delim) ≡ false = grind (arith, nat_tests) in
    rw other refl

prepend_kept : (behind : List ℕ) → (b : List ℕ) (r s : Read (List ℕ)) → Kept behind r s
    → Kept behind (prepend b r) (prepend b s)
prepend_kept behind b r s k = kept_map _ r s (λ t. b ++ t) k

after_kept : (behind : List ℕ) → (p q : Option (Option (List ℕ) × List ℕ)) (f h : List ℕ → Read (List ℕ))
    → KeptPiece behind p q → ((x y : List ℕ) → Left behind x y → Kept behind (f x) (h y))
    → Kept behind (option_and_then (λ p. after_piece f p.0 p.1) p) (option_and_then (λ p. after_piece h p.0 p.1) q)
after_kept behind None q f h k more = tt
after_kept behind (Some (None, x)) q f h k more = let (y, g, e) = k in rw e (y, g, refl)
after_kept behind (Some (Some b, x)) q f h k more = let (y, g, e) = k in
    rw e (prepend_kept _ b (f x) (h y) (more x y g))

pub body_kept : {behind : List ℕ} → (delim : ℕ) (multi : Bool) (n m : ℕ) (x y : List ℕ)
    → is_delim delim ≡ true → n ≤ m → GoesOn behind x y → Kept behind (body delim multi n x) (body delim multi m y)
unfolding body
body_kept delim multi zero m x y d room g = tt
body_kept delim multi (suc n) zero x y d room g = absurd (omega arith)
body_kept delim multi (suc n) (suc m) x y d room g =
    let more = or_end (body delim multi n) (body delim multi m) (body_end delim multi n d)
    (λ v w k. body_kept delim multi n m v w d (omega arith) k) in
    rw (← first_same x y g) (elim (cases_Bool (is_plain delim multi (first x))) [
      | inl plain ↦ rw plain (prepend_kept _ (first x ∷ []) _ _ (more (drop 1 x) (drop 1 y) (after_any x y g)))
      | inr other ↦ rw other (after_kept _ _ _ (body delim multi n) (body delim multi m)
          (special_kept delim multi x y g d) more)
    ])

pub body_left : {behind : List ℕ} → (delim : ℕ) (multi : Bool) (n m : ℕ) (x y : List ℕ)
    → is_delim delim ≡ true → n ≤ m → Left behind x y → Kept behind (body delim multi n x) (body delim multi m y)
body_left delim multi n m x y d room =
    or_end (body delim multi n) (body delim multi m) (body_end delim multi n d)
    (λ v w k. body_kept delim multi n m v w d room k) x y

one_line_kept : {behind : List ℕ} → (x y : List ℕ) → GoesOn behind x y → starts_string x ≡ true
    → Kept behind (one_line x) (one_line y)
unfolding one_line
one_line_kept x y g d = rw (← first_same x y g)
    (body_left (first x) false _ _ (drop 1 x) (drop 1 y) d (within x y g) (after_any x y g))

trim_left : {behind : List ℕ} → (x y : List ℕ) → GoesOn behind x y → Left behind (trim_newline x) (trim_newline y)
trim_left x y here = inl refl
trim_left x y (next c xs ys g) =
    rw (← first_same xs ys g) (elim (cases_Bool (c == 10)) [
      | inl lf ↦ rw lf (inr g)
      | inr other ↦ rw other (elim (cases_Bool (c == 13 && first xs == 10)) [
        | inl both ↦ rw both (after_any xs ys g)
        | inr none ↦ rw none (inr (next c xs ys g))
      ])
    ])

-- three delimiters
third_same : {behind : List ℕ} → (x y : List ℕ) → GoesOn behind x y → (first x == 10) ≡ false
    → (slice_index x 1 == 10) ≡ false → slice_index x 2 ≡ slice_index y 2
third_same x y here a b = absurd (true≢false a)
third_same x y (next c xs ys g) a b = second_same xs ys g b

after_three : {behind : List ℕ} → (x y : List ℕ) → GoesOn behind x y → (first x == 10) ≡ false
    → (slice_index x 1 == 10) ≡ false → (slice_index x 2 == 10) ≡ false → GoesOn behind (drop 3 x) (drop 3 y)
after_three x y here a b c = absurd (true≢false a)
after_three x y (next e xs ys here) a b c = absurd (true≢false b)
after_three x y (next e xs ys (next f us vs g)) a b c = after_first us vs g c

pub quoted_kept : {behind : List ℕ} → (x y : List ℕ) → GoesOn behind x y → starts_string x ≡ true
    → Kept behind (quoted x) (quoted y)
unfolding quoted
quoted_kept x y g d =
    let a : (first x == 10) ≡ false = grind (arith, nat_tests) in
    rw (← second_same x y g a, ← first_same x y g) (elim (cases_Bool (slice_index x 1 == first x)) [
      | inr one ↦ rw one (one_line_kept x y g d)
      | inl two ↦
          let b : (slice_index x 1 == 10) ≡ false = grind (arith, nat_tests) in
          rw (two, ← third_same x y g a b) (elim (cases_Bool (slice_index x 2 == first x)) [
            | inr one ↦ rw one (one_line_kept x y g d)
            | inl three ↦
                let c : (slice_index x 2 == 10) ≡ false = grind (arith, nat_tests) in
                let rest = after_three x y g a b c in
                rw three (body_left (first x) true _ _ _ _ d (within x y g) (trim_left (drop 3 x) (drop 3 y) rest))
          ])
    ])

pub simple_key_kept : {behind : List ℕ} → (x y : List ℕ) → GoesOn behind x y → Kept behind (simple_key x) (simple_key y)
unfolding simple_key
simple_key_kept x y g =
    rw (← first_same x y g) (elim (cases_Bool (starts_string x)) [
      | inl string ↦ rw string (one_line_kept x y g string)
      | inr other ↦ rw other (elim (cases_Bool (is_bare (first x))) [
        | inl bare ↦
            let (same, rest, front) = run_same is_bare x y g refl in
            rw bare (drop (prefix_len is_bare y) y, rw (← same) rest, rw (← same, front))
        | inr none ↦ rw none tt
      ])
    ])

-- what follows a part of a key
abbrev key_more : ℕ → List (List ℕ) → List ℕ × List ℕ → Read Key
key_more n path part =
    cond (first (skip_ws part.1) == 46)
    (key_after n (path ++ part.0 ∷ []) (skip_ws (drop 1 (skip_ws part.1)))) (Some ((path, part.0), skip_ws part.1))

pub key_kept : {behind : List ℕ} → (n : ℕ) (path : List (List ℕ)) (x y : List ℕ) → GoesOn behind x y
    → Kept behind (key_after n path x) (key_after n path y)
unfolding key_after
key_kept zero path x y g = tt
key_kept (suc n) path x y g =
    kept_bind (simple_key x) (simple_key y) (key_more n path) (key_more n path) (simple_key_kept x y g) (λ part v w k.
    let s = skip_ws_grown v w k in
    rw (← first_same (skip_ws v) (skip_ws w) s) (elim (cases_Bool (first (skip_ws v) == 46)) [
      | inl dot ↦
          let other : (first (skip_ws v) == 10) ≡ false = grind (arith, nat_tests) in
          rw dot (key_kept n (path ++ part ∷ []) _ _ (skip_ws_grown _ _ (after_first _ _ s other)))
      | inr last ↦ rw last (skip_ws w, s, refl)
    ]))
