-- Positions rise with the bytes.
use Rattle.std.proofs.Common.{◌≡◌, ℕ, ◌+◌, ◌-◌, ◌<◌, ◌≤◌, ◌==◌, inl, inr, Bool, not, cond, List, [], ◌∷◌, ◌++◌, length, take, drop, refl, sym, ap, ◌∙◌, arith, append_assoc, length-append, length-drop, add-zero}
use Rattle.std.specs.Prelude.{reverse, count_by, sum_by, encode_utf8_all}
use Rattle.std.specs.Char.{len_utf8}
use Rattle.std.specs.List.{after_last, suffix_len}
use Rattle.std.specs.Str.{IsCharBoundary, IsUtf8, chars}
use Rattle.std.proofs.lemmas.Bool.{cases_Bool}
use Rattle.std.proofs.lemmas.Bool.Decides.{nat_tests}
use Rattle.std.proofs.lemmas.List.{append-nil, drop_all, drop-append-le, drop-take, length_push, length-take-le, reverse-append, take-append-drop, take-take}
use Rattle.std.proofs.lemmas.List.Sums.{sum_by_push, suffix_len-le-length}
use Rattle.std.proofs.lemmas.Str.{IsUtf8-between, IsUtf8-take, chars-append, encodes-append, encodes-chars, length-encode, len_utf8_bounds}
use Rattle.nextest_places.specs.declared.spans.position.TextPosition.{TextPosition}
use Rattle.nextest_places.specs.declared.spans.position.ColumnUnit.{ColumnUnit}
use Rattle.nextest_places.specs.declared.spans.position.ColumnUnit.TheVariants.{Byte, Char, Utf16}
use Rattle.nextest_places.specs.Spans.Law.{PositionsRise}
use Rattle.nextest_places.specs.Spans.Positions.{IsBefore, behind, is_line_feed, position_behind, position_of, width}

-- ---- one more character

after_last_push : (p : ℕ → Bool) (xs : List ℕ) (c : ℕ) → after_last p (xs ++ c ∷ []) ≡ cond (p c) [] (after_last p xs ++ c ∷ [])
after_last_push p xs c =
    let q = λ (x : ℕ). not (p x) in
    let all = xs ++ c ∷ [] in
    let back : reverse all ≡ c ∷ reverse xs = reverse-append xs (c ∷ []) in
    elim (cases_Bool (p c)) [
      | inl hit ↦
          let none : suffix_len q all ≡ 0 = rw (back, hit) refl in
          rw hit (ap (λ n. drop (length all - n) all) none ∙ drop_all _ all (omega arith))
      | inr miss ↦
          let more : suffix_len q all ≡ 1 + suffix_len q xs = rw (back, miss) refl in
          let room = suffix_len-le-length q xs in
          let at : length all - (1 + suffix_len q xs) ≡ length xs - suffix_len q xs = omega (arith, length_push xs c, room) in
          rw miss (ap (λ n. drop (length all - n) all) more ∙ ap (λ n. drop n all) at ∙ drop-append-le _ xs (c ∷ []) (omega arith))
    ]

same_position : (a b c d : ℕ) → a ≡ c → b ≡ d
    → ◌≡◌ {A = TextPosition} (record { line = a; column = b }) (record { line = c; column = d })
same_position a b c d e f = rw (e, f) refl

pub behind_char : (unit : ColumnUnit) (cs : List ℕ) (c : ℕ)
    → position_behind unit (cs ++ c ∷ []) ≡ behind unit (position_behind unit cs) c
unfolding position_behind
behind_char unit cs c =
    let lines : count_by is_line_feed (cs ++ c ∷ []) ≡ count_by is_line_feed cs + cond (c == 10) 1 0 =
    sum_by_push (λ x. cond (x == 10) 1 0) cs c in
    let last : after_last is_line_feed (cs ++ c ∷ []) ≡ cond (c == 10) [] (after_last is_line_feed cs ++ c ∷ []) =
    after_last_push is_line_feed cs c in
    elim (cases_Bool (c == 10)) [
      | inl hit ↦
          let line : count_by is_line_feed (cs ++ c ∷ []) ≡ count_by is_line_feed cs + 1 = lines ∙ rw hit refl in
          let column : after_last is_line_feed (cs ++ c ∷ []) ≡ [] = last ∙ rw hit refl in
          rw hit (same_position _ _ _ _ line (ap (sum_by (width unit)) column))
      | inr miss ↦
          let line : count_by is_line_feed (cs ++ c ∷ []) ≡ count_by is_line_feed cs = lines ∙ rw miss (add-zero _) in
          let column : after_last is_line_feed (cs ++ c ∷ []) ≡ after_last is_line_feed cs ++ c ∷ [] = last ∙ rw miss refl in
          rw miss (same_position _ _ _ _ line (ap (sum_by (width unit)) column ∙ sum_by_push (width unit) (after_last is_line_feed cs) c))
    ]

pub width_bounds : (unit : ColumnUnit) (c : ℕ) → (0 < width unit c) × (width unit c ≤ len_utf8 c)
width_bounds Byte c = ((len_utf8_bounds c).0, omega arith)
width_bounds Char c = (omega arith, (len_utf8_bounds c).0)
width_bounds Utf16 c =
    let some : 0 < width Utf16 c = grind (arith, nat_tests) in
    let room : width Utf16 c ≤ len_utf8 c = grind (arith, nat_tests) in
    (some, room)

before_behind : (unit : ColumnUnit) (at : TextPosition) (c : ℕ) → IsBefore at (behind unit at c)
before_behind unit at c =
    elim (cases_Bool (c == 10)) [
      | inl hit ↦ rw hit (inl (omega arith))
      | inr miss ↦
          let some = (width_bounds unit c).0 in
          rw miss (inr (refl, omega (arith, some)))
    ]

pub before_trans : (a b c : TextPosition) → IsBefore a b → IsBefore b c → IsBefore a c
before_trans a b c (inl h) (inl k) = inl (omega arith)
before_trans a b c (inl h) (inr k) = inl (omega (arith, h, k.0))
before_trans a b c (inr h) (inl k) = inl (omega (arith, h.0, k))
before_trans a b c (inr h) (inr k) = inr (h.0 ∙ k.0, omega (arith, h.1, k.1))

rise_one : (unit : ColumnUnit) (cs : List ℕ) (d : ℕ) → IsBefore (position_behind unit cs) (position_behind unit (cs ++ d ∷ []))
rise_one unit cs d = rw (behind_char unit cs d) (before_behind unit (position_behind unit cs) d)

rise_chars : (unit : ColumnUnit) (ds cs : List ℕ) (d : ℕ) → IsBefore (position_behind unit cs) (position_behind unit (cs ++ d ∷ ds))
rise_chars unit [] cs d = rise_one unit cs d
rise_chars unit (e ∷ ds) cs d =
    let whole : (cs ++ d ∷ []) ++ e ∷ ds ≡ cs ++ d ∷ e ∷ ds = append_assoc cs (d ∷ []) (e ∷ ds) in
    let more = rise_chars unit ds (cs ++ d ∷ []) e in
    before_trans _ _ _ (rise_one unit cs d) (rw whole at more)

rise_some : (unit : ColumnUnit) (cs ds : List ℕ) → ¬ (ds ≡ []) → IsBefore (position_behind unit cs) (position_behind unit (cs ++ ds))
rise_some unit cs [] some = absurd (some refl)
rise_some unit cs (d ∷ ds) some = rise_chars unit ds cs d

-- ---- bytes

pub take_between : (text : List ℕ) (a b : ℕ) → a ≤ b → take b text ≡ take a text ++ take (b - a) (drop a text)
take_between text a b less =
    let sum : a + (b - a) ≡ b = omega arith in
    let front : take a (take b text) ≡ take a text = take-take a b text less in
    let back : drop a (take b text) ≡ take (b - a) (drop a text) = ap (λ n. drop a (take n text)) (sym sum) ∙ drop-take a (b - a) text in
    sym (take-append-drop a (take b text)) ∙ rw (front, back) refl

pub some_chars : (ys : List ℕ) → IsUtf8 ys → 0 < length ys → ¬ (chars ys ≡ [])
some_chars ys utf8 some none =
    let empty : encode_utf8_all (chars ys) ≡ [] = ap encode_utf8_all none in
    let is : ys ≡ [] = sym (encodes-chars ys utf8) ∙ empty in
    absurd (omega (arith, ap length is, some))

pub positions_rise : PositionsRise
positions_rise unit text a b utf8 at_a at_b less =
    let ys = take (b - a) (drop a text) in
    let front : IsUtf8 (take a text) = IsUtf8-take text a utf8 at_a in
    let piece : IsUtf8 ys = IsUtf8-between text a b utf8 (omega arith) at_a at_b in
    let whole : chars (take b text) ≡ chars (take a text) ++ chars ys = ap chars (take_between text a b (omega arith)) ∙ chars-append (take a text) ys front in
    let in_text : b ≤ length text = at_b.0 in
    let size : length ys ≡ b - a = length-take-le (b - a) (drop a text) (omega (arith, length-drop a text)) in
    rw whole (rise_some unit (chars (take a text)) (chars ys) (some_chars ys piece (omega arith)))

-- a position is no greater than the bytes before it
fits_chars : (unit : ColumnUnit) (ds cs : List ℕ)
    → (position_behind unit cs).line + (position_behind unit cs).column ≤ length (encode_utf8_all cs)
    → (position_behind unit (cs ++ ds)).line + (position_behind unit (cs ++ ds)).column ≤ length (encode_utf8_all (cs ++ ds))
fits_chars unit [] cs h = rw (append-nil cs) h
fits_chars unit (d ∷ ds) cs h =
    let whole : (cs ++ d ∷ []) ++ ds ≡ cs ++ d ∷ ds = append_assoc cs (d ∷ []) ds in
    let bounds = width_bounds unit d in
    let size : length (encode_utf8_all (cs ++ d ∷ [])) ≡ length (encode_utf8_all cs) + len_utf8 d =
    ap length (encodes-append cs (d ∷ [])) ∙ length-append (encode_utf8_all cs) _ ∙ ap (λ n. length (encode_utf8_all cs) + n) (ap length (append-nil _) ∙ length-encode d) in
    let one = len_utf8_bounds d in
    let next : (behind unit (position_behind unit cs) d).line + (behind unit (position_behind unit cs) d).column
    ≤ length (encode_utf8_all cs) + len_utf8 d =
    elim (cases_Bool (d == 10)) [ inl hit ↦ rw hit (omega (arith, h, one.0)) | inr miss ↦ rw miss (omega (arith, h, bounds.1)) ] in
    let here = rw (← behind_char unit cs d, ← size) at next in
    rw whole at (fits_chars unit ds (cs ++ d ∷ []) here)

pub position_fits : (unit : ColumnUnit) (text : List ℕ) (b : ℕ) → IsUtf8 text → IsCharBoundary text b
    → (position_of unit text b).line + (position_of unit text b).column ≤ b
unfolding position_behind
position_fits unit text b utf8 at =
    let front : IsUtf8 (take b text) = IsUtf8-take text b utf8 at in
    let start : (position_behind unit []).line + (position_behind unit []).column ≤ length (encode_utf8_all []) = omega arith in
    let fits = fits_chars unit (chars (take b text)) [] start in
    let size : length (encode_utf8_all (chars (take b text))) ≡ b = ap length (encodes-chars (take b text) front) ∙ length-take-le b text at.0 in
    omega (arith, fits, size)
