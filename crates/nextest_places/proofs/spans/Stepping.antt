-- A step from one place of a text to the next.
use Rattle.std.proofs.Common.{◌≡◌, ℕ, ◌+◌, ◌-◌, ◌<◌, ◌≤◌, ◌⊎◌, inl, inr, List, [], ◌∷◌, ◌++◌, length, get_or, take, drop, refl, sym, ap, ◌∙◌, subst, arith, append_assoc, length-append, length-drop}
use Rattle.std.specs.Prelude.{encode_utf8, encode_utf8_all}
use Rattle.std.specs.Char.{len_utf8}
use Rattle.std.specs.Str.{IsCharBoundary, IsUtf8, chars}
use Rattle.std.proofs.lemmas.List.{append-nil, get_or-drop, length-take-le, take-append-drop, take_at, take_all}
use Rattle.std.proofs.lemmas.Str.{IsCharBoundary-after_ascii, IsCharBoundary-past_char, IsCharBoundary-start, IsUtf8-between, IsUtf8-drop, IsUtf8-take, char_from_byte, chars-append, chars-nil, chars_past_char, encode_ascii, encode_same, encodes-chars, inside_one, length-encode, len_utf8_bounds}
use Rattle.nextest_places.specs.declared.spans.position.TextPosition.{TextPosition}
use Rattle.nextest_places.specs.declared.spans.position.ColumnUnit.{ColumnUnit}
use Rattle.nextest_places.specs.Spans.Positions.{IsBefore, IsByteAt, IsInLineEnd, IsPlace, IsStep, over_char, over_line_end, behind, position_behind, position_of}
use Rattle.nextest_places.proofs.spans.Rising.{before_trans, behind_char, position_fits, positions_rise, some_chars, take_between}

-- ---- what the code reads

pub at_char : (unit : ColumnUnit) (at : TextPosition) (rest more : List ℕ) (c n : ℕ) (next : TextPosition) → rest ≡ encode_utf8 c ++ more → ¬ (c ≡ 13)
    → n ≡ len_utf8 c → next ≡ behind unit at c → IsStep unit rest at n next
at_char unit at rest more c n next is other len_is next_is =
    rw (len_is, next_is) (over_char c more is (λ in_end.
    let first : get_or rest 0 0 ≡ 13 = in_end.after in
    let one = len_utf8_bounds c in
    let size : length rest ≡ len_utf8 c + length more = ap length is ∙ length-append (encode_utf8 c) more ∙ ap (λ n. n + length more) (length-encode c) in
    other (char_from_byte rest more c is (omega (arith, first)) (omega (arith, size, one.0)) ∙ first)))

pub at_lone_return : (unit : ColumnUnit) (at : TextPosition) (rest more : List ℕ) (c n : ℕ) (next : TextPosition) → rest ≡ encode_utf8 c ++ more
    → ¬ (get_or rest 1 0 ≡ 10) → n ≡ len_utf8 c → next ≡ behind unit at c → IsStep unit rest at n next
at_lone_return unit at rest more c n next is other len_is next_is =
    rw (len_is, next_is) (over_char c more is (λ in_end. other in_end.before))

second_is : (more : List ℕ) → get_or more 0 0 ≡ 10 → (r : List ℕ) × (more ≡ 10 ∷ r)
second_is [] h = absurd (omega (arith, h))
second_is (c ∷ r) h = (r, rw h refl)

pub at_line_end : (unit : ColumnUnit) (at : TextPosition) (rest more : List ℕ) (c : ℕ) (mid next : TextPosition) → rest ≡ encode_utf8 c ++ more → c ≡ 13
    → get_or rest 1 0 ≡ 10 → mid ≡ behind unit at c → next ≡ behind unit mid 10 → IsStep unit rest at 2 next
at_line_end unit at rest more c mid next is cr feed mid_is next_is =
    let front : rest ≡ 13 ∷ more =
    is ∙ ap (λ (xs : List ℕ). xs ++ more) (encode_ascii c (omega (arith, cr))) ∙ ap (λ (n : ℕ). n ∷ more) cr in
    let second : get_or more 0 0 ≡ 10 = rw front at feed in
    let (r, more_is) = second_is more second in
    let whole : rest ≡ 13 ∷ 10 ∷ r = front ∙ ap (λ (xs : List ℕ). 13 ∷ xs) more_is in
    let led : next ≡ behind unit (behind unit at 13) 10 =
    next_is ∙ ap (λ (p : TextPosition). behind unit p 10) (mid_is ∙ ap (λ (n : ℕ). behind unit at n) cr) in
    subst (λ (p : TextPosition). IsStep unit rest at 2 p) (sym led) (over_line_end r whole)

-- ---- what a step leads to

pub record Stepped (unit : ColumnUnit) (text : List ℕ) (byte len : ℕ) (next : TextPosition) : Type 0 where
  pub some : 0 < len
  pub within : byte + len ≤ length text
  pub place : IsPlace text (byte + len)
  pub position : position_of unit text (byte + len) ≡ next
  pub none_within : (b : ℕ) → IsPlace text b → byte < b → byte + len ≤ b

front_char : (c : ℕ) (more : List ℕ) → take (len_utf8 c) (encode_utf8 c ++ more) ≡ encode_utf8 c
front_char c more = take_at (encode_utf8 c) more (len_utf8 c) (length-encode c)

-- no character ends within another one
no_shorter : (c k : ℕ) (rest more : List ℕ) → rest ≡ encode_utf8 c ++ more → 0 < k → k ≤ length rest → IsUtf8 (take k rest) → len_utf8 c ≤ k
no_shorter c k rest more is some room utf8 =
    let ys = take k rest in
    let size : length ys ≡ k = length-take-le k rest room in
    from (chars ys) (some_chars ys utf8 (omega (arith, size, some))) (encodes-chars ys utf8)
  where
    from : (cs : List ℕ) → ¬ (cs ≡ []) → encode_utf8_all cs ≡ take k rest → len_utf8 c ≤ k
    from [] full spelled = absurd (full refl)
    from (d ∷ ds) full spelled =
        let whole : encode_utf8 d ++ (encode_utf8_all ds ++ drop k rest) ≡ encode_utf8 c ++ more =
        sym (append_assoc (encode_utf8 d) (encode_utf8_all ds) (drop k rest)) ∙ ap (λ xs. xs ++ drop k rest) spelled ∙ take-append-drop k rest ∙ is in
        let same : d ≡ c = (encode_same d c _ _ whole).0 in
        let long : len_utf8 d + length (encode_utf8_all ds) ≡ k =
        ap (λ n. n + length (encode_utf8_all ds)) (sym (length-encode d)) ∙ sym (length-append (encode_utf8 d) (encode_utf8_all ds)) ∙ ap length spelled ∙ length-take-le k rest room in
        rw (← same) (omega (arith, long))

module _ (unit : ColumnUnit) (text : List ℕ) (byte : ℕ) (utf8 : IsUtf8 text) (here : IsPlace text byte) where
  left : IsUtf8 (drop byte text)
  left = IsUtf8-drop text byte utf8 here.boundary

  over_one : (c : ℕ) (more : List ℕ) → drop byte text ≡ encode_utf8 c ++ more → ¬ IsInLineEnd (drop byte text) 1
      → Stepped unit text byte (len_utf8 c) (behind unit (position_of unit text byte) c)
  over_one c more is alone =
      let one = len_utf8_bounds c in
      let low : byte ≤ length text = here.boundary.0 in
      let len = len_utf8 c in
      let size : length (drop byte text) ≡ len + length more = ap length is ∙ length-append (encode_utf8 c) more ∙ ap (λ n. n + length more) (length-encode c) in
      let room : byte + len ≤ length text = omega (arith, size, length-drop byte text, low) in
      let bound : IsCharBoundary text (byte + len) = IsCharBoundary-past_char text more byte c low left is in
      let span : byte + len - byte ≡ len = omega arith in
      let piece : take (byte + len - byte) (drop byte text) ≡ encode_utf8 c = ap (λ n. take n (drop byte text)) span ∙ ap (take len) is ∙ front_char c more in
      let piece_utf8 : IsUtf8 (encode_utf8 c) = subst IsUtf8 piece (IsUtf8-between text byte (byte + len) utf8 (omega arith) here.boundary bound) in
      let alone_char : chars (encode_utf8 c) ≡ c ∷ [] =
      chars_past_char (encode_utf8 c) [] c piece_utf8 (sym (append-nil (encode_utf8 c))) ∙ ap (λ xs. c ∷ xs) chars-nil in
      let whole : chars (take (byte + len) text) ≡ chars (take byte text) ++ c ∷ [] =
      ap chars (take_between text byte (byte + len) (omega arith)) ∙ ap (λ xs. chars (take byte text ++ xs)) piece
      ∙ chars-append (take byte text) (encode_utf8 c) (IsUtf8-take text byte utf8 here.boundary) ∙ ap (λ xs. chars (take byte text) ++ xs) alone_char in
      record {
        some = one.0;
        within = room;
        place = record {
          boundary = bound;
          whole = λ in_end.
              let last : get_or (drop byte text) (len - 1) 0 ≡ 13 =
              get_or-drop byte text (len - 1) 0 ∙ ap (λ n. get_or text n 0) (omega (arith, one.0)) ∙ in_end.after in
              let within : len - 1 < length (encode_utf8 c) = omega (arith, length-encode c, one.0) in
              let is_return : c ≡ 13 = inside_one c more (drop byte text) (len - 1) is within (omega (arith, last)) ∙ last in
              let short : len ≡ 1 = ap len_utf8 is_return in
              let first : get_or (drop byte text) 0 0 ≡ 13 = ap (λ n. get_or (drop byte text) (n - 1) 0) (sym short) ∙ last in
              let second : get_or (drop byte text) 1 0 ≡ 10 =
              get_or-drop byte text 1 0 ∙ ap (λ n. get_or text (byte + n) 0) (sym short) ∙ in_end.before in
              alone (record { some = omega arith; after = first; before = second });
        };
        position = ap (position_behind unit) whole ∙ behind_char unit (chars (take byte text)) c;
        none_within = λ b at less.
            let in_text : b ≤ length text = at.boundary.0 in
            let k : ℕ = b - byte in
            let front = IsUtf8-between text byte b utf8 (omega arith) here.boundary at.boundary in
            let long = no_shorter c (b - byte) (drop byte text) more is (omega (arith, less)) (omega (arith, length-drop byte text, in_text)) front in
            omega (arith, long, less);
      }

  over_two : (rest : List ℕ) → drop byte text ≡ 13 ∷ 10 ∷ rest → Stepped unit text byte 2 (behind unit (behind unit (position_of unit text byte) 13) 10)
  unfolding chars
  over_two rest is =
      let low : byte ≤ length text = here.boundary.0 in
      let size : length (drop byte text) ≡ 2 + length rest = ap length is ∙ omega arith in
      let room : byte + 2 ≤ length text = omega (arith, size, length-drop byte text, low) in
      let first : get_or text byte 0 ≡ 13 = ap (λ n. get_or text n 0) (omega arith) ∙ sym (get_or-drop byte text 0 0) ∙ ap (λ xs. get_or xs 0 0) is in
      let second : get_or text (byte + 1) 0 ≡ 10 = sym (get_or-drop byte text 1 0) ∙ ap (λ xs. get_or xs 1 0) is in
      let sum : byte + 1 + 1 ≡ byte + 2 = omega arith in
      let bound : IsCharBoundary text (byte + 2) =
      subst (IsCharBoundary text) sum (IsCharBoundary-after_ascii text (byte + 1) utf8 (omega (arith, room)) (omega (arith, second))) in
      let span : byte + 2 - byte ≡ 2 = omega arith in
      let piece : take (byte + 2 - byte) (drop byte text) ≡ 13 ∷ 10 ∷ [] = ap (λ n. take n (drop byte text)) span ∙ ap (take 2) is in
      let two : chars (13 ∷ 10 ∷ []) ≡ 13 ∷ 10 ∷ [] = refl in
      let whole : chars (take (byte + 2) text) ≡ chars (take byte text) ++ 13 ∷ 10 ∷ [] =
      ap chars (take_between text byte (byte + 2) (omega arith)) ∙ ap (λ xs. chars (take byte text ++ xs)) piece
      ∙ chars-append (take byte text) (13 ∷ 10 ∷ []) (IsUtf8-take text byte utf8 here.boundary) ∙ ap (λ xs. chars (take byte text) ++ xs) two in
      let parts : (chars (take byte text) ++ 13 ∷ []) ++ 10 ∷ [] ≡ chars (take byte text) ++ 13 ∷ 10 ∷ [] = append_assoc (chars (take byte text)) (13 ∷ []) (10 ∷ []) in
      record {
        some = omega arith;
        within = room;
        place = record {
          boundary = bound;
          whole = λ in_end.
              let before : byte + 2 - 1 ≡ byte + 1 = omega arith in
              let return : get_or text (byte + 1) 0 ≡ 13 = ap (λ n. get_or text n 0) (sym before) ∙ in_end.after in
              absurd (omega (arith, return, second));
        };
        position = ap (position_behind unit) (whole ∙ sym parts) ∙ behind_char unit (chars (take byte text) ++ 13 ∷ []) 10
            ∙ ap (λ p. behind unit p 10) (behind_char unit (chars (take byte text)) 13);
        none_within = λ b at less.
            elim (apart b less) [
              | inl far ↦ far
              | inr near ↦
                  let before : b - 1 ≡ byte = omega (arith, near) in
                  let return : get_or text (b - 1) 0 ≡ 13 = ap (λ n. get_or text n 0) before ∙ first in
                  let feed : get_or text b 0 ≡ 10 = ap (λ n. get_or text n 0) near ∙ second in
                  absurd (at.whole (record { some = omega (arith, less); after = return; before = feed }))
            ];
      }
    where
      apart : (b : ℕ) → byte < b → (byte + 2 ≤ b) ⊎ (b ≡ byte + 1)
      apart b less = grind arith

  pub stepped : {rest : List ℕ} {at : TextPosition} {len : ℕ} {next : TextPosition} → IsStep unit rest at len next → rest ≡ drop byte text
      → at ≡ position_of unit text byte → Stepped unit text byte len next
  stepped (over_char c more is alone) e p =
      rw p (over_one c more (sym e ∙ is) (subst (λ xs. ¬ IsInLineEnd xs 1) e alone))
  stepped (over_line_end more is) e p = rw p (over_two more (sym e ∙ is))

-- ---- the byte at a position

pub start_place : (text : List ℕ) → IsUtf8 text → IsPlace text 0
start_place text utf8 = record {
  boundary = IsCharBoundary-start text utf8;
  whole = λ in_end. absurd (omega (arith, in_end.some));
}

pub start_position : (unit : ColumnUnit) (text : List ℕ) → position_of unit text 0 ≡ record { line = 0; column = 0 }
unfolding position_behind chars
start_position unit text = refl

pub start_reached : (p : TextPosition) → ¬ IsBefore p (record { line = 0; column = 0 })
start_reached p (inl h) = absurd (omega (arith, h))
start_reached p (inr h) = absurd (omega (arith, h.1))

before_all : (unit : ColumnUnit) (text : List ℕ) (p : TextPosition) (a b : ℕ) → IsUtf8 text → IsPlace text a → IsPlace text b → a ≤ b
    → IsBefore p (position_of unit text a) → IsBefore p (position_of unit text b)
before_all unit text p a b utf8 at_a at_b less h =
    elim (apart a b less) [
      | inl more ↦ before_trans _ _ _ h (positions_rise unit text a b utf8 at_a.boundary at_b.boundary more)
      | inr same ↦ subst (λ n. IsBefore p (position_of unit text n)) same h
    ]
  where
    apart : (a b : ℕ) → a ≤ b → (a < b) ⊎ (a ≡ b)
    apart a b less = grind arith

-- the walk ends where the next place is behind the position
pub stops : (unit : ColumnUnit) (text : List ℕ) (p at : TextPosition) (byte len : ℕ) (next : TextPosition) → IsUtf8 text → IsPlace text byte
    → at ≡ position_of unit text byte → ¬ IsBefore p at → Stepped unit text byte len next → IsBefore p next → IsByteAt unit text p byte
stops unit text p at byte len next utf8 here at_is reached step beyond = record {
  place = here;
  reached = λ h. reached (subst (λ (q : TextPosition). IsBefore p q) (sym at_is) h);
  last = λ b there less.
      before_all unit text p (byte + len) b utf8 step.place there (step.none_within b there less)
      (subst (λ (q : TextPosition). IsBefore p q) (sym step.position) beyond);
}

-- or at the text's end
pub stops_at_end : (unit : ColumnUnit) (text : List ℕ) (p at : TextPosition) (byte : ℕ) → IsPlace text byte
    → at ≡ position_of unit text byte → ¬ IsBefore p at → drop byte text ≡ [] → IsByteAt unit text p byte
stops_at_end unit text p at byte here at_is reached over = record {
  place = here;
  reached = λ h. reached (subst (λ (q : TextPosition). IsBefore p q) (sym at_is) h);
  last = λ b there less. absurd (omega (arith, there.boundary.0, ap length over, length-drop byte text, less));
}

-- what a step asks
pub step_fits : (unit : ColumnUnit) (text rest : List ℕ) (at : TextPosition) (byte : ℕ) → IsUtf8 text → IsPlace text byte
    → at ≡ position_of unit text byte → rest ≡ drop byte text → at.line + at.column + length rest ≤ length text
step_fits unit text rest at byte utf8 here at_is rest_is =
    let fits = position_fits unit text byte utf8 here.boundary in
    rw (at_is, rest_is) (omega (arith, fits, length-drop byte text, here.boundary.0))

never_before : (p : TextPosition) → IsBefore p p → ⊥
never_before p (inl h) = absurd (omega (arith, h))
never_before p (inr h) = absurd (omega (arith, h.1))

-- the byte at the position of a place is that place
pub byte_again : (unit : ColumnUnit) (text : List ℕ) (p : TextPosition) (r : ℕ) → IsUtf8 text → IsByteAt unit text p r
    → (byte : ℕ) → IsPlace text byte → position_of unit text byte ≡ p → r ≡ byte
byte_again unit text p r utf8 is byte at same =
    elim (apart r byte) [
      | inl less ↦ absurd (never_before p (subst (λ q. IsBefore p q) same (is.last byte at less)))
      | inr (inl more) ↦
          absurd (is.reached (subst (λ q. IsBefore q (position_of unit text r)) same (positions_rise unit text byte r utf8 at.boundary is.place.boundary more)))
      | inr (inr e) ↦ e
    ]
  where
    apart : (a b : ℕ) → (a < b) ⊎ ((b < a) ⊎ (a ≡ b))
    apart a b = grind arith

-- all of a text was walked
pub walked : (unit : ColumnUnit) (text : List ℕ) (byte : ℕ) → byte ≤ length text → drop byte text ≡ [] → position_of unit text byte ≡ position_behind unit (chars text)
walked unit text byte low over =
    let all : byte ≡ length text = omega (arith, ap length over, length-drop byte text, low) in
    ap (λ xs. position_behind unit (chars xs)) (take_all byte text (omega (arith, all)))
