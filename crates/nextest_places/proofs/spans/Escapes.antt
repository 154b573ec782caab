-- Escapes, and the pieces of a content.
use Rattle.std.proofs.Common.{◌≡◌, ℕ, suc, ◌+◌, ◌-◌, ◌<◌, ◌≤◌, ◌⊎◌, inl, inr, Bool, true, false, ◌==◌, ◌&&◌, nat_lt, nat_le, List, [], ◌∷◌, ◌++◌, length, get_or, take, drop, Option, Some, None, is_some, unwrap_or, option_map, refl, sym, ap, ◌∙◌, subst, arith, length-append, length-drop, drop_at, eqb-true, get_or-take}
use Rattle.std.specs.Prelude.{encode_utf8}
use Rattle.std.specs.Char.{is_digit, len_utf8}
use Rattle.std.specs.List.{list_all}
use Rattle.std.proofs.lemmas.Bool.{and_parts, cases_Bool}
use Rattle.std.proofs.lemmas.Bool.Decides.{nat_tests}
use Rattle.std.proofs.lemmas.List.{drop-drop, get_or-drop, length-take-le}
use Rattle.std.specs.Str.{IsUtf8}
use Rattle.std.specs.Str.Parse.{digits_value}
use Rattle.std.proofs.lemmas.Str.{length-encode, len_utf8_bounds}
use Rattle.toml_parser.specs.Lexical.{Read, first, skip_from, skip_lines, skip_turn}
use Rattle.toml_parser.specs.Strings.{escape, escape_char, hex_escape, hex_len, is_plain, is_scalar, simple_escape, special}
use Rattle.toml_parser.proofs.LexicalLemmas.{within_from_byte}
use Rattle.toml_parser.proofs.NumbersLemmas.{hex_digit_bounds, list_all-at}
use Rattle.nextest_places.specs.Spans.Offsets.{ReadsOn, cuts_line, is_gap, starts_escape}
use Rattle.nextest_places.specs.Spans.Pieces.{IsDelim, IsEscape, IsPiece, closes}
use Rattle.nextest_places.proofs.spans.PositionTurns.{Left, char_turn, delim_bounds, no_gap, not_true, some_pair, turn_none, turn_piece}

-- ---- escapes

abbrev pub some_first : List ℕ × List ℕ → Option (List ℕ) × List ℕ
some_first p = (Some p.0, p.1)

abbrev spelled : ℕ × List ℕ → List ℕ × List ℕ
spelled p = (encode_utf8 p.0, p.1)

abbrev with_rest : List ℕ → ℕ → ℕ × List ℕ
with_rest rest c = (c, rest)

lt_true : (a b : ℕ) → nat_lt a b ≡ true → a < b
lt_true a b e = grind (arith, nat_tests)

no_more : (n : ℕ) → nat_lt 0 n ≡ false → n ≡ 0
no_more n e = grind (arith, nat_tests)

le_true : (a b : ℕ) → nat_le a b ≡ true → a ≤ b
le_true a b e = grind (arith, nat_tests)

escape_parts : (delim : ℕ) (text : List ℕ) → starts_escape delim text ≡ true → (first text ≡ 92) × (delim ≡ 34)
escape_parts delim text hit =
    let both = and_parts (first text == 92) (delim == 34) hit in
    (eqb-true (first text) 92 both.0, eqb-true delim 34 both.1)

pub escape_first : (delim : ℕ) (text : List ℕ) → starts_escape delim text ≡ true → first text ≡ 92
escape_first delim text hit = (escape_parts delim text hit).0

special_escape : (delim : ℕ) (multi : Bool) (text : List ℕ) → starts_escape delim text ≡ true
    → special delim multi text ≡ option_map some_first (escape multi (drop 1 text))
unfolding special
special_escape delim multi text hit =
    let (slash, is) = escape_parts delim text hit in
    let away : (first text == delim) ≡ false = rw (slash, is) refl in
    let there : (first text == 92) ≡ true = (and_parts (first text == 92) (delim == 34) hit).0 in
    rw (away, there) refl

not_plain_escape : (delim : ℕ) (multi : Bool) (text : List ℕ) → starts_escape delim text ≡ true → is_plain delim multi (first text) ≡ false
not_plain_escape delim multi text hit =
    let (slash, is) = escape_parts delim text hit in
    ap (is_plain delim multi) slash ∙ ap (λ (d : ℕ). is_plain d multi 92) is

pub escape_turn : (delim : ℕ) (multi : Bool) (text bytes : List ℕ) → starts_escape delim text ≡ true → ReadsOn delim multi text bytes
    → (p : List ℕ × List ℕ) × (escape multi (drop 1 text) ≡ Some p) × Left delim multi p.0 p.1 bytes
escape_turn delim multi text bytes hit on = by (escape multi (drop 1 text)) (special_escape delim multi text hit) refl
  where
    other : is_plain delim multi (first text) ≡ false
    other = not_plain_escape delim multi text hit

    by : (r : Read (List ℕ)) → special delim multi text ≡ option_map some_first (escape multi (drop 1 text)) → escape multi (drop 1 text) ≡ r
        → (p : List ℕ × List ℕ) × (escape multi (drop 1 text) ≡ Some p) × Left delim multi p.0 p.1 bytes
    by None found e = absurd (turn_none delim multi text bytes other (found ∙ ap (option_map some_first) e) on)
    by (Some p) found e =
        (p, e, turn_piece delim multi text p.0 p.1 bytes other (found ∙ ap (option_map some_first) e) on)

escape_gap : (multi : Bool) (text : List ℕ) (p : List ℕ × List ℕ) → cuts_line multi text ≡ true → escape multi text ≡ Some p
    → (p.0 ≡ []) × (p.1 ≡ skip_lines text)
unfolding escape
escape_gap multi text p hit e =
    let (none, lines) = some_pair {A = List ℕ} ([], skip_lines text) p (rw hit at e) in
    (sym none, sym lines)

escape_writes : (multi : Bool) (text : List ℕ) (p : List ℕ × List ℕ) → cuts_line multi text ≡ false → escape multi text ≡ Some p
    → (c : ℕ) × (p.0 ≡ encode_utf8 c) × (escape_char text ≡ Some (c, p.1))
unfolding escape
escape_writes multi text p miss e = by (escape_char text) refl (rw miss at e)
  where
    by : (r : Read ℕ) → escape_char text ≡ r → option_map spelled (escape_char text) ≡ Some p
        → (c : ℕ) × (p.0 ≡ encode_utf8 c) × (escape_char text ≡ Some (c, p.1))
    by None is e = let no : ◌≡◌ {A = Read (List ℕ)} None (Some p) = ap (option_map spelled) (sym is) ∙ e in absurd (cc)
    by (Some q) is e =
        let (front, rest) = some_pair {A = List ℕ} (spelled q) p (ap (option_map spelled) (sym is) ∙ e) in
        (q.0, sym front, is ∙ ap (λ (xs : List ℕ). Some (q.0, xs)) rest)

-- how an escape ends: with an ASCII byte that is not 0
pub record Ends (text rest : List ℕ) (len : ℕ) : Type 0 where
  pub rest_is : rest ≡ drop (1 + len) text
  pub some : 0 < get_or text len 0
  pub ascii : get_or text len 0 < 128

hex_some : (n : ℕ) (text : List ℕ) (c : ℕ) (rest : List ℕ) → hex_escape n text ≡ Some (c, rest)
    → (rest ≡ drop n text) × (n ≤ length text) × (list_all (λ c. is_digit c 16) (take n text) ≡ true)
unfolding hex_escape
hex_some n text c rest e =
    let room = nat_le n (length text) in
    let digits = list_all (λ c. is_digit c 16) (take n text) in
    let scalar = is_scalar (digits_value 16 (take n text)) in
    elim (cases_Bool ((room && digits) && scalar)) [
      | inl passes ↦
          let (here, last) = and_parts (room && digits) scalar passes in
          let (fits, all) = and_parts room digits here in
          let (value, rest_is) = some_pair {A = ℕ} (digits_value 16 (take n text), drop n text) (c, rest) (rw passes at e) in
          (sym rest_is, le_true n (length text) fits, all)
      | inr fails ↦ let none : ◌≡◌ {A = Read ℕ} None (Some (c, rest)) = rw fails at e in absurd (cc)
    ]

hex_ends : (n : ℕ) (text : List ℕ) (c : ℕ) (rest : List ℕ) → 0 < n → hex_escape n (drop 1 text) ≡ Some (c, rest) → Ends text rest n
hex_ends n text c rest more e =
    let (rest_is, room, digits) = hex_some n (drop 1 text) c rest e in
    let size : n - 1 < length (take n (drop 1 text)) = omega (arith, length-take-le n (drop 1 text) room) in
    let digit = list_all-at (λ c. is_digit c 16) (take n (drop 1 text)) (n - 1) digits size in
    let same : get_or (take n (drop 1 text)) (n - 1) 0 ≡ get_or text n 0 =
    get_or-take n (drop 1 text) (n - 1) 0 (omega arith) ∙ get_or-drop 1 text (n - 1) 0 ∙ ap (λ k. get_or text k 0) (omega arith) in
    let bounds = hex_digit_bounds (get_or text n 0) (rw same at digit) in
    record {
      rest_is = rest_is ∙ drop-drop n 1 text;
      some = bounds.0;
      ascii = bounds.1;
    }

apart : (b k : ℕ) → (b ≡ 0) ⊎ (128 ≤ b) → 0 < k → k < 128 → (b == k) ≡ false
apart b k (inl zero_is) some ascii = not_true _ (λ e. absurd (omega (arith, eqb-true b k e, zero_is, some)))
apart b k (inr wide) some ascii = not_true _ (λ e. absurd (omega (arith, eqb-true b k e, wide, ascii)))

no_letter : (b : ℕ) → (b ≡ 0) ⊎ (128 ≤ b) → simple_escape b ≡ None
no_letter b far =
    let b_is = apart b 98 far (omega arith) (omega arith) in
    let e_is = apart b 101 far (omega arith) (omega arith) in
    let f_is = apart b 102 far (omega arith) (omega arith) in
    let n_is = apart b 110 far (omega arith) (omega arith) in
    let r_is = apart b 114 far (omega arith) (omega arith) in
    let t_is = apart b 116 far (omega arith) (omega arith) in
    let quote_is = apart b 34 far (omega arith) (omega arith) in
    let slash_is = apart b 92 far (omega arith) (omega arith) in
    rw (b_is, e_is, f_is, n_is, r_is, t_is, quote_is, slash_is) refl

ascii_or_far : (b : ℕ) → ((0 < b) × (b < 128)) ⊎ ((b ≡ 0) ⊎ (128 ≤ b))
ascii_or_far b = grind arith

simple_some : (b : ℕ) → (simple_escape b ≡ None) ⊎ ((0 < b) × (b < 128))
simple_some b = elim (ascii_or_far b) [ inl ascii ↦ inr ascii | inr far ↦ inl (no_letter b far) ]

simple_ends : (text : List ℕ) (c : ℕ) (rest : List ℕ) → option_map (with_rest (drop 1 text)) (simple_escape (first text)) ≡ Some (c, rest) → Ends text rest 0
simple_ends text c rest e = elim (simple_some (first text)) [
  | inl none ↦ let no : ◌≡◌ {A = Read ℕ} None (Some (c, rest)) = ap (option_map (with_rest (drop 1 text))) (sym none) ∙ e in absurd (cc)
  | inr bounds ↦ by (simple_escape (first text)) e bounds
]
  where
    by : (r : Option ℕ) → option_map (with_rest (drop 1 text)) r ≡ Some (c, rest) → (0 < first text) × (first text < 128) → Ends text rest 0
    by None e bounds = let no : ◌≡◌ {A = Read ℕ} None (Some (c, rest)) = e in absurd (cc)
    by (Some d) e bounds = record { rest_is = sym (some_pair {A = ℕ} (d, drop 1 text) (c, rest) e).1; some = bounds.0; ascii = bounds.1 }

pub escape_ends : (text : List ℕ) (c : ℕ) (rest : List ℕ) → escape_char text ≡ Some (c, rest) → Ends text rest (hex_len (first text))
unfolding escape_char
escape_ends text c rest e = elim (cases_Bool (nat_lt 0 (hex_len (first text)))) [
  | inl some ↦ hex_ends (hex_len (first text)) text c rest (lt_true 0 (hex_len (first text)) some) (rw some at e)
  | inr none ↦
      let zero_is : hex_len (first text) ≡ 0 = no_more (hex_len (first text)) none in
      subst (λ n. Ends text rest n) (sym zero_is) (simple_ends text c rest (rw none at e))
]

-- ---- pieces

skipped : (comments inside : Bool) (text : List ℕ) → (k : ℕ) × (k ≤ length text) × (skip_from comments inside text ≡ drop k text)
unfolding skip_from
skipped comments inside [] = (0, omega arith, refl)
skipped comments inside (c ∷ cs) =
    let turn = skip_turn comments inside c (first cs) in
    let (k, room, is) = skipped comments (unwrap_or turn false) cs in
    elim (cases_Bool (is_some turn)) [
      | inl more ↦ rw more (suc k, omega arith, is)
      | inr stop ↦ rw stop (0, omega arith, refl)
    ]

pub escape_within : (multi : Bool) (text : List ℕ) (p : List ℕ × List ℕ) → escape multi text ≡ Some p → length p.1 ≤ length text
escape_within multi text p e = elim (cases_Bool (cuts_line multi text)) [
  | inl hit ↦
      let (none, lines) = escape_gap multi text p hit e in
      let (k, room, skips) = skipped false false text in
      omega (arith, ap length (lines ∙ skips), length-drop k text)
  | inr miss ↦
      let (c, front, char_is) = escape_writes multi text p miss e in
      let ends = escape_ends text c p.1 char_is in
      omega (arith, ap length ends.rest_is, length-drop (1 + hex_len (first text)) text)
]

gap_value : (delim : ℕ) (multi : Bool) (text : List ℕ) → starts_escape delim text ≡ true → is_gap delim multi text ≡ cuts_line multi (drop 1 text)
gap_value delim multi text hit = ap (λ (b : Bool). b && cuts_line multi (drop 1 text)) hit

-- the bytes that the code skips behind a backslash, where an escape is there
pub escape_stops : (multi : Bool) (text : List ℕ) (len byte : ℕ) → IsEscape multi text → cuts_line multi text ≡ false → byte ≡ first text → len ≡ 1 + hex_len byte
    → (0 < get_or text (len - 1) 0) × (get_or text (len - 1) 0 < 128) × ((p : List ℕ × List ℕ) → escape multi text ≡ Some p → drop len text ≡ p.1)
escape_stops multi text len byte (p, found) miss first_is len_is =
    let (c, front, char_is) = escape_writes multi text p miss found in
    let ends = escape_ends text c p.1 char_is in
    let whole : len ≡ 1 + hex_len (first text) = len_is ∙ ap (λ n. 1 + hex_len n) first_is in
    let last : hex_len (first text) ≡ len - 1 = sym (ap (λ n. n - 1) whole ∙ one_less (hex_len (first text))) in (
      subst (λ n. 0 < get_or text n 0) last ends.some,
      subst (λ n. get_or text n 0 < 128) last ends.ascii,
      λ q e. ap (λ n. drop n text) whole ∙ sym ends.rest_is ∙ (some_pair p q (sym found ∙ e)).1,
    )
  where
    one_less : (k : ℕ) → 1 + k - 1 ≡ k
    one_less k = omega arith

pub gap_stops : (multi : Bool) (text : List ℕ) → cuts_line multi text ≡ true → (p : List ℕ × List ℕ) → escape multi text ≡ Some p → skip_lines text ≡ p.1
gap_stops multi text hit p e = sym (escape_gap multi text p hit e).1

some_text : (text : List ℕ) (k : ℕ) → 0 < get_or text k 0 → k < length text
some_text text k some = within_from_byte text k some

room_for : (n a b : ℕ) → n < a → a ≡ b - 1 → 1 + (1 + n) ≤ b
room_for n a b less is = omega arith

pub escape_piece : (delim : ℕ) (multi : Bool) (text bytes : List ℕ) (gap : Bool) (rest : List ℕ) → starts_escape delim text ≡ true
    → ReadsOn delim multi text bytes → gap ≡ cuts_line multi (drop 1 text)
    → ((p : List ℕ × List ℕ) → escape multi (drop 1 text) ≡ Some p → rest ≡ p.1) → IsUtf8 rest → IsPiece delim multi text bytes gap rest
escape_piece delim multi text bytes gap rest hit on gap_is rest_is utf8 = by gap gap_is
  where
    by : (gap : Bool) → gap ≡ cuts_line multi (drop 1 text) → IsPiece delim multi text bytes gap rest
    by true cut =
        let (p, found, (more, bytes_are, next)) = escape_turn delim multi text bytes hit on in
        let (none, lines) = escape_gap multi (drop 1 text) p (sym cut) found in
        let (k, room, skips) = skipped false false (drop 1 text) in
        let there : 0 < length text = some_text text 0 (omega (arith, escape_first delim text hit)) in
        let same : more ≡ bytes = sym (bytes_are ∙ ap (λ xs. xs ++ more) none) in
        record {
          len = 1 + k;
          some = omega arith;
          within = omega (arith, room, length-drop 1 text, there);
          behind = rest_is p found ∙ lines ∙ skips ∙ drop-drop k 1 text;
          utf8 = utf8;
          gap_is = gap_value delim multi text hit ∙ sym cut;
          writes = rw (rest_is p found) (subst (λ xs. ReadsOn delim multi p.1 xs) same next);
        }
    by false whole =
        let (p, found, (more, bytes_are, next)) = escape_turn delim multi text bytes hit on in
        let (c, front, char_is) = escape_writes multi (drop 1 text) p (sym whole) found in
        let ends = escape_ends (drop 1 text) c p.1 char_is in
        let n = hex_len (first (drop 1 text)) in
        let room : n < length (drop 1 text) = some_text (drop 1 text) n ends.some in
        record {
          len = 1 + (1 + n);
          some = omega arith;
          within = room_for _ _ _ room (length-drop 1 text);
          behind = rest_is p found ∙ ends.rest_is ∙ drop-drop (1 + n) 1 text;
          utf8 = utf8;
          gap_is = gap_value delim multi text hit ∙ sym whole;
          writes = rw (rest_is p found) (c, more, bytes_are ∙ ap (λ xs. xs ++ more) front, next);
        }

pub char_piece : (delim : ℕ) (multi : Bool) (text bytes : List ℕ) (c : ℕ) (rest more : List ℕ) → text ≡ encode_utf8 c ++ more → rest ≡ drop (len_utf8 c) text
    → IsDelim delim → closes delim multi text ≡ false → starts_escape delim text ≡ false → ReadsOn delim multi text bytes
    → IsUtf8 rest → IsPiece delim multi text bytes false rest
char_piece delim multi text bytes c rest more is rest_is kind shut no_escape on utf8 =
    let (left, bytes_are, next) = char_turn delim multi text more bytes c is kind shut no_escape on in
    let one = len_utf8_bounds c in
    let size : length text ≡ len_utf8 c + length more = ap length is ∙ length-append (encode_utf8 c) more ∙ ap (λ n. n + length more) (length-encode c) in
    let same : rest ≡ more = rest_is ∙ ap (drop (len_utf8 c)) is ∙ drop_at (encode_utf8 c) more (len_utf8 c) (length-encode c) in
    record {
      len = len_utf8 c;
      some = one.0;
      within = omega (arith, size);
      behind = rest_is;
      utf8 = utf8;
      gap_is = no_gap delim multi text no_escape;
      writes = (c, left, bytes_are, subst (λ xs. ReadsOn delim multi xs left) (sym same) next);
    }

-- a content is some text
pub no_content : (delim : ℕ) (multi : Bool) (bytes : List ℕ) → IsDelim delim → ReadsOn delim multi [] bytes → ⊥
unfolding special
no_content delim multi bytes is on =
    let bounds = delim_bounds delim is in
    let apart : (0 == delim) ≡ false = grind (arith, nat_tests) in
    let other : is_plain delim multi 0 ≡ false = grind (arith, nat_tests) in
    turn_none delim multi [] bytes other (by multi apart) on
  where
    by : (multi : Bool) → (0 == delim) ≡ false → special delim multi [] ≡ None
    by true apart = rw apart refl
    by false apart = rw apart refl
