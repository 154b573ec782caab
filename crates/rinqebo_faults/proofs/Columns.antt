-- A line from so many characters on.
use Rattle.std.proofs.Common.{◌≡◌, ◌+◌, ◌-◌, ℕ, zero, suc, true, false, List, [], ◌∷◌, ◌++◌, Option, None, Some, Bor, length, take, drop, refl, sym, ap, ◌∙◌, subst, arith, add-zero, zero-add, cond, not, ◌||◌, inl, inr, length-append, length-drop, append_assoc}
use Rattle.std.specs.Prelude.{slice_get, unwrap_or}
use Rattle.std.specs.Char.{encode_utf8}
use Rattle.std.specs.List.{list_any, position_or_len}
use Rattle.std.specs.Str.{IsCharBoundary, IsUtf8, chars, encode_utf8_all}
use Rattle.std.specs.Str.Iter.{char_indices_offset, char_indices_rest, char_indices_steps}
use Rattle.std.specs.Str.Pattern.{GetsRange}
use Rattle.std.specs.declared.str.CharIndices.{CharIndices}
use Rattle.std.proofs.Math.Utf8.{scalars}
use Rattle.std.proofs.lemmas.Bool.{and_parts, cases_Bool}
use Rattle.std.proofs.lemmas.List.{take_all}
use Rattle.std.proofs.lemmas.Iterator.{YieldsList}
use Rattle.std.proofs.lemmas.Iterator.Splits.{YieldsList-from_shown_while}
use Rattle.std.proofs.lemmas.Str.{IsCharBoundary-at_seam, IsCharBoundary-end, IsUtf8-past_char, chars-nil, chars_past_char, encodes-chars, scalars-chars}
use Rattle.rinqebo_faults.specs.Meant.{from_column, is_equals}

-- where a test holds of no byte before the end, it holds of none
pub none_any : (text : List ℕ) → position_or_len is_equals text ≡ length text
    → list_any is_equals text ≡ false
none_any [] none = refl
none_any (b ∷ text) none =
    elim (cases_Bool (is_equals b)) [
      | inl holds ↦
          let here : position_or_len is_equals (b ∷ text) ≡ 0 =
          ap (λ t. cond (not t) (1 + position_or_len is_equals text) 0) holds in
          let long : length (b ∷ text) ≡ length text + 1 = omega arith in
          absurd (omega arith)
      | inr fails ↦
          let further : position_or_len is_equals (b ∷ text) ≡ 1 + position_or_len is_equals text =
          ap (λ t. cond (not t) (1 + position_or_len is_equals text) 0) fails in
          let long : length (b ∷ text) ≡ length text + 1 = omega arith in
          ap (λ t. t || list_any is_equals text) fails ∙ none_any text (omega arith)
    ]

-- characters with the bytes at which they start
pub indexed : ℕ → List ℕ → List (ℕ × ℕ)
indexed at [] = []
indexed at (c ∷ cs) = (at, c) ∷ indexed (at + length (encode_utf8 c)) cs

shown : CharIndices → List (ℕ × ℕ)
shown s = indexed (char_indices_offset s) (chars (char_indices_rest s))

none_left : (at : ℕ) (text : List ℕ) → length text ≡ 0 → length (indexed at (chars text)) ≡ 0
unfolding indexed
none_left at [] none = ap (λ cs. length (indexed at cs)) chars-nil
none_left at (b ∷ text) none = absurd (omega arith)

one_taken : (at : ℕ) (text rest : List ℕ) (p : ℕ × ℕ) (next : ℕ) → IsUtf8 text → p.0 ≡ at
    → text ≡ encode_utf8 p.1 ++ rest → next ≡ at + length (encode_utf8 p.1)
    → indexed at (chars text) ≡ p ∷ indexed next (chars rest)
unfolding indexed
one_taken at text rest p next utf8 here is behind =
    ap (indexed at) (chars_past_char text rest p.1 utf8 is)
    ∙ ap (λ k. (at, p.1) ∷ indexed k (chars rest)) (sym behind)
    ∙ ap (λ k. (k, p.1) ∷ indexed next (chars rest)) (sym here)

-- what `char_indices` gives
gives_shown : (s : CharIndices) → IsUtf8 (char_indices_rest s)
    → YieldsList char_indices_steps (λ p. p) s (shown s)
unfolding shown
gives_shown s utf8 =
    YieldsList-from_shown_while char_indices_steps (λ p. p) shown (λ t. IsUtf8 (char_indices_rest t))
    (λ a b u h. none_left (char_indices_offset a) (char_indices_rest a) h.0)
    (λ a p b u h. (
      IsUtf8-past_char (char_indices_rest a) (char_indices_rest b) p.1 u h.1,
      one_taken (char_indices_offset a) (char_indices_rest a) (char_indices_rest b) p (char_indices_offset b) u h.0 h.1 h.2,
    ))
    s utf8

some_pair : (p q : ℕ × ℕ) → Some p ≡ Some q → p ≡ q
some_pair p q e = cc

pub gives_indexed : (s : CharIndices) (text : List ℕ) → IsUtf8 text → char_indices_rest s ≡ text
    → char_indices_offset s ≡ 0 → YieldsList char_indices_steps (λ p. p) s (indexed 0 (chars text))
unfolding shown
gives_indexed s text utf8 is first =
    subst (YieldsList char_indices_steps (λ p. p) s)
    (ap (λ n. indexed n (chars (char_indices_rest s))) first ∙ ap (λ t. indexed 0 (chars t)) is)
    (gives_shown s (subst IsUtf8 (sym is) utf8))

-- the character at a place starts behind those before it
at_place : (at n : ℕ) (cs : List ℕ) (p : ℕ × ℕ) → slice_get (indexed at cs) n ≡ Some p
    → p.0 ≡ at + length (encode_utf8_all (take n cs))
unfolding indexed
at_place at n [] p is = absurd (cc)
at_place at zero (c ∷ cs) p is =
    let same : (at, c) ≡ p = some_pair (at, c) p is in
    sym (ap (λ q. q.0) same) ∙ sym (add-zero at)
at_place at (suc n) (c ∷ cs) p is =
    let more = at_place (at + length (encode_utf8 c)) n cs p is in
    let long : length (encode_utf8 c ++ encode_utf8_all (take n cs))
    ≡ length (encode_utf8 c) + length (encode_utf8_all (take n cs)) =
    length-append (encode_utf8 c) (encode_utf8_all (take n cs)) in
    let further : (at + length (encode_utf8 c)) + length (encode_utf8_all (take n cs))
    ≡ at + length (encode_utf8 c ++ encode_utf8_all (take n cs)) = omega arith in
    more ∙ further

drop_none : (n : ℕ) → drop {A = ℕ} n [] ≡ []
drop_none zero = refl
drop_none (suc n) = refl

none_behind : (at n : ℕ) (cs : List ℕ) → slice_get (indexed at cs) n ≡ None → drop n cs ≡ []
unfolding indexed
none_behind at n [] is = drop_none n
none_behind at zero (c ∷ cs) is = absurd (cc)
none_behind at (suc n) (c ∷ cs) is = none_behind (at + length (encode_utf8 c)) n cs is

-- some characters and the others
whole : (n : ℕ) (cs : List ℕ)
    → encode_utf8_all cs ≡ encode_utf8_all (take n cs) ++ encode_utf8_all (drop n cs)
whole zero cs = refl
whole (suc n) [] = refl
whole (suc n) (c ∷ cs) =
    ap (λ t. encode_utf8 c ++ t) (whole n cs)
    ∙ sym (append_assoc (encode_utf8 c) (encode_utf8_all (take n cs)) (encode_utf8_all (drop n cs)))

utf8_behind : (n : ℕ) (cs : List ℕ) → scalars cs ≡ true → IsUtf8 (encode_utf8_all (drop n cs))
utf8_behind zero cs good = (cs, (good, refl))
utf8_behind (suc n) [] good = ([], (refl, refl))
utf8_behind (suc n) (c ∷ cs) good = utf8_behind n cs (and_parts _ (scalars cs) good).1

past : (front back : List ℕ) → drop (length front) (front ++ back) ≡ back
past [] back = refl
past (b ∷ front) back = past front back

module _ (text : List ℕ) (utf8 : IsUtf8 text) (column : ℕ) (p : ℕ × ℕ)
    (is : slice_get (indexed 0 (chars text)) column ≡ Some p) where
  front : List ℕ
  front = encode_utf8_all (take column (chars text))

  seam : text ≡ front ++ from_column column text
  unfolding front
  seam = sym (encodes-chars text utf8) ∙ whole column (chars text)

  here : p.0 ≡ length front
  unfolding front
  here = at_place 0 column (chars text) p is ∙ zero-add (length (encode_utf8_all (take column (chars text))))

  boundary : IsCharBoundary text p.0
  boundary =
      subst (IsCharBoundary text) (sym here)
      (IsCharBoundary-at_seam text front (from_column column text) seam
      (utf8_behind column (chars text) (scalars-chars text utf8)))

  behind : drop p.0 text ≡ from_column column text
  behind =
      ap (λ n. drop n text) here ∙ ap (drop (length front)) seam
      ∙ past front (from_column column text)

  -- what follows that byte is the line from the column on
  pub rest_is : (found : Option (Bor (List ℕ))) (d : Bor (List ℕ))
      → GetsRange text p.0 (length text) found → (unwrap_or found d).now ≡ from_column column text
  rest_is None d none =
      absurd (none (boundary.0) boundary (IsCharBoundary-end text))
  rest_is (Some x) d h =
      h.0 ∙ take_all (length text - p.0) (drop p.0 text)
      (let l = length-drop p.0 text in omega arith) ∙ behind

-- and nothing if the line has no more characters
pub none_there : (text : List ℕ) (column : ℕ) → slice_get (indexed 0 (chars text)) column ≡ None
    → [] ≡ from_column column text
none_there text column none = sym (ap encode_utf8_all (none_behind 0 column (chars text) none))
