-- The lines of a text, as a walk over it finds them.
use Rattle.std.proofs.Common.{◌≡◌, ℕ, ◌+◌, ◌-◌, ◌≤◌, ◌==◌, ◌⊎◌, zero, suc, inl, inr, List, [], ◌∷◌, ◌++◌, length, take, get_or, Some, refl, sym, ap, ◌∙◌, subst, arith}
use Rattle.std.specs.Prelude.{count_by, slice_get, sum_by}
use Rattle.std.specs.List.{after_last}
use Rattle.std.specs.Str.{IsUtf8, chars}
use Rattle.std.proofs.lemmas.Bool.{cases_Bool, cases_lt}
use Rattle.std.proofs.lemmas.List.{get_or-take, get_or_past, length_push, length-take-le, take-take}
use Rattle.std.proofs.lemmas.List.Sums.{get_or-le-sum_by}
use Rattle.std.proofs.lemmas.Option.{none-some, same_Some}
use Rattle.nextest_places.specs.declared.spans.position.TextPosition.{TextPosition}
use Rattle.nextest_places.specs.declared.spans.position.ColumnUnit.{ColumnUnit}
use Rattle.nextest_places.specs.declared.spans.position.ColumnUnit.TheVariants.{Byte}
use Rattle.nextest_places.specs.Spans.Lines.{AreLineStarts, IsLineStart}
use Rattle.nextest_places.specs.Spans.Positions.{IsPlace, IsStep, over_char, over_line_end, is_line_feed, position_behind, position_of, width}
use Rattle.nextest_places.proofs.spans.Rising.{width_bounds}
use Rattle.nextest_places.proofs.spans.Stepping.{Stepped, start_place, start_position}

-- a line that begins at a byte in one unit begins there in each
no_units : (u unit : ColumnUnit) (cs : List ℕ) → sum_by (width u) cs ≡ 0 → sum_by (width unit) cs ≡ 0
no_units u unit [] none = refl
no_units u unit (c ∷ cs) none =
    let first : width u c ≤ sum_by (width u) (c ∷ cs) = get_or-le-sum_by (width u) (c ∷ cs) 0 0 (omega arith) in
    absurd (omega (arith, none, first, (width_bounds u c).0))

in_unit : (u unit : ColumnUnit) (cs : List ℕ) (line : ℕ) → position_behind u cs ≡ record { line = line; column = 0 }
    → position_behind unit cs ≡ record { line = line; column = 0 }
unfolding position_behind
in_unit u unit cs line is =
    let same : count_by is_line_feed cs ≡ line = ap (λ (p : TextPosition). p.line) is in
    let none : sum_by (width unit) (after_last is_line_feed cs) ≡ 0 =
    no_units u unit (after_last is_line_feed cs) (ap (λ (p : TextPosition). p.column) is) in
    rw (same, none) refl

pub line_start : (text : List ℕ) (line byte : ℕ) → IsPlace text byte → position_of Byte text byte ≡ record { line = line; column = 0 } → IsLineStart text line byte
line_start text line byte place is = record {
  place = place;
  position = λ unit. in_unit Byte unit (chars (take byte text)) line is;
}

-- ---- the walk that finds the lines

-- the lines that begin up to a byte are found
pub record Lined (text : List ℕ) (byte : ℕ) (at : TextPosition) (starts : List ℕ) : Type 0 where
  pub place : IsPlace text byte
  pub position : at ≡ position_of Byte text byte
  pub count : length starts ≡ at.line + 1
  pub are : AreLineStarts text starts

pushed : (xs : List ℕ) (x k b : ℕ) → slice_get (xs ++ x ∷ []) k ≡ Some b
    → (slice_get xs k ≡ Some b) ⊎ ((k ≡ length xs) × (b ≡ x))
pushed [] x zero b h = inr (refl, sym (same_Some x b h))
pushed [] x (suc k) b h = absurd (none-some b h)
pushed (y ∷ xs) x zero b h = inl h
pushed (y ∷ xs) x (suc k) b h =
    elim (pushed xs x k b h) [
      | inl e ↦ inl e
      | inr e ↦ inr (ap suc e.0, e.1)
    ]

starts_push : (text starts : List ℕ) (byte : ℕ) → AreLineStarts text starts → IsLineStart text (length starts) byte
    → AreLineStarts text (starts ++ byte ∷ [])
starts_push text starts byte are new line b here =
    elim (pushed starts byte line b here) [
      | inl old ↦ are line b old
      | inr last ↦
          subst (λ n. IsLineStart text n b) (sym last.0) (subst (λ n. IsLineStart text (length starts) n) (sym last.1) new)
    ]

pub lined_start : (text : List ℕ) → IsUtf8 text → Lined text 0 (record { line = 0; column = 0 }) (0 ∷ [])
lined_start text utf8 = record {
  place = start_place text utf8;
  position = sym (start_position Byte text);
  count = refl;
  are = starts_push text [] 0 (λ line b here. absurd (none-some b here))
      (line_start text 0 0 (start_place text utf8) (start_position Byte text));
}

-- a step ends on the same line, or where the next one begins
turned : {text : List ℕ} (at : TextPosition) {len : ℕ} {next : TextPosition} → IsStep Byte text at len next → ¬ (next.line ≡ at.line)
    → next ≡ record { line = at.line + 1; column = 0 }
turned at (over_char c rest is alone) other =
    elim (cases_Bool (c == 10)) [
      | inl hit ↦ rw hit refl
      | inr miss ↦ absurd (other (rw miss refl))
    ]
turned at (over_line_end rest is) other = refl

pub lined_on : (text : List ℕ) (byte : ℕ) (at : TextPosition) (starts : List ℕ) (len : ℕ) (next : TextPosition) → Lined text byte at starts
    → Stepped Byte text byte len next → next.line ≡ at.line → Lined text (byte + len) next starts
lined_on text byte at starts len next lined step same = record {
  place = step.place;
  position = sym step.position;
  count = omega (arith, lined.count, same);
  are = lined.are;
}

pub lined_turn : (text rest : List ℕ) (byte : ℕ) (at : TextPosition) (starts : List ℕ) (len : ℕ) (next : TextPosition) → Lined text byte at starts
    → IsStep Byte rest at len next → Stepped Byte text byte len next → ¬ (next.line ≡ at.line)
    → Lined text (byte + len) next (starts ++ (byte + len) ∷ [])
lined_turn text rest byte at starts len next lined over step other =
    let is : next ≡ record { line = at.line + 1; column = 0 } = turned at over other in
    let line : next.line ≡ at.line + 1 = ap (λ (p : TextPosition). p.line) is in
    let new : IsLineStart text (at.line + 1) (byte + len) = line_start text (at.line + 1) (byte + len) step.place (step.position ∙ is) in
    record {
      place = step.place;
      position = sym step.position;
      count = omega (arith, length_push starts (byte + len), lined.count, line);
      are = starts_push text starts (byte + len) lined.are (subst (λ n. IsLineStart text n (byte + len)) (sym lined.count) new);
    }

-- ---- a place of the front of a text

pub place_in_front : (text : List ℕ) (place byte : ℕ) → IsPlace text place → place ≤ byte → byte ≤ length text → IsPlace (take byte text) place
place_in_front text place byte is le room =
    let size : length (take byte text) ≡ byte = length-take-le byte text room in
    elim (cases_lt place byte) [
      | inl less ↦
          let same : get_or (take byte text) place 0 ≡ get_or text place 0 = get_or-take byte text place 0 less in
          record {
            boundary = (omega (arith, size, le), λ inside high. rw (← same) at (is.boundary.1 (omega (arith, less, room)) (rw same at high)));
            whole = λ in_end. is.whole (record {
              some = in_end.some;
              after = sym (get_or-take byte text (place - 1) 0 (omega (arith, less))) ∙ in_end.after;
              before = sym same ∙ in_end.before;
            });
          }
      | inr end ↦
          let all : place ≡ byte = omega (arith, le, end) in
          record {
            boundary = (omega (arith, size, le), λ inside high. absurd (omega (arith, inside, size, end)));
            whole = λ in_end.
                let past : get_or (take byte text) place 0 ≡ 0 = get_or_past (take byte text) place 0 (omega (arith, size, end)) in
                absurd (omega (arith, past, in_end.before));
          }
    ]

pub position_in_front : (unit : ColumnUnit) (text : List ℕ) (place byte : ℕ) → place ≤ byte
    → position_of unit text place ≡ position_of unit (take byte text) place
position_in_front unit text place byte le = ap (λ xs. position_behind unit (chars xs)) (sym (take-take place byte text le))
