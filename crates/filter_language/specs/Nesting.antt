-- What is open around a place, and which marks may be there.
use Rattle.std.specs.Prelude.{◌≡◌, ℕ, suc, ◌+◌, nat_lt, Bool, true, false, List, [], ◌∷◌, Option, None, Some, option_map, if◌then◌else◌}
use Rattle.std.specs.List.{fold}
use Rattle.std.specs.Option.{option_and_then}
use Rattle.filter_language.specs.declared.reading.nesting.Nesting as nesting
use Rattle.filter_language.specs.declared.reading.operator.Operator.{Operator}
use Rattle.filter_language.specs.declared.reading.operator.Operator.TheVariants.{And, Or, Minus, Close}
use Rattle.filter_language.specs.Lexing.{operator_of}
use Rattle.filter_language.specs.Grammar.{Mark, Asked, NotMark, OpenMark, CloseMark, AndMark, OrMark, MinusMark}

-- The `not`s and parentheses around the innermost level, the `not`s that wait for an operand,
-- whether an operand is wanted, and what is around the levels further out, the inner first.
pub record Shape : Type 0 where
  pub around : ℕ
  pub nots : ℕ
  pub wants : Bool
  pub outer : List ℕ

abbrev pub shape_view : nesting.Nesting → Shape
shape_view n = record {
  around = n.around;
  nots = n.nots;
  wants = n.wants_operand;
  outer = fold (λ outer a. a ∷ outer) [] n.outer.items;
}

-- Nothing is open, and an operand is wanted.
abbrev pub start_shape : Shape
start_shape = record { around = 0; nots = 0; wants = true; outer = [] }

-- One more level, within 128 of them.
abbrev pub within_shape : Shape → Shape → Option Shape
within_shape s next = if nat_lt (s.around + s.nots) 128 then Some next else None

abbrev pub negated_shape : Shape → Option Shape
negated_shape s = within_shape s (record {
  around = s.around;
  nots = suc s.nots;
  wants = s.wants;
  outer = s.outer;
})

abbrev pub opened_shape : Shape → Option Shape
opened_shape s = within_shape s (record {
  around = suc (s.around + s.nots);
  nots = 0;
  wants = s.wants;
  outer = s.around ∷ s.outer;
})

abbrev pub complete_shape : Shape → Shape
complete_shape s = record { around = s.around; nots = 0; wants = false; outer = s.outer }

abbrev pub joined_shape : Shape → Shape
joined_shape s = record { around = s.around; nots = s.nots; wants = true; outer = s.outer }

abbrev pub closed_shape : List ℕ → Option Shape
closed_shape [] = None
closed_shape (around ∷ outer) =
    Some (record { around = around; nots = 0; wants = false; outer = outer })

-- A mark where an operand is wanted.
abbrev pub wanted_step : {L : Type 0} → Shape → Mark L → Option Shape
wanted_step s (Asked q) = Some (complete_shape s)
wanted_step s NotMark = negated_shape s
wanted_step s OpenMark = opened_shape s
wanted_step s _ = None

-- A mark behind an operand.
abbrev pub joining_step : {L : Type 0} → Shape → Mark L → Option Shape
joining_step s AndMark = Some (joined_shape s)
joining_step s OrMark = Some (joined_shape s)
joining_step s MinusMark = Some (joined_shape s)
joining_step s CloseMark = closed_shape s.outer
joining_step s _ = None

-- One more mark, or none where it may not be there.
abbrev pub shape_step : {L : Type 0} → Shape → Mark L → Option Shape
shape_step s m = if s.wants then wanted_step s m else joining_step s m

-- More marks.
abbrev pub shape_behind : {L : Type 0} → Shape → List (Mark L) → Option Shape
shape_behind s [] = Some s
shape_behind s (m ∷ marks) = option_and_then (λ next. shape_behind next marks) (shape_step s m)

-- A filter may end: an operand is complete, and no parenthesis is open.
abbrev pub MayEnd : Shape → Type 0
MayEnd s = (s.wants ≡ false) × (s.outer ≡ [])

-- The mark that an operator or a `)` is.
abbrev pub operator_mark : {L : Type 0} → Operator → Mark L
operator_mark And = AndMark
operator_mark Or = OrMark
operator_mark Minus = MinusMark
operator_mark Close = CloseMark

-- The operator or `)` that a text begins with, as a mark, and what follows it.
abbrev pub joining_mark : {L : Type 0} → List ℕ → Option (Mark L × List ℕ)
joining_mark {L} text =
    option_map {U = Mark L × List ℕ} (λ p. (operator_mark p.0, p.1)) (operator_of text)
