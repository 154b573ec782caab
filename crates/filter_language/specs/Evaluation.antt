-- Evaluating marks from left to right, with what is known of each open level on a stack.
use Rattle.std.specs.Prelude.{Bool, true, false, not, ◌==◌, List, [], ◌∷◌, Option, Some, option_map, length, if◌then◌else◌}
use Rattle.std.specs.List.{fold}
use Rattle.filter_language.specs.declared.evaluation.Level as level
use Rattle.filter_language.specs.declared.evaluation.Levels as levels
use Rattle.filter_language.specs.Formula.{Question}
use Rattle.filter_language.specs.Grammar.{Mark, Asked, NotMark, OpenMark, CloseMark, AndMark, OrMark, MinusMark}
use Rattle.filter_language.specs.Values.{known_and, known_or}

-- What is known within one pair of parentheses: by the sides left of the last `or`, by the
-- operands since then, and whether the next one counts the other way round.
pub record Known : Type 0 where
  pub either : Option Bool
  pub both : Option Bool
  pub negated : Bool

-- The innermost level, and those around it, the inner first.
pub record Stack : Type 0 where
  pub inner : Known
  pub outer : List Known

abbrev pub known_view : level.Level → Known
known_view l = record { either = l.either; both = l.both; negated = l.negated }

abbrev pub stack_view : levels.Levels → Stack
stack_view l = record {
  inner = known_view l.inner;
  outer = fold (λ outer k. known_view k ∷ outer) [] l.outer.items;
}

-- Behind an `or` whose left sides say something.
abbrev pub behind : Option Bool → Known
behind either = record { either = either; both = Some true; negated = false }

-- Nothing was said.
abbrev pub fresh : Known
fresh = behind (Some false)

-- What a level says.
abbrev pub said : Known → Option Bool
said k = known_or k.either k.both

-- The other way round, where something is true.
abbrev pub flipped_if : Bool → Option Bool → Option Bool
flipped_if negated x = if negated then option_map not x else x

-- A level with one more operand.
abbrev pub with_operand : Known → Option Bool → Known
with_operand k x = record {
  either = k.either;
  both = known_and k.both (flipped_if k.negated x);
  negated = false;
}

-- A level whose next operand counts the other way round.
abbrev pub flipped : Known → Known
flipped k = record { either = k.either; both = k.both; negated = not k.negated }

-- One more level, where there is room: 128 levels have room.
abbrev pub opened : Stack → Stack
opened s =
    if length s.outer == 128 then s else record { inner = fresh; outer = s.inner ∷ s.outer }

abbrev pub closed_by : Known → List Known → Stack
closed_by inner [] = record { inner = inner; outer = [] }
closed_by inner (k ∷ outer) = record { inner = with_operand k (said inner); outer = outer }

-- What is known behind one more mark.
abbrev pub with_mark : {L : Type 0} → (Question L → Option Bool) → Stack → Mark L → Stack
with_mark answers s (Asked q) = record { inner = with_operand s.inner (answers q); outer = s.outer }
with_mark answers s NotMark = record { inner = flipped s.inner; outer = s.outer }
with_mark answers s OpenMark = opened s
with_mark answers s CloseMark = closed_by s.inner s.outer
with_mark answers s AndMark = s
with_mark answers s OrMark = record { inner = behind (said s.inner); outer = s.outer }
with_mark answers s MinusMark = record { inner = flipped s.inner; outer = s.outer }

-- What is known behind more marks.
abbrev pub with_marks : {L : Type 0} → (Question L → Option Bool) → Stack → List (Mark L) → Stack
with_marks answers s [] = s
with_marks answers s (m ∷ marks) = with_marks answers (with_mark answers s m) marks

-- What marks say.
abbrev pub marks_value : {L : Type 0} → (Question L → Option Bool) → List (Mark L) → Option Bool
marks_value answers marks =
    said (with_marks answers (record { inner = fresh; outer = [] }) marks).inner
