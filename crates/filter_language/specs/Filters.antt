-- The filter that a text writes, or its first fault.
use Rattle.std.specs.Prelude.{ℕ, zero, suc, ◌-◌, Bool, List, [], ◌∷◌, ◌++◌, Option, None, Some, Result, Ok, Err, length, option_map, codes, if◌then◌else◌}
use Rattle.std.specs.Option.{option_or}
use Rattle.std.specs.Result.{result_map_both}
use Rattle.nextest_engines.specs.declared.queries.FiltersetKind.{FiltersetKind}
use Rattle.filter_language.specs.declared.fault.FaultKind.{FaultKind}
use Rattle.filter_language.specs.declared.fault.FaultKind.TheVariants.{ExpectedExpr, TooDeeplyNested, ExpectedCloseParenthesis, ExpectedEndOfExpression, NoPackageGraph}
use Rattle.filter_language.specs.declared.fault.FiltersetFault.{FiltersetFault}
use Rattle.filter_language.specs.declared.fault.ParseFault as parse_fault
use Rattle.filter_language.specs.declared.fault.ParseFault.TheVariants.{Refused, Memory}
use Rattle.filter_language.specs.declared.fault.Stop as stop
use Rattle.filter_language.specs.declared.fault.Stop.TheVariants.{Misread, Memory}
use Rattle.filter_language.specs.declared.reading.next.Next as next
use Rattle.filter_language.specs.declared.words.Word.{Word}
use Rattle.filter_language.specs.declared.reading.operator.Operator.{Operator}
use Rattle.filter_language.specs.declared.reading.operator.Operator.TheVariants.{And, Or, Minus, Close}
use Rattle.filter_language.specs.Bans.{question_ban}
use Rattle.filter_language.specs.Grammar.{Mark, mark_view, Asked, NotMark, OpenMark, CloseMark}
use Rattle.filter_language.specs.Lexing.{wrong_between, wrong_at, word_in, operator_in, after_one}
use Rattle.filter_language.specs.Nesting.{Shape, start_shape, negated_shape, opened_shape, complete_shape, joined_shape, closed_shape, operator_mark}
use Rattle.filter_language.specs.Places.{Misreading, misreading_view}
use Rattle.filter_language.specs.Predicates.{Compiler, PredicateRead, predicate_in, ◌>>=◌}
use Rattle.filter_language.specs.Texts.{after_prefix, skipped}

-- A mark, why it may not be in a filter of its kind, what follows it, and what is open.
pub record MarkRead (L : Type 0) : Type 0 where
  pub mark : Mark L
  pub objection : Option Misreading
  pub rest : List ℕ
  pub shape : Shape

-- The mark that one in memory is, with what is open behind it.
abbrev pub next_view : {M L : Type 0} → (M → L) → Shape → next.Next M → MarkRead L
next_view meaning shape n = record {
  mark = mark_view meaning n.mark;
  objection = option_map misreading_view n.objection;
  rest = n.rest.now;
  shape = shape;
}

-- A mark to which nothing is objected.
abbrev pub plain : {L : Type 0} → Mark L → List ℕ → Shape → MarkRead L
plain mark rest shape = record { mark = mark; objection = None; rest = rest; shape = shape }

-- A mark that opens a level, within the bound.
abbrev pub within_bound : {L : Type 0} → Mark L → List ℕ → List ℕ → Option Shape
    → Result (MarkRead L) Misreading
within_bound mark from rest (Some shape) = Ok (plain mark rest shape)
within_bound mark from rest None = Err (wrong_between TooDeeplyNested from rest)

-- Where a predicate is at fault: its argument without a package graph, else all of it.
abbrev pub objection_to : {L : Type 0} → List ℕ → PredicateRead L → FaultKind → Misreading
objection_to start p NoPackageGraph = wrong_between NoPackageGraph p.inside p.close
objection_to start p kind = wrong_between kind start p.rest

-- The predicate that a text begins with, if a word is there.
abbrev pub asked_in : {L : Type 0} → Compiler L → Bool → FiltersetKind → Shape → List ℕ
    → List ℕ → Option (Word × List ℕ) → Result (MarkRead L) Misreading
asked_in compiler knows_packages kind shape place text None =
    Err (wrong_between ExpectedExpr place [])
asked_in compiler knows_packages kind shape place text (Some found) =
    predicate_in compiler found.0 text found.1
    >>= (λ p. Ok (record {
      mark = Asked p.question;
      objection = option_map (objection_to text p) (question_ban kind knows_packages p.question);
      rest = p.rest;
      shape = complete_shape shape;
    }))

abbrev pub opened_or_asked : {L : Type 0} → Compiler L → Bool → FiltersetKind → Shape → List ℕ
    → List ℕ → Option (List ℕ) → Result (MarkRead L) Misreading
opened_or_asked compiler knows_packages kind shape place text (Some rest) =
    within_bound OpenMark text rest (opened_shape shape)
opened_or_asked compiler knows_packages kind shape place text None =
    asked_in compiler knows_packages kind shape place text (word_in text)

abbrev pub negated_or_not : {L : Type 0} → Compiler L → Bool → FiltersetKind → Shape → List ℕ
    → List ℕ → Option (List ℕ) → Result (MarkRead L) Misreading
negated_or_not compiler knows_packages kind shape place text (Some rest) =
    within_bound NotMark text rest (negated_shape shape)
negated_or_not compiler knows_packages kind shape place text None =
    opened_or_asked compiler knows_packages kind shape place text (after_prefix (codes "(") text)

-- The mark where an operand is due.
abbrev pub wanted_in : {L : Type 0} → Compiler L → Bool → FiltersetKind → Shape → List ℕ
    → Result (MarkRead L) Misreading
wanted_in compiler knows_packages kind shape place =
    negated_or_not compiler knows_packages kind shape place (skipped place)
    (after_one (codes "not ") (codes "!") (skipped place))

-- Without an operator, the filter ends, or something is wrong there.
abbrev pub ended_in : {L : Type 0} → List ℕ → List ℕ → List ℕ
    → Result (Option (MarkRead L)) Misreading
ended_in place (around ∷ outer) text = Err (wrong_at ExpectedCloseParenthesis place)
ended_in place [] [] = Ok None
ended_in place [] (c ∷ text) = Err (wrong_between ExpectedEndOfExpression place [])

-- A `)` ends a level, or the filter is followed by more.
abbrev pub closed_level : {L : Type 0} → List ℕ → List ℕ → Option Shape
    → Result (Option (MarkRead L)) Misreading
closed_level place rest (Some shape) = Ok (Some (plain CloseMark rest shape))
closed_level place rest None = Err (wrong_between ExpectedEndOfExpression place [])

-- The operator or `)` that was found.
abbrev pub joined_in : {L : Type 0} → Shape → List ℕ → Operator → List ℕ
    → Result (Option (MarkRead L)) Misreading
joined_in shape place Close rest = closed_level place rest (closed_shape shape.outer)
joined_in shape place And rest = Ok (Some (plain (operator_mark And) rest (joined_shape shape)))
joined_in shape place Or rest = Ok (Some (plain (operator_mark Or) rest (joined_shape shape)))
joined_in shape place Minus rest =
    Ok (Some (plain (operator_mark Minus) rest (joined_shape shape)))

abbrev pub joined_or_ended : {L : Type 0} → Shape → List ℕ → List ℕ
    → Option (Operator × List ℕ) → Result (Option (MarkRead L)) Misreading
joined_or_ended shape place text (Some found) = joined_in shape place found.0 found.1
joined_or_ended shape place text None = ended_in place shape.outer text

-- The mark behind an operand, or none where the filter ends.
abbrev pub joining_in : {L : Type 0} → Shape → List ℕ → Result (Option (MarkRead L)) Misreading
joining_in shape place = operator_in (skipped place) >>= joined_or_ended shape place (skipped place)

-- The next mark, or none where the filter ends.
unfoldable pub next_in : {L : Type 0} → Compiler L → Bool → FiltersetKind → Shape → List ℕ
    → Result (Option (MarkRead L)) Misreading
next_in compiler knows_packages kind shape place =
    if shape.wants
    then wanted_in compiler knows_packages kind shape place >>= (λ found. Ok (Some found))
    else joining_in shape place

-- Marks, and the first objection to one of them.
abbrev pub Objected : Type 0 → Type 0
Objected L = List (Mark L) × Option Misreading

-- The marks when one more has been read, behind those before it.
abbrev pub behind_mark : {L : Type 0}
    → (Objected L → Shape → List ℕ → Result (Objected L) Misreading) → Objected L
    → Result (Option (MarkRead L)) Misreading → Result (Objected L) Misreading
behind_mark more before (Ok (Some found)) =
    more (before.0 ++ found.mark ∷ [], option_or before.1 found.objection) found.shape found.rest
behind_mark more before (Ok None) = Ok before
behind_mark more before (Err m) = Err m

-- The marks from a place on, so many at most, behind those before it.
abbrev pub marks_within : {L : Type 0} → Compiler L → Bool → FiltersetKind → ℕ → Objected L
    → Shape → List ℕ → Result (Objected L) Misreading
marks_within compiler knows_packages kind zero before shape place = Ok before
marks_within compiler knows_packages kind (suc n) before shape place =
    behind_mark (marks_within compiler knows_packages kind n) before
    (next_in compiler knows_packages kind shape place)

-- Marks to which nothing is objected.
abbrev pub unless_objected : {L : Type 0} → Result (Objected L) Misreading
    → Result (List (Mark L)) Misreading
unless_objected (Ok (marks, None)) = Ok marks
unless_objected (Ok (marks, Some m)) = Err m
unless_objected (Err m) = Err m

-- The marks of the filter that a text writes, or what is wrong first: as many as there are bytes at
-- most, and the end.
unfoldable pub marks_in : {L : Type 0} → Compiler L → Bool → FiltersetKind → List ℕ
    → Result (List (Mark L)) Misreading
marks_in compiler knows_packages kind text =
    unless_objected
    (marks_within compiler knows_packages kind (suc (length text)) ([], None) start_shape text)

-- What is wrong, by the bytes of the text.
abbrev pub fault_in : List ℕ → Misreading → FiltersetFault
fault_in text m = record {
  kind = m.kind;
  span = record {
    start = length text - length m.from;
    length = length m.from - length m.until;
  };
}

-- The message where reading stopped.
abbrev pub refusal_at : List ℕ → stop.Stop → parse_fault.ParseFault
refusal_at text (Misread m) = Refused (fault_in text (misreading_view m))
refusal_at text Memory = Memory

-- The marks of the filter that a text writes, or its first fault.
abbrev pub filter_in : {L : Type 0} → Compiler L → Bool → FiltersetKind → List ℕ
    → Result (List (Mark L)) FiltersetFault
filter_in compiler knows_packages kind text =
    result_map_both (λ marks. marks) (fault_in text) (marks_in compiler knows_packages kind text)
