-- Reading marks from left to right, with what is open on a stack.
use Rattle.std.specs.Prelude.{ℕ, zero, suc, ◌+◌, nat_lt, List, [], ◌∷◌, Option, None, Some, if◌then◌else◌}
use Rattle.std.specs.Option.{option_and_then}
use Rattle.filter_language.specs.Formula.{Formula, Asks, Negated, Both, Either, Without, Grouped}
use Rattle.filter_language.specs.Grammar.{Mark, Asked, NotMark, OpenMark, CloseMark, AndMark, OrMark, MinusMark}

-- How an operand is joined to the side left of it: both hold, or the left one alone.
pub data Joint : Type 0 where
  Meets : Joint
  Lacks : Joint

-- What waits for an operand within one pair of parentheses: the `not`s and parentheses around that
-- pair's inside, the side left of an `or`, the side left of an `and` or a `-`, and a number of
-- `not`s.
pub record Left (L : Type 0) : Type 0 where
  pub around : ℕ
  pub alternative : Option (Formula L)
  pub joint : Option (Joint × Formula L)
  pub nots : ℕ

-- How far marks were read: an operand is wanted, or one is complete, behind perhaps the side left
-- of an `or`. The levels around it come the inner first.
pub data Progress (L : Type 0) : Type 0 where
  Wanted : Left L → List (Left L) → Progress L
  Complete : ℕ → Formula L → Option (Formula L) → List (Left L) → Progress L

abbrev pub negated : {L : Type 0} → ℕ → Formula L → Formula L
negated zero f = f
negated (suc n) f = negated n (Negated f)

abbrev pub joined : {L : Type 0} → Option (Joint × Formula L) → Formula L → Formula L
joined None f = f
joined (Some (Meets, left)) f = Both left f
joined (Some (Lacks, left)) f = Without left f

abbrev pub either : {L : Type 0} → Option (Formula L) → Formula L → Formula L
either None f = f
either (Some left) f = Either left f

-- Nothing waits but perhaps the side left of an `or`.
abbrev pub begun : {L : Type 0} → ℕ → Option (Formula L) → Left L
begun around alternative = record {
  around = around;
  alternative = alternative;
  joint = None;
  nots = 0;
}

abbrev pub once_more : {L : Type 0} → Left L → Left L
once_more l = record {
  around = l.around;
  alternative = l.alternative;
  joint = l.joint;
  nots = suc l.nots;
}

abbrev pub beside : {L : Type 0} → ℕ → Joint → Formula L → Option (Formula L) → Left L
beside around joint f alternative = record {
  around = around;
  alternative = alternative;
  joint = Some (joint, f);
  nots = 0;
}

-- An operand takes what waited for it.
abbrev pub taken : {L : Type 0} → Left L → Formula L → List (Left L) → Progress L
taken l f outer = Complete l.around (joined l.joint (negated l.nots f)) l.alternative outer

abbrev pub closed : {L : Type 0} → Formula L → List (Left L) → Option (Progress L)
closed f [] = None
closed f (l ∷ outer) = Some (taken l (Grouped f) outer)

-- One more level, within 128 of them.
abbrev pub within : {L : Type 0} → Left L → Progress L → Option (Progress L)
within l next = if nat_lt (l.around + l.nots) 128 then Some next else None

-- One more mark, or none where it may not be there.
abbrev pub step : {L : Type 0} → Progress L → Mark L → Option (Progress L)
step (Wanted l outer) (Asked q) = Some (taken l (Asks q) outer)
step (Wanted l outer) NotMark = within l (Wanted (once_more l) outer)
step (Wanted l outer) OpenMark =
    within l (Wanted (begun (suc (l.around + l.nots)) None) (l ∷ outer))
step (Wanted l outer) _ = None
step (Complete n f alternative outer) AndMark = Some (Wanted (beside n Meets f alternative) outer)
step (Complete n f alternative outer) MinusMark = Some (Wanted (beside n Lacks f alternative) outer)
step (Complete n f alternative outer) OrMark =
    Some (Wanted (begun n (Some (either alternative f))) outer)
step (Complete n f alternative outer) CloseMark = closed (either alternative f) outer
step (Complete n f alternative outer) _ = None

-- The filter that is complete where nothing is open.
abbrev pub finished : {L : Type 0} → Progress L → Option (Formula L)
finished (Complete n f alternative []) = Some (either alternative f)
finished _ = None

abbrev pub run : {L : Type 0} → Progress L → List (Mark L) → Option (Formula L)
run p [] = finished p
run p (m ∷ marks) = option_and_then (λ next. run next marks) (step p m)

-- The filter that marks write.
abbrev pub read : {L : Type 0} → List (Mark L) → Option (Formula L)
read marks = run (Wanted (begun 0 None) []) marks
