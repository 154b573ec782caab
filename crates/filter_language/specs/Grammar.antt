-- How filters are written, as lists of marks. Each definition puts what it writes before a rest.
use Rattle.std.specs.Prelude.{◌≡◌, ◌≤◌, ℕ, zero, suc, max, Bool, true, false, ◌&&◌, List, [], ◌∷◌}
use Rattle.filter_language.specs.declared.mark.Mark as mark
use Rattle.filter_language.specs.declared.mark.Mark.TheVariants.{Predicate, Not, Open, Close, And, Or, Minus}
use Rattle.filter_language.specs.Formula.{Question, question_view, Formula, Asks, Negated, Both, Either, Without, Grouped}

-- A mark: a whole predicate, `not`, a parenthesis, `and`, `or` or `-`.
pub data Mark (L : Type 0) : Type 0 where
  Asked : Question L → Mark L
  NotMark : Mark L
  OpenMark : Mark L
  CloseMark : Mark L
  AndMark : Mark L
  OrMark : Mark L
  MinusMark : Mark L

-- The mark that one in memory is.
abbrev pub mark_view : {M L : Type 0} → (M → L) → mark.Mark M → Mark L
mark_view meaning (Predicate q) = Asked (question_view meaning q)
mark_view meaning Not = NotMark
mark_view meaning Open = OpenMark
mark_view meaning Close = CloseMark
mark_view meaning And = AndMark
mark_view meaning Or = OrMark
mark_view meaning Minus = MinusMark

-- A filter as it is written, before a rest.
abbrev pub written : {L : Type 0} → Formula L → List (Mark L) → List (Mark L)
written (Asks q) rest = Asked q ∷ rest
written (Negated a) rest = NotMark ∷ written a rest
written (Both a b) rest = written a (AndMark ∷ written b rest)
written (Either a b) rest = written a (OrMark ∷ written b rest)
written (Without a b) rest = written a (MinusMark ∷ written b rest)
written (Grouped a) rest = OpenMark ∷ written a (CloseMark ∷ rest)

-- Where a filter may be: anywhere, beside `or`, or beside `and`, `-` and `not`.
pub data Grade : Type 0 where
  Loose : Grade
  Joined : Grade
  Tight : Grade

-- Whether a filter may be there: `and` and `-` bind alike and closer than `or`, from the left;
-- `not` binds closest. Anything else takes parentheses.
abbrev pub stands : {L : Type 0} → Grade → Formula L → Bool
stands g (Asks q) = true
stands g (Negated a) = stands Tight a
stands g (Grouped a) = stands Loose a
stands Tight (Both a b) = false
stands Joined (Both a b) = stands Joined a && stands Tight b
stands Loose (Both a b) = stands Joined a && stands Tight b
stands Tight (Without a b) = false
stands Joined (Without a b) = stands Joined a && stands Tight b
stands Loose (Without a b) = stands Joined a && stands Tight b
stands Tight (Either a b) = false
stands Joined (Either a b) = false
stands Loose (Either a b) = stands Loose a && stands Joined b

-- Marks spell a filter.
abbrev pub Spells : {L : Type 0} → List (Mark L) → Formula L → Type 0
Spells marks f = (written f [] ≡ marks) × (stands Loose f ≡ true)

-- The most `not`s and parentheses around one place of a filter.
abbrev pub nesting : {L : Type 0} → Formula L → ℕ
nesting (Asks q) = zero
nesting (Negated a) = suc (nesting a)
nesting (Both a b) = max (nesting a) (nesting b)
nesting (Either a b) = max (nesting a) (nesting b)
nesting (Without a b) = max (nesting a) (nesting b)
nesting (Grouped a) = suc (nesting a)

-- The most `not`s and parentheses around one place that are read.
abbrev pub NestsWithin : {L : Type 0} → Formula L → Type 0
NestsWithin f = nesting f ≤ 128

-- Marks spell a filter that nests within the bound.
abbrev pub WritesAFilter : {L : Type 0} → List (Mark L) → Type 0
WritesAFilter {L} marks = (f : Formula L) × Spells marks f × NestsWithin f
