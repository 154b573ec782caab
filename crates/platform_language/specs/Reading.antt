-- Reading a body, mark by mark, with what is open on a stack.
use Rattle.std.specs.Prelude.{nat_lt, ℕ, zero, suc, ◌+◌, ◌-◌, ◌==◌, Bool, true, false, not, List, [], ◌∷◌, ◌++◌, Option, None, Some, Result, Ok, Err, length, map, if◌then◌else◌}
use Rattle.std.specs.List.{fold}
use Rattle.std.specs.Str.{trim_start}
use Rattle.platform_language.specs.declared.expression.Function.{Function}
use Rattle.platform_language.specs.declared.expression.Function.TheVariants.{All, Any, Not}
use Rattle.platform_language.specs.declared.fault.Place.{Place}
use Rattle.platform_language.specs.declared.fault.Expected as expected
use Rattle.platform_language.specs.declared.fault.Expected.TheVariants as wanted
use Rattle.platform_language.specs.declared.fault.FaultKind.TheVariants.{ForeignCharacter, UnclosedQuotes, Unexpected, UnopenedParens, UnclosedParens, NotTakesOne, Empty, SeveralRoots, TooDeep}
use Rattle.platform_language.specs.declared.fault.BodyFault.{BodyFault}
use Rattle.platform_language.specs.declared.reading.Before as before
use Rattle.platform_language.specs.declared.reading.Before.TheVariants as last
use Rattle.platform_language.specs.declared.reading.Level as level
use Rattle.platform_language.specs.declared.reading.Reader as reader
use Rattle.platform_language.specs.Expressions.{Expression, Asks, Every, Some_of, Negated, parts_of, expression_view}
use Rattle.platform_language.specs.Faults.{place, fault_at, expecting_at, and_then, map_ok}
use Rattle.platform_language.specs.Leaves.{Piece, piece_view, leaf_alone, leaf_with}
use Rattle.platform_language.specs.Marks.{Mark, OpenMark, CloseMark, CommaMark, EqualsMark, FunctionMark, NameMark, ValueMark, Front, FrontMark, UnclosedFront, ForeignFront, front}

-- The mark that was read last, with what waits there for further ones.
pub data Before : Type 0 where
  Nothing : Before
  AfterFunction : Function → Place → Before
  AfterOpen : Before
  AfterComma : Before
  AfterKey : Piece → Before
  AfterEquals : Piece → Before
  AfterValue : Piece → Piece → Before
  AfterClose : Before

-- A function that is open: where its name and its `(` are, and the parts before it.
pub record Level : Type 0 where
  pub function : Function
  pub name : Place
  pub opened : Place
  pub outside : List Expression

-- How far a body was read: the parts so far of the innermost function that is open, or else of the
-- body, and the functions that are open, the innermost first.
pub record Reading : Type 0 where
  pub before : Before
  pub parts : List Expression
  pub levels : List Level

-- ---- what is in memory

-- the mark before that is in memory
abbrev pub before_view : before.Before → Before
before_view last.Nothing = Nothing
before_view (last.Function f at) = AfterFunction f at
before_view last.Open = AfterOpen
before_view last.Comma = AfterComma
before_view (last.Key key) = AfterKey (piece_view key)
before_view (last.Equals key) = AfterEquals (piece_view key)
before_view (last.Value key value) = AfterValue (piece_view key) (piece_view value)
before_view last.Close = AfterClose

-- the open function that is in memory
abbrev pub level_view : level.Level → Level
level_view l = record {
  function = l.function;
  name = l.name;
  opened = l.«open»;
  outside = map expression_view l.outside.items;
}

-- the open functions that are in memory, the innermost last
abbrev pub levels_view : List level.Level → List Level
levels_view levels = fold (λ outer l. level_view l ∷ outer) [] levels

-- the reading that is in memory
abbrev pub reading_view : reader.Reader → Reading
reading_view r = record {
  before = before_view r.before;
  parts = map expression_view r.parts.items;
  levels = levels_view r.levels.items;
}

-- ---- one mark

-- what may follow a mark
abbrev pub expected_after : Before → expected.Expected
expected_after Nothing = wanted.Expression
expected_after (AfterFunction f at) = wanted.Parenthesis
expected_after AfterOpen = wanted.FirstPart
expected_after AfterComma = wanted.FurtherPart
expected_after (AfterKey key) = wanted.BehindKey
expected_after (AfterEquals key) = wanted.Value
expected_after (AfterValue key value) = wanted.BehindValue
expected_after AfterClose = wanted.BehindClose

-- the parts with the leaf that ends behind a mark, if any
abbrev pub with_leaf : Before → List Expression → Result (List Expression) BodyFault
with_leaf (AfterKey key) parts = map_ok (λ leaf. parts ++ (Asks leaf ∷ [])) (leaf_alone key)
with_leaf (AfterValue key value) parts =
    map_ok (λ leaf. parts ++ (Asks leaf ∷ [])) (leaf_with key value)
with_leaf _ parts = Ok parts

-- whether a leaf ends behind a mark
abbrev pub ends_leaf : Before → Bool
ends_leaf (AfterKey key) = true
ends_leaf (AfterValue key value) = true
ends_leaf _ = false

-- how many parts there are, with the leaf that ends behind a mark
abbrev pub count_parts : Before → List Expression → ℕ
count_parts before parts = if ends_leaf before then length parts + 1 else length parts

-- whether a function does not take so many parts
abbrev pub refuses : Function → ℕ → Bool
refuses Not count = not (count == 1)
refuses _ count = false

-- the only one of some parts
abbrev pub only_part : List Expression → Option Expression
only_part (e ∷ []) = Some e
only_part _ = None

-- a function of parts, or none where it does not take so many
abbrev pub call : Function → List Expression → Option Expression
call All parts = Some (Every (parts_of parts))
call Any parts = Some (Some_of (parts_of parts))
call Not (e ∷ []) = Some (Negated e)
call Not _ = None

-- the same parts and functions behind another mark
abbrev pub behind : Before → Reading → Reading
behind before r = record { before = before; parts = r.parts; levels = r.levels }

-- a function's name
abbrev pub entered : Function → Place → Reading → Result Reading BodyFault
entered function at r = if nat_lt (length r.levels) 128
    then Ok (behind (AfterFunction function at) r) else Err (fault_at TooDeep at)

-- the `(` of a function
abbrev pub opened_by : Function → Place → Place → Reading → Reading
opened_by function name at r = record {
  before = AfterOpen;
  parts = [];
  levels = record { function = function; name = name; opened = at; outside = r.parts } ∷ r.levels;
}

-- a `,`
abbrev pub separated : Reading → Result Reading BodyFault
separated r = map_ok
    (λ parts. record { before = AfterComma; parts = parts; levels = r.levels })
    (with_leaf r.before r.parts)

-- the fault of a function that does not take so many parts
abbrev pub not_one : ℕ → Level → Place → BodyFault
not_one count level at = fault_at (NotTakesOne count) (place level.name.from at.to)

-- a function that ends is one more part of what is around it
abbrev pub ended : Level → List Level → BodyFault → Option Expression → Result Reading BodyFault
ended level levels bad (Some e) =
    Ok (record { before = AfterClose; parts = level.outside ++ (e ∷ []); levels = levels })
ended level levels bad None = Err bad

-- a `)`
abbrev pub closed : Before → List Expression → List Level → Place → Result Reading BodyFault
closed before parts [] at = Err (fault_at UnopenedParens at)
closed before parts (level ∷ levels) at =
    if refuses level.function (count_parts before parts)
    then Err (not_one (count_parts before parts) level at)
    else and_then
    (λ all. ended level levels (not_one (count_parts before parts) level at)
    (call level.function all))
    (with_leaf before parts)

-- the piece between the quotes of a value
abbrev pub value_piece : List ℕ → Place → Piece
value_piece text at = record {
  text = text;
  place = place (at.from - 1) (at.from - 1 - length text);
}

-- a mark where a part may begin, behind another mark
abbrev pub begun_by : Before → Reading → Mark → Place → Result Reading BodyFault
begun_by before r (NameMark text) at =
    Ok (behind (AfterKey (record { text = text; place = at })) r)
begun_by before r (FunctionMark function) at = entered function at r
begun_by before r _ at = Err (expecting_at Unexpected at (expected_after before))

-- a mark where a part may end, behind another mark
abbrev pub ended_by : Before → Reading → Mark → Place → Result Reading BodyFault
ended_by before r CommaMark at = separated r
ended_by before r CloseMark at = closed r.before r.parts r.levels at
ended_by before r _ at = Err (expecting_at Unexpected at (expected_after before))

-- one more mark, behind the one before
abbrev pub step_behind : Before → Reading → Mark → Place → Result Reading BodyFault
step_behind Nothing r m at = begun_by Nothing r m at
step_behind AfterOpen r CloseMark at = closed r.before r.parts r.levels at
step_behind AfterOpen r m at = begun_by AfterOpen r m at
step_behind AfterComma r CommaMark at = separated r
step_behind AfterComma r CloseMark at = closed r.before r.parts r.levels at
step_behind AfterComma r m at = begun_by AfterComma r m at
step_behind (AfterFunction function name) r OpenMark at = Ok (opened_by function name at r)
step_behind (AfterKey key) r EqualsMark at = Ok (behind (AfterEquals key) r)
step_behind (AfterKey key) r m at = ended_by (AfterKey key) r m at
step_behind (AfterEquals key) r (ValueMark text) at =
    Ok (behind (AfterValue key (value_piece text at)) r)
step_behind (AfterValue key value) r m at = ended_by (AfterValue key value) r m at
step_behind AfterClose r m at = ended_by AfterClose r m at
step_behind before r _ at = Err (expecting_at Unexpected at (expected_after before))

-- one more mark
abbrev pub step : Reading → Mark → Place → Result Reading BodyFault
step r m at = step_behind r.before r m at

-- ---- the whole body

-- the only part of a body of so many bytes
abbrev pub only_root : ℕ → List Expression → Result Expression BodyFault
only_root len [] = Err (fault_at Empty (place len 0))
only_root len (e ∷ []) = Ok e
only_root len (e ∷ f ∷ more) = Err (fault_at SeveralRoots (place len 0))

-- what is read where no function waits for its `(` and no key for its value
abbrev pub complete : ℕ → Reading → List Level → Result Expression BodyFault
complete len r [] = and_then (only_root len) (with_leaf r.before r.parts)
complete len r (level ∷ levels) = Err (fault_at UnclosedParens (place level.opened.from 0))

-- what is read at the end of a body of so many bytes
abbrev pub finished_behind : Before → ℕ → Reading → Result Expression BodyFault
finished_behind (AfterEquals key) len r =
    Err (expecting_at Unexpected (place 0 0) wanted.ValueAtEnd)
finished_behind (AfterFunction function name) len r =
    Err (expecting_at Unexpected name wanted.Parenthesis)
finished_behind _ len r = complete len r r.levels

-- what is read at the end of a body of so many bytes, behind any mark
abbrev pub finished : ℕ → Reading → Result Expression BodyFault
finished len r = finished_behind r.before len r

-- what a front adds to a reading, where so many bytes are left, and what follows it without blanks
abbrev pub advanced_by : Reading → ℕ → Front → Result (Reading × List ℕ) BodyFault
advanced_by r left (FrontMark m rest) =
    map_ok (λ next. (next, trim_start rest)) (step r m (place left (length rest)))
advanced_by r left UnclosedFront = Err (fault_at UnclosedQuotes (place left 0))
advanced_by r left ForeignFront =
    Err (expecting_at ForeignCharacter (place left (left - 1)) wanted.Expression)

-- what the first mark of a text adds to a reading
unfoldable pub advanced : Reading → List ℕ → Result (Reading × List ℕ) BodyFault
advanced r text = advanced_by r (length text) (front text)

-- what at most so many marks of a text add to a reading, in a body of so many bytes
abbrev pub read_on : ℕ → ℕ → Reading → List ℕ → Result Expression BodyFault
read_on len zero r text = finished len r
read_on len (suc n) r [] = finished len r
read_on len (suc n) r (c ∷ text) =
    and_then (λ next. read_on len n next.0 next.1) (advanced r (c ∷ text))

-- nothing was read
abbrev pub start : Reading
start = record { before = Nothing; parts = []; levels = [] }

-- the expression that a body is, or the first fault. Each mark has a byte, so a body has no more
-- marks than bytes.
abbrev pub read_body : List ℕ → Result Expression BodyFault
read_body body = read_on (length body) (length body) start (trim_start body)
