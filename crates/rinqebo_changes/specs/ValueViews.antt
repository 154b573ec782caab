-- What values and origins are, without how they are kept.
use Rattle.std.specs.Prelude.{ℕ, ℤ, Bool, List, map, string_bytes}
use Rattle.rinqebo_report.specs.declared.value.TableMember.{TableMember}
use Rattle.rinqebo_report.specs.declared.value.Scalar.{Scalar}
use Rattle.rinqebo_report.specs.declared.value.Scalar.TheVariants as scalars
use Rattle.rinqebo_report.specs.declared.value.Value.{Value}
use Rattle.rinqebo_report.specs.declared.value.Value.TheVariants as values

-- A value that holds no others: whether something is so, a number, a text, or a length of time in
-- nanoseconds.
pub data PlainScalar : Type 0 where
  boolean : Bool → PlainScalar
  integer : ℤ → PlainScalar
  text : List ℕ → PlainScalar
  duration : ℕ → PlainScalar

-- A value: one that holds no others, texts, or a table of keys and values.
pub data PlainValue : Type 0 where
  scalar : PlainScalar → PlainValue
  texts : List (List ℕ) → PlainValue
  table : List (List ℕ × PlainScalar) → PlainValue

-- a value that holds no others: a duration without how a file writes it
abbrev pub scalar_view : Scalar → PlainScalar
scalar_view (scalars.Boolean b) = boolean b
scalar_view (scalars.Integer n) = integer n
scalar_view (scalars.Text t) = text (string_bytes t)
scalar_view (scalars.Duration d) = duration d.nanoseconds

-- a member of a table
abbrev pub member_view : TableMember → List ℕ × PlainScalar
member_view m = (string_bytes m.key, scalar_view m.value)

-- a value
abbrev pub value_view : Value → PlainValue
value_view (values.Scalar s) = scalar (scalar_view s)
value_view (values.Texts ts) = texts (map string_bytes ts.items)
value_view (values.Table ms) = table (map member_view ms.items)
