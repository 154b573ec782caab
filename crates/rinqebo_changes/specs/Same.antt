-- Whether two values are the same.
use Rattle.std.specs.Prelude.{◌==◌, ◌&&◌, Bool, false, List, bytes_eq, string_bytes}
use Rattle.std.specs.Cmp.Lexicographic.{pointwise}
use Rattle.std.specs.Ordering.{int_eq}
use Rattle.std.specs.String.{string_eq}
use Rattle.std.specs.Bool.{beq}
use Rattle.std.specs.Prelude.{String}
use Rattle.std.specs.declared.alloc.Global.{Global}
use Rattle.rinqebo_report.specs.declared.value.TableMember.{TableMember}
use Rattle.rinqebo_report.specs.declared.value.Scalar.{Scalar}
use Rattle.rinqebo_report.specs.declared.value.Scalar.TheVariants as scalars
use Rattle.rinqebo_report.specs.declared.value.Value.{Value}
use Rattle.rinqebo_report.specs.declared.value.Value.TheVariants as values

-- whether two values that hold no others are the same: two durations are, however files write them
abbrev pub same_scalar : Scalar → Scalar → Bool
same_scalar (scalars.Boolean a) (scalars.Boolean b) = beq a b
same_scalar (scalars.Integer a) (scalars.Integer b) = int_eq a b
same_scalar (scalars.Text a) (scalars.Text b) = bytes_eq (string_bytes a) (string_bytes b)
same_scalar (scalars.Duration a) (scalars.Duration b) = a.nanoseconds == b.nanoseconds
same_scalar _ _ = false

-- whether two members of tables are the same
abbrev pub same_member : TableMember → TableMember → Bool
same_member a b =
    bytes_eq (string_bytes a.key) (string_bytes b.key) && same_scalar a.value b.value

-- whether tables have the same members, in the same order
abbrev pub same_members : List TableMember → List TableMember → Bool
same_members = pointwise same_member

-- whether lists have the same texts, in the same order
abbrev pub same_texts : List (String Global) → List (String Global) → Bool
same_texts = pointwise string_eq

-- whether two values are the same
abbrev pub same_value : Value → Value → Bool
same_value (values.Scalar a) (values.Scalar b) = same_scalar a b
same_value (values.Texts a) (values.Texts b) = same_texts a.items b.items
same_value (values.Table a) (values.Table b) = same_members a.items b.items
same_value _ _ = false
