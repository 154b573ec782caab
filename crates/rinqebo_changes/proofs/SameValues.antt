-- The tests of values decide whether the values are equal, without how they are kept.
use Rattle.std.proofs.Common.{◌≡◌, Option, None, Some, option_map, refl, ap, String, string_bytes}
use Rattle.std.specs.Bool.{Decides}
use Rattle.std.specs.Cmp.{booleans_Decides}
use Rattle.std.specs.Cmp.Lexicographic.{bytes_decides}
use Rattle.std.specs.Option.{option_eq}
use Rattle.std.specs.String.{string_eq}
use Rattle.std.specs.declared.alloc.Global.{Global}
use Rattle.std.proofs.lemmas.Bool.Decides.{Decides-and, Decides-like, Decides-int_eq, Decides-eqb}
use Rattle.rinqebo_report.specs.declared.value.TableMember.{TableMember}
use Rattle.rinqebo_report.specs.declared.value.Scalar.{Scalar}
use Rattle.rinqebo_report.specs.declared.value.Scalar.TheVariants.{Boolean, Integer, Text, Duration}
use Rattle.rinqebo_report.specs.declared.value.Value.{Value}
use Rattle.rinqebo_report.specs.declared.value.Value.TheVariants as values
use Rattle.rinqebo_changes.specs.Same.{same_scalar, same_member, same_members, same_texts, same_value}
use Rattle.rinqebo_changes.specs.ValueViews.{boolean, integer, text, duration, scalar, texts, table, scalar_view, member_view, value_view}
use Rattle.rinqebo_changes.proofs.Deciding.{never, always, mapped_decides, pair_both, both_of_pair}

pub scalar_decides : (a b : Scalar) → Decides (same_scalar a b) (scalar_view a ≡ scalar_view b)
scalar_decides (Boolean a) (Boolean b) =
    Decides-like (same_scalar (Boolean a) (Boolean b)) (λ e. ap boolean e) (λ e. cc) (booleans_Decides a b)
scalar_decides (Boolean a) (Integer b) = never (λ e. cc)
scalar_decides (Boolean a) (Text b) = never (λ e. cc)
scalar_decides (Boolean a) (Duration b) = never (λ e. cc)
scalar_decides (Integer a) (Boolean b) = never (λ e. cc)
scalar_decides (Integer a) (Integer b) =
    Decides-like (same_scalar (Integer a) (Integer b)) (λ e. ap integer e) (λ e. cc) (Decides-int_eq a b)
scalar_decides (Integer a) (Text b) = never (λ e. cc)
scalar_decides (Integer a) (Duration b) = never (λ e. cc)
scalar_decides (Text a) (Boolean b) = never (λ e. cc)
scalar_decides (Text a) (Integer b) = never (λ e. cc)
scalar_decides (Text a) (Text b) =
    Decides-like (same_scalar (Text a) (Text b)) (λ e. ap text e) (λ e. cc)
    (bytes_decides (string_bytes a) (string_bytes b))
scalar_decides (Text a) (Duration b) = never (λ e. cc)
scalar_decides (Duration a) (Boolean b) = never (λ e. cc)
scalar_decides (Duration a) (Integer b) = never (λ e. cc)
scalar_decides (Duration a) (Text b) = never (λ e. cc)
scalar_decides (Duration a) (Duration b) =
    Decides-like (same_scalar (Duration a) (Duration b)) (λ e. ap duration e) (λ e. cc)
    (Decides-eqb a.nanoseconds b.nanoseconds)

member_decides : (a b : TableMember) → Decides (same_member a b) (member_view a ≡ member_view b)
member_decides a b =
    Decides-like (same_member a b)
    (pair_both (string_bytes a.key) (string_bytes b.key) (scalar_view a.value) (scalar_view b.value))
    (both_of_pair (member_view a) (member_view b))
    (Decides-and _ _ (bytes_decides (string_bytes a.key) (string_bytes b.key)) (scalar_decides a.value b.value))

text_decides : (a b : String Global) → Decides (string_eq a b) (string_bytes a ≡ string_bytes b)
text_decides a b = bytes_decides (string_bytes a) (string_bytes b)

pub value_decides : (a b : Value) → Decides (same_value a b) (value_view a ≡ value_view b)
value_decides (values.Scalar a) (values.Scalar b) =
    Decides-like (same_scalar a b) (λ e. ap scalar e) (λ e. cc) (scalar_decides a b)
value_decides (values.Scalar a) (values.Texts b) = never (λ e. cc)
value_decides (values.Scalar a) (values.Table b) = never (λ e. cc)
value_decides (values.Texts a) (values.Scalar b) = never (λ e. cc)
value_decides (values.Texts a) (values.Texts b) =
    Decides-like (same_texts a.items b.items) (λ e. ap texts e) (λ e. cc)
    (mapped_decides string_eq string_bytes text_decides a.items b.items)
value_decides (values.Texts a) (values.Table b) = never (λ e. cc)
value_decides (values.Table a) (values.Scalar b) = never (λ e. cc)
value_decides (values.Table a) (values.Texts b) = never (λ e. cc)
value_decides (values.Table a) (values.Table b) =
    Decides-like (same_members a.items b.items) (λ e. ap table e) (λ e. cc)
    (mapped_decides same_member member_view member_decides a.items b.items)

-- the test of a setting decides whether its values are equal, or none
pub setting_decides : (a b : Option Value)
    → Decides (option_eq same_value a b) (option_map value_view a ≡ option_map value_view b)
setting_decides None None = always refl
setting_decides None (Some b) = never (λ e. cc)
setting_decides (Some a) None = never (λ e. cc)
setting_decides (Some a) (Some b) =
    Decides-like (same_value a b) (λ e. ap Some e) (λ e. cc) (value_decides a b)
