-- Each change is put together with itself.
use Rattle.std.proofs.Common.{◌≡◌, ◌&&◌, ◌==◌, Bool, true, false, refl, string_bytes}
use Rattle.std.specs.Bool.{beq}
use Rattle.std.specs.Option.{option_eq}
use Rattle.std.specs.Cmp.Lexicographic.{bytes_decides}
use Rattle.std.proofs.lemmas.Bool.Decides.{Decides-eqb}
use Rattle.rinqebo_changes.specs.declared.change.SideRow.{SideRow}
use Rattle.rinqebo_changes.specs.declared.classes.ClassRule.{ClassRule}
use Rattle.rinqebo_changes.specs.declared.classes.ClassRule.TheVariants.{Row, Binary}
use Rattle.rinqebo_changes.specs.declared.classes.Item.{Item}
use Rattle.rinqebo_changes.specs.Classes.{same_item, same_row}
use Rattle.rinqebo_changes.specs.Same.{same_value}
use Rattle.rinqebo_changes.specs.SameOrigin.{same_origins}
use Rattle.rinqebo_changes.proofs.SameOrigins.{origins_decide}
use Rattle.rinqebo_changes.proofs.SameValues.{setting_decides}

-- two tests that hold
pub both_hold : (p q : Bool) → p ≡ true → q ≡ true → (p && q) ≡ true
both_hold p q h k = rw (h, k)

pub flag_itself : (b : Bool) → beq b b ≡ true
flag_itself true = refl
flag_itself false = refl

row_itself : (r : SideRow) → same_row r r ≡ true
row_itself r =
    both_hold (option_eq same_value r.row.value r.row.value && beq r.is_ignored r.is_ignored)
    (same_origins r.row.origins.items r.row.origins.items)
    (both_hold (option_eq same_value r.row.value r.row.value) (beq r.is_ignored r.is_ignored)
    ((setting_decides r.row.value r.row.value).1 refl) (flag_itself r.is_ignored))
    ((origins_decide r.row.origins.items r.row.origins.items).1 refl)

pub same_itself : (rule : ClassRule) (item : Item) → same_item rule item item ≡ true
same_itself Row item =
    let row = item.row.now in
    both_hold (row.place == row.place && same_row row.from row.from) (same_row row.to row.to)
    (both_hold (row.place == row.place) (same_row row.from row.from) ((Decides-eqb row.place row.place).1 refl)
    (row_itself row.from)) (row_itself row.to)
same_itself Binary item =
    (bytes_decides (string_bytes item.test.now.binary) (string_bytes item.test.now.binary)).1 refl
