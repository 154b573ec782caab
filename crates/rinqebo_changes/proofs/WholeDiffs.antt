-- The document of a diff has no number that is a float, so that its text is known.
use Rattle.std.proofs.Common.{◌≡◌, ℤ, pos, negsuc, Bool, true, false, ◌||◌, List, [], ◌∷◌, ◌++◌, Option, None, Some, map, flat_map, String, string_bytes, refl, arith}
use Rattle.std.specs.declared.alloc.Global.{Global}
use Rattle.serde_json.specs.Data.{Data, no_members, number}
use Rattle.serde_json.specs.Find.{of_integer}
use Rattle.serde_json.specs.View.{items_of}
use Rattle.serde_json.specs.Written.{has_float, items_have_float}
use Rattle.rinqebo_report.specs.Documents.{text_data, optional_text_data, list_data, lines_data, range_data, scalar_data, value_data, optional_value_data, part_data, origin_data, tool_data, source_data, test_id_data}
use Rattle.rinqebo_report.specs.declared.origin.FileLines.{FileLines}
use Rattle.rinqebo_report.specs.declared.origin.Origin.{Origin}
use Rattle.rinqebo_report.specs.declared.origin.Origin.TheVariants as origins
use Rattle.rinqebo_report.specs.declared.origin.Part.{Part}
use Rattle.rinqebo_report.specs.declared.origin.Part.TheVariants.{Fields, Override, Script}
use Rattle.rinqebo_report.specs.declared.origin.Range.{Range}
use Rattle.rinqebo_report.specs.declared.origin.Source.{Source}
use Rattle.rinqebo_report.specs.declared.origin.SourceKind.{SourceKind}
use Rattle.rinqebo_report.specs.declared.origin.SourceKind.TheVariants as kinds
use Rattle.rinqebo_report.specs.declared.report.TestId.{TestId}
use Rattle.rinqebo_report.specs.declared.value.TableMember.{TableMember}
use Rattle.rinqebo_report.specs.declared.value.Scalar.{Scalar}
use Rattle.rinqebo_report.specs.declared.value.Scalar.TheVariants as scalars
use Rattle.rinqebo_report.specs.declared.value.Value.{Value}
use Rattle.rinqebo_report.specs.declared.value.Value.TheVariants as values
use Rattle.rinqebo_report.proofs.Exact.{IsExact, exact_text, exact_truth, no_more, exact_puts}
use Rattle.rinqebo_changes.specs.declared.change.RowChange.{RowChange}
use Rattle.rinqebo_changes.specs.declared.change.SideRow.{SideRow}
use Rattle.rinqebo_changes.specs.declared.classes.Class.{Class}
use Rattle.rinqebo_changes.specs.declared.classes.Item.{Item}
use Rattle.rinqebo_changes.specs.declared.diff.Diff.{Diff}
use Rattle.rinqebo_changes.specs.declared.diff.Side.{Side}
use Rattle.rinqebo_changes.specs.declared.groups.Group.{Group}
use Rattle.rinqebo_changes.specs.Documents.{given_data, change_data, item_data, group_data, side_data, diff_data}

-- a list
whole_items : {X : Type 0} (f : X → Data) → ((x : X) → has_float (f x) ≡ false) → (xs : List X)
    → has_float (list_data f xs) ≡ false
whole_items f each [] = refl
whole_items f each (x ∷ xs) = λ i. each x i || whole_items f each xs i

optional_text : (s : Option (String Global)) → has_float (optional_text_data s) ≡ false
optional_text None = refl
optional_text (Some s) = refl

-- values
integer : (z : ℤ) → IsExact 0 (number (of_integer z))
integer (pos m) = record { nests = omega arith; whole = refl }
integer (negsuc m) = record { nests = omega arith; whole = refl }

scalar : (s : Scalar) → IsExact 0 (scalar_data s)
scalar (scalars.Boolean b) = exact_truth 0 b
scalar (scalars.Integer z) = integer z
scalar (scalars.Text s) = exact_text 0 (string_bytes s)
scalar (scalars.Duration d) = exact_text 0 _

value : (v : Value) → has_float (value_data v) ≡ false
value (values.Scalar s) = (scalar s).whole
value (values.Texts xs) = whole_items text_data (λ s. refl) xs.items
value (values.Table fields) =
    (exact_puts 0 (λ (field : TableMember). string_bytes field.key) (λ field. scalar_data field.value)
    (λ field. scalar field.value) fields.items no_members (no_more 0)).whole

optional_value : (v : Option Value) → has_float (optional_value_data v) ≡ false
optional_value None = refl
optional_value (Some v) = value v

-- origins
part : (p : Part) → has_float (part_data p) ≡ false
part Fields = refl
part (Override i) = refl
part (Script i) = refl

lines : (l : Option FileLines) → has_float (lines_data l) ≡ false
lines None = refl
lines (Some l) = refl

range : (r : Option Range) → has_float (range_data r) ≡ false
range None = refl
range (Some r) = refl

origin : (o : Origin) → has_float (origin_data o) ≡ false
origin origins.BuiltIn = refl
origin origins.DefaultTable = refl
origin (origins.Written w) = λ i. part w.part i || (lines w.place.lines i || (range w.place.range i || false))
origin (origins.File p) = λ i. lines p.lines i || (range p.range i || false)

-- sources, tests
tool : (k : SourceKind) → has_float (tool_data k) ≡ false
tool kinds.Default = refl
tool (kinds.Tool name) = refl
tool kinds.Organisation = refl
tool kinds.Explicit = refl
tool kinds.Discovered = refl

source : (s : Source) → has_float (source_data s) ≡ false
source s = λ i. optional_text s.path i || (tool s.kind i || false)

test_id : (t : TestId) → has_float (test_id_data t) ≡ false
test_id t = refl

-- what a side gives
given : (row : SideRow) → has_float (given_data row) ≡ false
given row = by_flag row.is_ignored row
  where
    members : (row : SideRow) → has_float (given_data (record { row = row.row; is_ignored = false })) ≡ false
    members row = λ i. whole_items origin_data origin row.row.origins.items i || (optional_value row.row.value i || false)

    by_flag : (ignored : Bool) (row : SideRow)
        → has_float (given_data (record { row = row.row; is_ignored = ignored })) ≡ false
    by_flag true row = members row
    by_flag false row = members row

change : (row : RowChange) → has_float (change_data row) ≡ false
change row = λ i. given row.from i || (given row.to i || false)

-- groups
all_whole : (xs : List Item) (ds : List Data) → items_have_float (items_of ds) ≡ false
    → items_have_float (items_of (map item_data xs ++ ds)) ≡ false
all_whole [] ds rest = rest
all_whole (x ∷ xs) ds rest = λ i. test_id x.test.now i || all_whole xs ds rest i

tests : (bs : List Class)
    → items_have_float (items_of (flat_map (λ binary. map item_data binary.items.items) bs)) ≡ false
tests [] = refl
tests (b ∷ bs) =
    all_whole b.items.items (flat_map (λ binary. map item_data binary.items.items) bs) (tests bs)

group : (g : Group) → has_float (group_data g) ≡ false
group g = λ i. given g.head.row.now.from i || (tests g.binaries.items i || (given g.head.row.now.to i || false))

-- sides
side : (s : Side) → has_float (side_data s) ≡ false
side s = λ i. whole_items text_data (λ t. refl) s.asked.chain.items i
    || (whole_items source_data source s.sources.items i || (optional_text s.asked.target i || false))

pub whole_diff : (diff : Diff) (groups : List Group) → has_float (diff_data diff groups) ≡ false
whole_diff diff groups = λ i. whole_items test_id_data test_id diff.added.items i
    || (whole_items group_data group groups i || (side diff.from i
    || (whole_items test_id_data test_id diff.removed.items i || (whole_items change_data change diff.run.items i
    || (side diff.to i || false)))))
