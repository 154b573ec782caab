use Rattle.std.proofs.Common.{◌≡◌, ◌++◌, map, drop}
use Rattle.serde_json.specs.Data.{no_members}
use Rattle.serde_json.specs.View.{view, members_view}
use Rattle.nextest_shape.specs.Page.{with_properties, schemas_of}
use Rattle.nextest_shape.specs.View.{fields_view, shapes_view}
use Rattle.nextest_shape.proofs.page.+page.Given as goal

abbrev pub invariant-properties-loop-field : goal.invariant-properties-loop-field
invariant-properties-loop-field l =
    with_properties (fields_view (drop l.field-index l.field-items)) (members_view l.properties.entries)
    ≡ with_properties (fields_view l.field-items) no_members

abbrev pub invariant-schemas-loop-shape : goal.invariant-schemas-loop-shape
invariant-schemas-loop-shape l =
    map view l.schemas.items ++ schemas_of (shapes_view (drop l.shape-index l.shape-items))
    ≡ schemas_of (shapes_view l.shape-items)
