use Rattle.std.proofs.Common.{◌≡◌, drop}
use Rattle.nextest_shape.specs.View.{fields_view}
use Rattle.rinqebo_faults.specs.Shapes.{field_at}
use Rattle.rinqebo_faults.proofs.shapes.field_of.Given as goal

abbrev pub invariant-loop-field : goal.invariant-loop-field
invariant-loop-field l =
    field_at (fields_view (drop l.field-index l.field-items)) l.key
    ≡ field_at (fields_view l.field-items) l.key
