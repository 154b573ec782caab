-- A map wants what its fields or its values do.
use Rattle.std.proofs.Common.{◌∙◌, ap, sym}
use Rattle.std.specs.Option.{option_and_then}
use Rattle.nextest_shape.proofs.Views.{shape_view-Map}
use Rattle.nextest_shape.specs.View.{fields_view, shape_view}
use Rattle.rinqebo_faults.specs.Shapes.{below_one, key_of, name_at}
use Rattle.rinqebo_faults.proofs.shapes.below_one.Goals as goal

pub returns-in-Map : goal.returns-in-Map
returns-in-Map c =
    c.below_map.ensures
    ∙ ap (λ v. option_and_then (name_at (fields_view c.in-Map.fields.items) (shape_view v)) (key_of c.args.step)) c.deref-in-Map.ensures
    ∙ sym (ap (λ form. below_one form (key_of c.args.step))
    (ap shape_view c.in-Map.is ∙ shape_view-Map c.in-Map.names c.in-Map.fields c.in-Map.values))
