use Rattle.std.proofs.Common.{◌≡◌, map, drop}
use Rattle.nextest_shape.specs.Keys.{field_keys_at, first_keys_at}
use Rattle.nextest_shape.specs.View.{fields_view, shapes_view}
use Rattle.nextest_shape.proofs.keys.+keys.Given as goal

abbrev pub invariant-field_keys-loop-field : goal.invariant-field_keys-loop-field
invariant-field_keys-loop-field l =
    field_keys_at (fields_view (drop l.field-index l.field-items)) l.part (map (λ part. part.now) l.path)
    ≡ field_keys_at (fields_view l.field-items) l.part (map (λ part. part.now) l.path)

abbrev pub invariant-first_keys-loop-shape : goal.invariant-first_keys-loop-shape
invariant-first_keys-loop-shape l =
    first_keys_at (shapes_view (drop l.shape-index l.shape-items)) (map (λ part. part.now) l.path)
    ≡ first_keys_at (shapes_view l.shape-items) (map (λ part. part.now) l.path)
