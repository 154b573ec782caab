use Rattle.std.proofs.Common.{◌≡◌, ◌++◌, map, drop}
use Rattle.nextest_shape.specs.Keys.{key_texts}
use Rattle.nextest_shape.specs.View.{fields_view}
use Rattle.nextest_shape.proofs.keys.own_keys.Given as goal

abbrev pub invariant-loop-field : goal.invariant-loop-field
invariant-loop-field l =
    map (λ key. key.now) l.keys.items ++ key_texts (fields_view (drop l.field-index l.fields))
    ≡ key_texts (fields_view l.fields)
