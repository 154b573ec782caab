use Rattle.std.proofs.Common.{◌≡◌, ◌++◌, drop, map}
use Rattle.nextest_shape.specs.View.{fields_view}
use Rattle.rinqebo_faults.specs.Expected.{required_keys}
use Rattle.rinqebo_faults.proofs.expected.table_words.Given as goal

abbrev pub invariant-loop-field : goal.invariant-loop-field
invariant-loop-field l =
    map (λ key. key.now) l.keys.items ++ required_keys (fields_view (drop l.field-index l.fields))
    ≡ required_keys (fields_view l.fields)
