use Rattle.std.proofs.Common.{◌≡◌, drop, map}
use Rattle.nextest_tree.specs.Key.{key_text}
use Rattle.nextest_tree.specs.Schema.{is_one_of, names_of}
use Rattle.nextest_shape.specs.Faults.Places.{fields_view}
use Rattle.nextest_shape.proofs.faults.listing.is_field.Given as goal

abbrev pub invariant-loop-field : goal.invariant-loop-field
invariant-loop-field l =
    is_one_of (map key_text (names_of (fields_view (drop l.field-index l.fields)))) l.key
    ≡ is_one_of (map key_text (names_of (fields_view l.fields))) l.key
