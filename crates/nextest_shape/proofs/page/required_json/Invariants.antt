use Rattle.std.proofs.Common.{◌≡◌, ◌++◌, map, drop}
use Rattle.serde_json.specs.Data.{string}
use Rattle.serde_json.specs.View.{view}
use Rattle.nextest_shape.specs.Page.{required_keys}
use Rattle.nextest_shape.specs.View.{fields_view}
use Rattle.nextest_shape.proofs.page.required_json.Given as goal

abbrev pub invariant-loop-field : goal.invariant-loop-field
invariant-loop-field l =
    map view l.list.items ++ map string (required_keys (fields_view (drop l.field-index l.fields)))
    ≡ map string (required_keys (fields_view l.fields))
