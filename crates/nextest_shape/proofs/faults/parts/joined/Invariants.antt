use Rattle.std.proofs.Common.{◌≡◌, ◌++◌}
use Rattle.nextest_shape.proofs.faults.parts.joined.Given as goal

abbrev pub invariant-loop-field : goal.invariant-loop-field
invariant-loop-field l = l.all.items ++ l.field-iterator.rest.items ≡ l.fn.fields.items ++ l.fn.more.items
