use Rattle.std.proofs.Common.{◌≡◌, ◌++◌, map}
use Rattle.filter_inputs.proofs.lists.suite_reader.in_order.Given as goal

-- the binaries so far
abbrev pub invariant-loop-binary : goal.invariant-loop-binary
invariant-loop-binary l = l.binaries.items ++ map (λ e. e.1) l.binary-iterator ≡ map (λ e. e.1) l.fn.suites.entries
