use Rattle.std.proofs.Common.{arith}
use Rattle.filter_engine.proofs.Searches.{finds_pattern}
use Rattle.filter_engine.proofs.machine.Machine.compile.Goals as goal

pub invariant_of-result : goal.invariant_of-result
invariant_of-result c = record { few = omega arith; tabled = ∣ c.in_ok-table.ensures ∣₁ }

pub returns : goal.returns
returns c = finds_pattern _ _ c.in-Ok.ensures.matches
