use Rattle.std.proofs.Common.{length, sym, ◌∙◌}
use Rattle.std.proofs.lemmas.Bool.{eqb-true}
use Rattle.nextest_inheritance.specs.View.{borrowed_view}
use Rattle.nextest_inheritance.proofs.Walking.{nothing_from}
use Rattle.nextest_inheritance.proofs.Least.{nothing_seen}
use Rattle.nextest_inheritance.proofs.cycles.cycle_of.Goals as goal

pub returns-then-is_empty : goal.returns-then-is_empty
returns-then-is_empty c =
    let ring = c.ring-ring.result.now in
    let walk = c.args.walk.now in
    let none = nothing_seen ring (eqb-true (length ring) 0 (sym c.is_empty.ensures ∙ c.if-is_empty.true)) in
    nothing_from walk.end.now (borrowed_view walk.path.items) (sym c.ring-ring.ensures ∙ none)
