use Rattle.std.proofs.Common.{◌∙◌, arith}
use Rattle.rule_lists.proofs.Settled.{taken, left}
use Rattle.rule_lists.proofs.walk.settle.Goals as goal
use Rattle.rule_lists.proofs.walk.settle.Goals.{then-lists-eq1, else-lists-eq1}

pub loop-k-preserved : goal.loop-k-preserved
loop-k-preserved g c =
    elim c.if-lists-eq1.branch [
      | then-lists-eq1 w ↦ rw w.found-is
          (taken c.args.rule c.loop-k.lists c.loop-k.k c.loop-k.found
          (omega (arith, c.loop-k-test.true, c.loop-k.auto.found)) w.if-lists-eq1.true ∙ c.loop-k.invariant)
      | else-lists-eq1 w ↦ rw w.found-is
          (left c.args.rule c.loop-k.lists c.loop-k.k c.loop-k.found
          (omega (arith, c.loop-k-test.true, c.loop-k.auto.found)) w.if-lists-eq1.false ∙ c.loop-k.invariant)
    ]
