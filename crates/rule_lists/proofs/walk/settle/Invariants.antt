use Rattle.std.proofs.Common.{◌≡◌, ◌++◌, take, drop}
use Rattle.rule_lists.specs.Rows.{settled}
use Rattle.rule_lists.proofs.walk.settle.Given as goal

abbrev pub invariant-loop-k : goal.invariant-loop-k
invariant-loop-k g l = take l.k l.found ++ settled l.rule l.lists (drop l.k l.found)
    ≡ settled l.rule l.fn.lists l.fn.found
