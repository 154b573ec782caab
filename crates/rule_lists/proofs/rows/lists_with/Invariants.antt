use Rattle.std.proofs.Common.{◌≡◌, map, drop}
use Rattle.rule_lists.specs.Rows.{lists_of}
use Rattle.rule_lists.proofs.rows.lists_with.Given as goal

abbrev pub invariant-loop-k : goal.invariant-loop-k
invariant-loop-k g l = l.bits ≡ lists_of (map (λ list. g.R.Listed.listed l.place list) (drop l.k l.lists)) l.rule
