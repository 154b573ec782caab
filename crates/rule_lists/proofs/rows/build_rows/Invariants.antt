use Rattle.std.proofs.Common.{◌≡◌, ◌+◌, map, drop, reverse}
use Rattle.rule_lists.specs.Rows.{lists_in, rows_of}
use Rattle.rule_lists.proofs.rows.build_rows.Given as goal

abbrev pub invariant-loop-k : goal.invariant-loop-k
invariant-loop-k g l =
    let tests = map (λ list. g.R.Listed.listed l.place list) l.lists in
    record {
      rows : reverse l.rows.items ≡ rows_of tests (l.first + l.k) (drop l.k l.rules);
      later : l.later ≡ lists_in tests (drop l.k l.rules);
    }
