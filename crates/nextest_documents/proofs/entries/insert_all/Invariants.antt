use Rattle.std.proofs.Common.{take, Contains}
use Rattle.nextest_documents.specs.Shown.{Path}
use Rattle.nextest_documents.specs.Leaves.{paths_view}
use Rattle.nextest_documents.proofs.entries.insert_all.Given as goal

abbrev pub invariant-loop-path : goal.invariant-loop-path
invariant-loop-path l = record {
  kept : (p : Path) → Contains (paths_view l.initial.set.keys) p → Contains (paths_view l.set.keys) p;
  added : (p : Path) → Contains (take l.path-index (paths_view l.paths)) p → Contains (paths_view l.set.keys) p;
}
