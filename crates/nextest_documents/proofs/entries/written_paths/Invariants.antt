use Rattle.std.proofs.Common.{take, map}
use Rattle.std.specs.List.{AllByRecursion}
use Rattle.nextest_documents.specs.Leaves.{paths_view}
use Rattle.nextest_documents.specs.Writers.{writer_view}
use Rattle.nextest_documents.proofs.Writing.{HasPaths}
use Rattle.nextest_documents.proofs.entries.written_paths.Given as goal

abbrev pub invariant-loop-writer : goal.invariant-loop-writer
invariant-loop-writer l =
    AllByRecursion (HasPaths l.layers (paths_view l.set.keys)) (take l.writer-index (map writer_view l.writers))
