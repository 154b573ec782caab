use Rattle.std.proofs.Common.{◌≡◌, ◌++◌, map}
use Rattle.nextest_documents.specs.Layers.{keys_view}
use Rattle.nextest_documents.specs.Writers.{writer_view, writers}
use Rattle.nextest_documents.proofs.Writing.{left}
use Rattle.nextest_documents.proofs.entries.writers_of.Given as goal

abbrev pub invariant-loop-i : goal.invariant-loop-i
invariant-loop-i l =
    map writer_view l.writers.items ++ left l.count l.chain l.i ≡ writers (keys_view l.chain) l.count
