use Rattle.std.proofs.Common.{◌≡◌, List, ◌++◌, map}
use Rattle.nextest_documents.specs.Entries.{leaf_view}
use Rattle.nextest_documents.specs.Layers.{layers_view, keys_view}
use Rattle.nextest_documents.specs.Leaves.{paths_view}
use Rattle.nextest_documents.specs.Writers.{writer_view, IsFound, AreAllFound}
use Rattle.nextest_documents.proofs.KeySets.{Keys}
use Rattle.nextest_documents.proofs.entries.entries_at.Given as goal

abbrev pub invariant-loop-path : goal.invariant-loop-path
invariant-loop-path l =
    (done : List Keys) × (l.paths.keys ≡ done ++ l.path-iterator)
    × AreAllFound (IsFound (layers_view l.query.layers.now) (keys_view l.query.keys.now) l.query.with_hidden)
    (map writer_view l.writers) (paths_view done) (map leaf_view l.entries.items)
