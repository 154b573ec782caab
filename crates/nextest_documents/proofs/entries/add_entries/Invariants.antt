use Rattle.std.proofs.Common.{take, map}
use Rattle.nextest_documents.specs.Entries.{leaf_view}
use Rattle.nextest_documents.specs.Layers.{layers_view, keys_view}
use Rattle.nextest_documents.specs.Writers.{writer_view, IsFound, AddsFound}
use Rattle.nextest_documents.proofs.entries.add_entries.Given as goal

abbrev pub invariant-loop-writer : goal.invariant-loop-writer
invariant-loop-writer l =
    AddsFound (IsFound (layers_view l.query.layers.now) (keys_view l.query.keys.now) l.query.with_hidden
    (keys_view l.path))
    (take l.writer-index (map writer_view l.writers))
    (map leaf_view l.initial.entries.items) (map leaf_view l.entries.items)
