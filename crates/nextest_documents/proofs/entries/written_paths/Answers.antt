use Rattle.std.proofs.Common.{take, map}
use Rattle.nextest_documents.specs.Leaves.{paths_view}
use Rattle.nextest_documents.specs.Writers.{writer_view}
use Rattle.nextest_documents.proofs.Lists.{all_map, all_taken}
use Rattle.nextest_documents.proofs.Writing.{HasPaths}
use Rattle.nextest_documents.proofs.entries.written_paths.Goals as goal

pub loop-writer-preserved : goal.loop-writer-preserved
loop-writer-preserved c =
    let ls = c.args.layers.now in
    let old = paths_view c.loop-writer.set.keys in
    let new = paths_view c.insert_written.new.set.keys in
    let kept = c.in_ok-insert_written.ensures.kept in
    all_taken writer_view c.args.writers.now c.loop-writer.writer-index _ c.loop-writer-test.true (HasPaths ls new)
    (all_map (HasPaths ls old) (HasPaths ls new) (take c.loop-writer.writer-index (map writer_view c.args.writers.now))
    (λ writer has. λ p v is. kept p (has p v is)) c.loop-writer.invariant)
    c.in_ok-insert_written.ensures.added
