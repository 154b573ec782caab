use Rattle.std.proofs.Common.{◌∙◌, ap, map}
use Rattle.nextest_documents.specs.Entries.{leaf_view}
use Rattle.rinqebo_origins.specs.ReportedEntries.{step_key}
use Rattle.rinqebo_results.proofs.Showing.{leaf_reported}
use Rattle.rinqebo_results.proofs.leaves.reported_leaf.Goals as goal

pub returns : goal.returns
returns c =
    leaf_reported c.args.layers.now (leaf_view c.args.leaf.now) c.deref.result.now c.path_place-place.result
    c.reported_entry.result (ap (map step_key) c.deref.ensures.value ∙ c.in_ok-path.ensures) c.path_place-place.ensures
    c.reported_entry.ensures
