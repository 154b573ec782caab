use Rattle.nextest_documents.specs.Layers.{layers_view, keys_view}
use Rattle.nextest_documents.proofs.Highest.{merged_is}
use Rattle.nextest_documents.proofs.layer.layer_of.Goals as goal

pub returns-clause-merged : goal.returns-clause-merged
returns-clause-merged c =
    merged_is (keys_view c.args.path.now) (layers_view c.args.layers.now) c.highest_layer.result c.highest_layer.ensures
