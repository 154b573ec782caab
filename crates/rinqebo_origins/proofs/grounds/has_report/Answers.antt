use Rattle.nextest_documents.specs.Layers.{layers_view, keys_view}
use Rattle.nextest_documents.proofs.Results.{overruled}
use Rattle.rinqebo_origins.specs.ProfileOrigins.{report_path}
use Rattle.rinqebo_origins.proofs.grounds.has_report.Goals as goal

pub returns : goal.returns
returns c =
    overruled (layers_view c.args.trees.now) (keys_view c.args.chain.now) report_path c.in_ok-grounds.grounds
    c.is_some.result c.in_ok-grounds.ensures c.is_some.ensures
