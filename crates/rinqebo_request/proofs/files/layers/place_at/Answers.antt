use Rattle.std.proofs.Common.{rules, tests}
use Rattle.std.proofs.lemmas.Iterator.{YieldsList-from_slice}
use Rattle.std.proofs.lemmas.Iterator.Search.{position_from_yields_List}
use Rattle.nextest_elements.specs.OwnerView.{owner_view}
use Rattle.nextest_sources.specs.Sources.{path_view}
use Rattle.rinqebo_request.specs.Files.Origins.{reported_file}
use Rattle.rinqebo_request.specs.Files.RuleTables.{lies_at}
use Rattle.rinqebo_request.specs.declared.files.layers.Layer.{Layer}
use Rattle.rinqebo_request.proofs.files.layers.place_at.Goals as goal

pub returns : goal.returns
returns c =
    position_from_yields_List
    (λ (layer : Layer). lies_at (owner_view c.args.owner) (path_view c.args.path.now) (reported_file layer.source)) _ _
    c.position.result c.position.ensures.ran (YieldsList-from_slice c.args.layers.now cc) (λ x b q k. search (rules, tests))
