use Rattle.std.proofs.Common.{◌+◌, ◌-◌, arith, length, map, refl}
use Rattle.rinqebo_request.specs.Files.Layers.{layer_view}
use Rattle.rinqebo_request.proofs.files.Layering.{tools_all, tools_more}
use Rattle.rinqebo_request.proofs.files.layers.add_tools.Goals as goal

pub down-preserved : goal.down-preserved
down-preserved c =
    tools_more c.args.tools.now c.down.back (c.down.back + 1) (length c.args.tools.now - 1 - c.down.back)
    c.index-tools-count.result (map layer_view c.args.layers.now.items) c.down.layers.items c.push.new.self.items
    c.in_ok-layer.layer c.down-test.true refl refl c.index-tools-count.is c.down.invariant c.in_ok-layer.ensures
    c.in_ok-push.ensures.items

pub returns : goal.returns
returns c =
    tools_all c.args.tools.now c.down.back (map layer_view c.args.layers.now.items)
    (map layer_view c.down.layers.items) (omega arith) c.down.invariant
