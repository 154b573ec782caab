use Rattle.std.proofs.Common.{arith, ◌*◌, ◌+◌, ◌-◌}
use Rattle.std.proofs.lemmas.List.{get_or_read}
use Rattle.filter_engine.specs.declared.machine.table.Cell.TheVariants.{Unknown}
use Rattle.filter_engine.proofs.Follows.{end_within}
use Rattle.filter_engine.proofs.machine.table.Table.at_end.Goals as goal

pub index-requires : goal.index-requires
index-requires c = end_within c.args.self.now c.args.row c.requires

pub returns : goal.returns
returns c =
    let table = c.args.self.now in
    get_or_read table.cells.items (c.args.row * table.width + (table.width - 1)) _
    (omega (arith, end_within table c.args.row c.requires, table.cells.ok.0)) c.index.ensures Unknown
