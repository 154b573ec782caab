use Rattle.std.proofs.Common.{◌-◌, ap}
use Rattle.nextest_places.specs.Spans.Turns.{holder_pair}
use Rattle.nextest_places.proofs.spans.Holders.{pairs_set}
use Rattle.nextest_places.proofs.spans.reader.Reader.next_in_list.Goals as goal

pub returns-clause-held : goal.returns-clause-held
returns-clause-held c =
    pairs_set c.args.self.now.held.items (c.args.self.now.held.len - 1)
    (record { item = c.in_ok-holder.holder.now.item; container = c.in_ok-holder.holder.now.container; count = c.saturating_add-holder.result })
    c.in_ok-holder.holder.now (ap holder_pair c.in_ok-holder.ensures.value)
