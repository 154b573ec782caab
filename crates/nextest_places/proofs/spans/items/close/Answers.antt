use Rattle.std.proofs.Common.{◌<◌, length, arith}
use Rattle.nextest_places.proofs.spans.Ending.{ends_at}
use Rattle.nextest_places.proofs.spans.Itemized.{ended}
use Rattle.nextest_places.proofs.spans.items.close.Goals as goal

pub returns : goal.returns
returns c =
    let less : c.args.index < length c.args.items.now.items = omega (arith, c.if-index-len.false, c.len.ensures, c.args.items.now.ok.0) in
    record {
      keeps =
          ended c.args.text.now c.args.items.now.items c.args.index c.index.result.now c.index-2.result.now c.index_mut.result.now c.end_at.new.self
          c.in-Some.«_container» c.args.end c.in-Some-span_text.own.now c.in_ok-kind.kind less c.index.ensures c.index-2.ensures c.index_mut.ensures.value
          c.in-Some.ensures c.in-Some-span_text.ensures c.in_ok-kind.ensures c.end_at.ensures;
      ends =
          ends_at c.args.text.now c.args.items.now.items c.args.index c.index-2.result.now c.index_mut.result.now c.end_at.new.self c.args.end
          c.in_ok-kind.kind c.index-2.ensures c.index_mut.ensures.value c.end_at.ensures;
    }
