use Rattle.std.proofs.Common.{sym}
use Rattle.std.proofs.lemmas.List.{drop_all}
use Rattle.rinqebo_origins.proofs.Items.{not_texts}
use Rattle.rinqebo_origins.proofs.SpelledLeaves.{text_more, texts_end}
use Rattle.rinqebo_origins.proofs.spelled.are_texts.Goals as goal

pub loop-item-preserved : goal.loop-item-preserved
loop-item-preserved c =
    text_more c.args.items.now c.loop-item.item-index c.item-item.result c.item-item.result _ c.loop-item-test.true
    c.item-item.is c.in-Some.ensures c.loop-item.invariant

pub returns-in-None : goal.returns-in-None
returns-in-None c =
    sym (not_texts c.args.items.now c.loop-item.item-index c.item-item.result c.loop-item-test.true c.item-item.is
    c.in-None.ensures)

pub returns : goal.returns
returns c =
    texts_end c.args.items.now c.loop-item.item-index
    (drop_all c.loop-item.item-index c.args.items.now c.loop-item-test.false) c.loop-item.invariant
