use Rattle.rinqebo_origins.proofs.Items.{are_items, not_texts}
use Rattle.rinqebo_origins.proofs.leaf_value.texts_of.Goals as goal

pub returns-in-None : goal.returns-in-None
returns-in-None c =
    not_texts c.args.items.now c.loop-item.item-index c.item-item.result c.loop-item-test.true c.item-item.is
    c.in-None.ensures

pub returns : goal.returns
returns c =
    are_items c.args.items.now c.loop-item.item-index c.loop-item.texts.items c.loop-item-test.false
    c.loop-item.invariant
