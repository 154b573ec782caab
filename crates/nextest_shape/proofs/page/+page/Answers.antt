use Rattle.serde_json.proofs.Views.{view-Object}
use Rattle.nextest_shape.proofs.Properties.{with_next, put_described}
use Rattle.nextest_shape.proofs.page.+page.Goals as goal

pub properties-loop-field-preserved : goal.properties-loop-field-preserved
properties-loop-field-preserved t c =
    with_next c.deref-field-items.result.now c.loop-field.field-index c.field-item.result _ _ _ c.loop-field-test.true
    c.field-item.is
    (put_described _ _ _ _ _ _ _ _ c.field-item.result c.text.ensures c.in_ok-about.ensures c.about.ensures
    c.in_ok-members.ensures c.in_ok-put.ensures.ok (view-Object c.put.new.map) c.in_ok-put-2.ensures.ok)
    c.loop-field.invariant
