use Rattle.std.proofs.Common.{◌≡◌, ◌-◌, arith, length, map, drop}
use Rattle.nextest_settings.specs.View.{fields_ref_view}
use Rattle.nextest_settings.proofs.AreValues.{last_complete, not_empty, at_last, one_nearer}
use Rattle.nextest_settings.proofs.values.values_of.Goals as goal

pub values_in-values-requires : goal.values_in-values-requires
values_in-values-requires c =
    let fields = c.args.fields.now in
    let some = not_empty fields_ref_view fields c.requires in
    last_complete fields_ref_view fields (length fields - 1) c.index-fields-left.result
    c.index-fields-left.result c.requires (omega (arith, some)) c.index-fields-left.is

pub loop-left-init : goal.loop-left-init
loop-left-init c =
    let fields = c.args.fields.now in
    let some = not_empty fields_ref_view fields c.requires in
    record {
      inside = omega (arith, some);
      values = at_last fields_ref_view fields (length fields - 1) c.index-fields-left.result
          c.index-fields-left.result c.values_in-values.result (omega (arith, some)) c.index-fields-left.is
          c.values_in-values.ensures;
    }

pub loop-left-preserved : goal.loop-left-preserved
loop-left-preserved c =
    let fields = c.args.fields.now in
    let left = c.loop-left.left in
    let x = c.index-fields-left-in-loop-left.result in
    let inside = c.loop-left.invariant.inside in
    let some = c.loop-left-test.true in
    record {
      inside = omega (arith, inside);
      values = one_nearer fields_ref_view fields left (left - 1) x x c.values_over-values.result
          (omega (arith, some)) (omega (arith, inside)) c.index-fields-left-in-loop-left.is
          (c.values_over-values.ensures (map fields_ref_view (drop left fields)) c.loop-left.invariant.values);
    }

pub returns : goal.returns
returns c =
    let done : c.loop-left.left ≡ 0 = omega (arith, c.loop-left-test.false) in
    rw done at c.loop-left.invariant.values
