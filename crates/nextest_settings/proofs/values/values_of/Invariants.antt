use Rattle.std.proofs.Common.{◌<◌, map, drop, length}
use Rattle.nextest_settings.specs.ChainValues.{AreValues}
use Rattle.nextest_settings.specs.View.{fields_ref_view}
use Rattle.nextest_settings.proofs.values.values_of.Given as goal

abbrev pub invariant-loop-left : goal.invariant-loop-left
invariant-loop-left l = record {
  inside : l.left < length l.fields;
  values : AreValues (map fields_ref_view (drop l.left l.fields)) l.values;
}

abbrev pub decreases-loop-left : goal.decreases-loop-left
decreases-loop-left l = l.left
