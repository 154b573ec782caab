use Rattle.std.proofs.Common.{◌∙◌, sym, subst, arith}
use Rattle.rinqebo_checks.specs.Faults.{IsSound}
use Rattle.rinqebo_checks.proofs.LeavingOutValues as leaving
use Rattle.rinqebo_checks.proofs.Reporting.{with_all_files, with_next_file}
use Rattle.rinqebo_checks.proofs.file_values.value_findings.Goals as goal

pub loop-place-preserved : goal.loop-place-preserved
loop-place-preserved c =
    let layer = c.index-layers-place.result in
    record {
      reported = with_next_file _ c.args.layers.now c.loop-place.place layer c.loop-place.findings.items
          c.in_ok-own.own.items _ c.loop-place-test.true c.index-layers-place.is c.in_ok-append.ensures.items
          c.loop-place.invariant.reported c.in_ok-own.ensures.reported;
      left_out = leaving.with_next_file c.args.layers.now c.loop-place.place layer _ _ _ c.loop-place-test.true
          c.index-layers-place.is c.loop-place.invariant.left_out c.in_ok-own.ensures.left_out;
      sound = λ sound.
          c.in_ok-own.ensures.sound
          (subst IsSound (sym c.index-layers-place.is) (sound c.loop-place.place layer c.loop-place-test.true))
          ∙ c.loop-place.invariant.sound sound;
    }

pub returns-clause-reported : goal.returns-clause-reported
returns-clause-reported c =
    with_all_files _ c.args.layers.now c.loop-place.place _ (omega arith) c.loop-place.invariant.reported

pub returns-clause-left_out : goal.returns-clause-left_out
returns-clause-left_out c =
    leaving.with_all_files c.args.layers.now c.loop-place.place _ _ (omega arith) c.loop-place.invariant.left_out
