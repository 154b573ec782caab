use Rattle.nextest_tree.specs.View.{tree_view}
use Rattle.rinqebo_checks.specs.declared.value_faults.ValueFault.{ValueFault}
use Rattle.rinqebo_checks.proofs.Reporting.{faults_more, strays_more}
use Rattle.rinqebo_checks.proofs.value_faults.with_strays.Goals as goal

pub loop-fault-preserved : goal.loop-fault-preserved
loop-fault-preserved c =
    let made = c.loop-fault.found.items in
    let all = c.push.new.self.items in
    let fault : ValueFault = record { fault = c.in-Some.fault; stray = c.in_ok-stray.stray } in
    record {
      faults = faults_more made all fault c.loop-fault.fault-iterator.rest.items c.next.new.self.rest.items
          c.args.faults.items c.in_ok-push.ensures.items c.in-Some.ensures.steps.0 c.loop-fault.invariant.faults;
      strays = strays_more (tree_view c.args.tree.now) made all fault c.in_ok-push.ensures.items
          c.loop-fault.invariant.strays c.in_ok-stray.ensures;
    }
