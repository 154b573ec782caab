use Rattle.rinqebo_forms.specs.Machines.{IsMachineRefused}
use Rattle.rinqebo_load.specs.InputFaults.{IsAboutNamed}
use Rattle.rinqebo_load.specs.Machines.{machine_of}
use Rattle.rinqebo_load.proofs.Causes.{of_engine}
use Rattle.rinqebo_load.proofs.engines.named_platform.Goals as goal

pub returns-in_ok-subject-in-Err-clause-err : goal.returns-in_ok-subject-in-Err-clause-err
returns-in_ok-subject-in-Err-clause-err c =
    rw c.of_engine.ensures
    (of_engine (IsAboutNamed c.args.names) (IsMachineRefused (machine_of c.args.cfg.now c.args.triple.now))
    c.in_ok-subject-in-Err.field-0 c.in-Err.fault c.in_ok-subject-in-Err.ensures c.in-Err.ensures.err)
