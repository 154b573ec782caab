use Rattle.nextest_shape.proofs.faults.Reading.{refused_name}
use Rattle.nextest_shape.proofs.faults.values.name_cause.Goals as goal

pub returns : goal.returns
returns g c =
    refused_name _ _ c.in-Err.fault c.in_ok-cause_in-in-Err.field-0 c.in-Err.ensures.fault
    c.in_ok-cause_in-in-Err.ensures.same c.in_ok-cause_in-in-Err.ensures.seen
