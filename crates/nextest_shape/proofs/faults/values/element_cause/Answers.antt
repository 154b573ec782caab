use Rattle.nextest_shape.proofs.faults.Reading.{read_value, refused_value}
use Rattle.nextest_shape.proofs.faults.values.element_cause.Goals as goal

pub returns-in-Ok : goal.returns-in-Ok
returns-in-Ok g c = λ test is. read_value _ _ test _ _ is c.in-Ok.ensures.reads

pub returns : goal.returns
returns g c = λ test is.
    refused_value _ _ test _ c.in-Err.fault c.in_ok-cause_in-in-Err.field-0 is c.in-Err.ensures.reads
    c.in_ok-cause_in-in-Err.ensures.same c.in_ok-cause_in-in-Err.ensures.seen
