use Rattle.rinqebo_load.proofs.engines.target_of.Goals as goal

pub returns-in_ok-named_platform-in-Some-clause-known : goal.returns-in_ok-named_platform-in-Some-clause-known
returns-in_ok-named_platform-in-Some-clause-known c =
    let found = c.in_ok-named_platform-in-Some in
    rw c.in-Some.is (found.field-0, rw c.as_str.ensures.value at found.ensures.ok)
