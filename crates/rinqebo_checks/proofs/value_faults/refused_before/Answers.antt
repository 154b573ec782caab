use Rattle.std.proofs.Common.{◌-◌, length, refl}
use Rattle.std.proofs.lemmas.Option.{slice_get_read}
use Rattle.rinqebo_checks.specs.Faults.{IsRefusedKey}
use Rattle.rinqebo_checks.proofs.Joining.{read_again}
use Rattle.rinqebo_checks.proofs.value_faults.refused_before.Goals as goal

pub returns-then-is_refused_key : goal.returns-then-is_refused_key
returns-then-is_refused_key c =
    let faults = c.args.faults.now in
    let place = c.loop-place.place - 1 in
    let refused = c.in_ok-refused.refused.now in
    read_again (λ f. IsRefusedKey c.args.table.now c.args.key.now f.fault) faults place refused
    (slice_get_read faults (length faults) place refused refl c.in_ok-refused.ensures.lookup.3.0
    c.in_ok-refused.ensures.lookup.1)
    (c.is_refused_key.ensures c.if-is_refused_key.true)
