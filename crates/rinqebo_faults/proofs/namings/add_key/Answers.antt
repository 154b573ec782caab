use Rattle.std.proofs.Common.{subst}
use Rattle.std.specs.Prelude.{OnOk}
use Rattle.rinqebo_faults.specs.FileNamings.{Adds, naming_place, written_names}
use Rattle.rinqebo_faults.proofs.Named.{adds_none}
use Rattle.rinqebo_faults.proofs.namings.add_key.Goals as goal

pub returns-in-Some : goal.returns-in-Some
returns-in-Some c =
    subst
    (λ written. OnOk c.add_written.result (Adds c.args.firsts.now c.add_written.new.firsts
    (written_names c.args.profile.now (naming_place c.args.naming) written)))
    c.in-Some.ensures c.add_written.ensures

pub returns-in-None : goal.returns-in-None
returns-in-None c =
    subst
    (λ written. Adds c.args.firsts.now c.args.firsts.now
    (written_names c.args.profile.now (naming_place c.args.naming) written))
    c.in-None.ensures (adds_none c.args.firsts.now)
