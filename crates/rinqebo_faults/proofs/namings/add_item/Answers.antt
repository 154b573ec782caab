use Rattle.std.proofs.Common.{subst}
use Rattle.std.specs.Prelude.{OnOk}
use Rattle.rinqebo_faults.specs.FileNamings.{Adds, name_at, naming_place}
use Rattle.rinqebo_faults.proofs.Named.{adds_none}
use Rattle.rinqebo_faults.proofs.namings.add_item.Goals as goal

pub returns-in-Some : goal.returns-in-Some
returns-in-Some c =
    subst
    (λ name. OnOk c.add_name.result (Adds c.args.firsts.now c.add_name.new.firsts
    (name_at c.args.profile.now (naming_place c.args.naming) name)))
    c.in-Some.ensures c.add_name.ensures

pub returns-in-None : goal.returns-in-None
returns-in-None c =
    subst
    (λ name. Adds c.args.firsts.now c.args.firsts.now
    (name_at c.args.profile.now (naming_place c.args.naming) name))
    c.in-None.ensures (adds_none c.args.firsts.now)
