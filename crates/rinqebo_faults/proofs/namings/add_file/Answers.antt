use Rattle.std.proofs.Common.{map, subst}
use Rattle.std.specs.Prelude.{OnOk}
use Rattle.rinqebo_faults.specs.FileNamings.{Adds, profiles_names}
use Rattle.rinqebo_faults.specs.Repairs.{entries_or_none}
use Rattle.rinqebo_faults.proofs.Named.{adds_none}
use Rattle.rinqebo_faults.proofs.namings.add_file.Goals as goal

pub returns-in-Some : goal.returns-in-Some
returns-in-Some c =
    subst
    (λ profiles. OnOk c.add_profiles.result (Adds c.args.firsts.now c.add_profiles.new.firsts
    (profiles_names c.args.list.now (map (λ k. k.now) c.args.keys.now) (entries_or_none profiles))))
    c.in-Some.ensures c.add_profiles.ensures

pub returns-in-None : goal.returns-in-None
returns-in-None c =
    subst
    (λ profiles. Adds c.args.firsts.now c.args.firsts.now
    (profiles_names c.args.list.now (map (λ k. k.now) c.args.keys.now) (entries_or_none profiles)))
    c.in-None.ensures (adds_none c.args.firsts.now)
