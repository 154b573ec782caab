use Rattle.std.proofs.Common.{ap, arith, length, refl}
use Rattle.regex_vm.proofs.SetLemmas.{inserted}
use Rattle.filter_engine.proofs.machine.state_flags.StateFlags.insert.Goals as goal

pub returns-clause-counted : goal.returns-clause-counted
returns-clause-counted g c =
    rw (← c.self.view_is)
    (inserted c.self.inside.flags _ c.args.state _ (omega (arith, ap length c.self.view_is)) refl refl).counted

pub returns-clause-within : goal.returns-clause-within
returns-clause-within g c =
    rw (← c.self.view_is)
    (inserted c.self.inside.flags _ c.args.state _ (omega (arith, ap length c.self.view_is)) refl refl).within
