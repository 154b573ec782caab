use Rattle.std.proofs.Common.{sym, subst}
use Rattle.std.proofs.lemmas.Option.{IfSome_then}
use Rattle.rinqebo_checks.specs.Faults.{IsRefusedKey}
use Rattle.rinqebo_checks.proofs.value_faults.joined_with.Goals as goal

pub returns-in-Missing : goal.returns-in-Missing
returns-in-Missing c =
    IfSome_then c.refused_before.result c.refused_before.ensures (λ joined refuses refused is. record {
      other = c.in_ok-lacking.lacking.now;
      among = (c.args.place, c.in_ok-lacking.ensures.lookup.3.0, sym c.in_ok-lacking.ensures.lookup.1);
      missing = c.in-Missing.field-0;
      lacks = c.in-Missing.is;
      key = c.in_ok-stray.stray;
      in_place = c.in_ok-stray.was;
      refuses = subst (λ table. IsRefusedKey table c.in_ok-stray.stray.now refused.fault) c.deref.ensures.value
          (refuses refused is);
    })
