use Rattle.std.proofs.Common.{subst}
use Rattle.rinqebo_checks.specs.Faults.{IsKeyIn}
use Rattle.rinqebo_checks.proofs.unknown_keys.is_in_place_of.Goals as goal

pub returns-in-Missing : goal.returns-in-Missing
returns-in-Missing c =
    λ same. record {
      missing = c.in-Missing.field-0;
      lacks = c.in-Missing.is;
      key = c.in-Some.stray;
      in_place = c.in-Some.is;
      at_key = subst (λ table. IsKeyIn c.args.path.now table c.in-Some.stray.now) c.deref.ensures.value
          (c.is_key_in.ensures same);
    }
