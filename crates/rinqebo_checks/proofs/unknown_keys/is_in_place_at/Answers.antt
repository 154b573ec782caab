use Rattle.std.proofs.Common.{sym}
use Rattle.rinqebo_checks.proofs.unknown_keys.is_in_place_at.Goals as goal

pub returns-in-Some : goal.returns-in-Some
returns-in-Some c =
    λ same. record {
      fault = c.in-Some.fault.now;
      among = (c.args.place, c.in-Some.ensures.lookup.3.0, sym c.in-Some.ensures.lookup.1);
      is = c.is_in_place_of.ensures same;
    }
