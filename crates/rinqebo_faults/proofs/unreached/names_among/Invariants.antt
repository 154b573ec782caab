use Rattle.std.proofs.Common.{◌≡◌, ◌++◌, drop, map, string_bytes}
use Rattle.std.specs.Prelude.{filter}
use Rattle.rinqebo_faults.specs.Checks.{check_name, is_after}
use Rattle.rinqebo_faults.proofs.unreached.names_among.Given as goal

abbrev pub invariant-loop-check : goal.invariant-loop-check
invariant-loop-check l =
    map string_bytes l.names.items
    ++ map check_name (filter (is_after l.reached) (drop l.check-index l.checks))
    ≡ map check_name (filter (is_after l.reached) l.checks)
