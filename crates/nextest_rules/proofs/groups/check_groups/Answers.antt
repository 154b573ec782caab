use Rattle.std.proofs.Common.{◌≡◌, ap}
use Rattle.std.specs.BTreeSet.{contains_text}
use Rattle.nextest_sources.specs.Causes.{unknown_groups}
use Rattle.nextest_sources.specs.Errors.{group_error_view}
use Rattle.nextest_sources.specs.InputFaults.{fault_at_source}
use Rattle.nextest_sources.specs.Sources.{source_view}
use Rattle.nextest_rules.specs.Known.{with_global}
use Rattle.nextest_rules.proofs.Telling.{told_at, listed_none, listed_some}
use Rattle.nextest_rules.proofs.groups.check_groups.Goals as goal

pub returns-then-is_empty : goal.returns-then-is_empty
returns-then-is_empty g c =
    let known = contains_text c.args.known.now in
    ap (fault_at_source (source_view c.args.source.now))
    (listed_none (λ faults. unknown_groups faults (with_global known)) group_error_view c.in_ok-errors.errors
    _ c.in_ok-errors.ensures c.is_empty.ensures c.if-is_empty.true)

pub returns : goal.returns
returns g c =
    let known = contains_text c.args.known.now in
    let all : contains_text c.in_ok-known_groups.known_groups ≡ with_global known =
    λ i q. c.in_ok-known_groups.ensures q i in
    told_at (source_view c.args.source.now) _ _ c.at.result
    (listed_some (λ faults. unknown_groups faults (with_global known)) group_error_view c.in_ok-errors.errors
    _ c.in_ok-errors.ensures c.is_empty.ensures c.if-is_empty.false)
    (rw (← all) c.at.ensures)
