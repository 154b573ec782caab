use Rattle.std.proofs.Common.{ap, ◌∙◌}
use Rattle.std.specs.BTreeSet.{contains_text}
use Rattle.nextest_inheritance.specs.Faults.{inheritance_faults}
use Rattle.nextest_inheritance.specs.View.{inherits_error_view}
use Rattle.nextest_sources.specs.Causes.{bad_parents}
use Rattle.nextest_sources.specs.InputFaults.{fault_at_source}
use Rattle.nextest_sources.specs.Sources.{source_view}
use Rattle.nextest_rules.proofs.Telling.{told_at, listed_none, listed_some}
use Rattle.nextest_rules.proofs.parents.check_parents.Goals as goal

pub returns-then-is_empty : goal.returns-then-is_empty
returns-then-is_empty c =
    let lower = contains_text c.args.lower.now in
    let found = c.in_ok-errors.ensures.is ∙ ap (inheritance_faults lower) c.in_ok-parents.ensures in
    ap (fault_at_source (source_view c.args.source.now))
    (listed_none bad_parents inherits_error_view c.in_ok-errors.errors _ found c.is_empty.ensures c.if-is_empty.true)

pub returns : goal.returns
returns c =
    let lower = contains_text c.args.lower.now in
    let found = c.in_ok-errors.ensures.is ∙ ap (inheritance_faults lower) c.in_ok-parents.ensures in
    told_at (source_view c.args.source.now) _ _ c.at.result
    (listed_some bad_parents inherits_error_view c.in_ok-errors.errors _ found c.is_empty.ensures c.if-is_empty.false)
    c.at.ensures
