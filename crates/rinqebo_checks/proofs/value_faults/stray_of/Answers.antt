use Rattle.std.proofs.Common.{subst}
use Rattle.std.specs.Option.{option_and_then}
use Rattle.nextest_places.specs.Path.{stands_at}
use Rattle.nextest_tree.specs.Node.{as_table}
use Rattle.nextest_tree.specs.View.{tree_view}
use Rattle.rinqebo_faults.specs.Tables.{IsStray}
use Rattle.rinqebo_checks.proofs.Reporting.{no_stray_below}
use Rattle.rinqebo_checks.proofs.value_faults.stray_of.Goals as goal

pub returns-in_ok-stray_at-in-Missing : goal.returns-in_ok-stray_at-in-Missing
returns-in_ok-stray_at-in-Missing c =
    let tree = tree_view c.args.tree.now in
    let path = c.args.fault.now.path.items in
    let stray = c.in_ok-stray_at-in-Missing.field-0 in
    rw c.in-Missing.is (subst
    (λ key. IsStray path (option_and_then as_table (stands_at path tree)) key stray)
    c.as_str.ensures.value (subst
    (λ p. IsStray p (option_and_then as_table (stands_at p tree)) c.as_str.result.now stray)
    c.deref.ensures.value c.in_ok-stray_at-in-Missing.ensures))

pub returns-in_default : goal.returns-in_default
returns-in_default c =
    no_stray_below (tree_view c.args.tree.now) c.args.fault.now.cause c.args.fault.now.path.items
    c.in_default.not-Missing
