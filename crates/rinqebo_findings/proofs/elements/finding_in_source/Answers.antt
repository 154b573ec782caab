use Rattle.std.proofs.Common.{None, subst}
use Rattle.std.specs.Option.{option_and_then}
use Rattle.nextest_tree.specs.Node.{as_table}
use Rattle.rinqebo_faults.specs.Tables.{IsStray}
use Rattle.rinqebo_findings.specs.Subjects.{IsLackFinding}
use Rattle.rinqebo_findings.specs.Written.{value_at}
use Rattle.rinqebo_findings.proofs.Values.{no_stray_for, other_here}
use Rattle.rinqebo_findings.proofs.elements.finding_in_source.Goals as goal

pub returns-in_ok-missing_in_source-in-Missing : goal.returns-in_ok-missing_in_source-in-Missing
returns-in_ok-missing_in_source-in-Missing c =
    let source = c.args.refused.now.source in
    let own = c.args.source in
    let table = c.args.path.now in
    let is = c.in_ok-missing_in_source-in-Missing.ensures in
    rw c.in-Missing.is (
      is.0,
      subst
          (λ key. IsStray table (option_and_then as_table (value_at own.layers.now own.position table)) key is.0)
          c.as_str.ensures.value is.1,
      subst
          (λ key. IsLackFinding source.layers.now source.position key table is.0
          c.in_ok-missing_in_source-in-Missing.field-0)
          c.as_str.ensures.value is.2,
    )

pub returns-in_ok-element_finding-in_default : goal.returns-in_ok-element_finding-in_default
returns-in_ok-element_finding-in_default c =
    let source = c.args.refused.now.source in
    let own = c.args.source in (
      None,
      no_stray_for own.layers.now own.position c.args.cause.now c.args.path.now c.in_default.not-Missing,
      other_here source.layers.now source.position c.args.cause.now c.args.path.now None
          c.in_ok-element_finding-in_default.field-0 c.in_default.not-Missing c.in_ok-element_finding-in_default.ensures,
    )
