use Rattle.std.proofs.Common.{◌∙◌, subst, sym}
use Rattle.rinqebo_findings.specs.Subjects.{IsRangeFinding}
use Rattle.rinqebo_findings.proofs.elements.range_finding.Goals as goal

pub returns-then-has_table : goal.returns-then-has_table
returns-then-has_table c =
    let source = c.args.refused.now.source in
    subst (λ b. IsRangeFinding b source.layers.now source.position c.args.path.now c.in_ok-delays_finding.field-0)
    (sym c.if-has_table.true ∙ c.has_table.ensures) c.in_ok-delays_finding.ensures

pub returns : goal.returns
returns c =
    let source = c.args.refused.now.source in
    subst (λ b. IsRangeFinding b source.layers.now source.position c.args.path.now c.in_ok-value_finding.field-0)
    (sym c.if-has_table.false ∙ c.has_table.ensures) c.in_ok-value_finding.ensures
