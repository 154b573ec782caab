use Rattle.std.proofs.Common.{◌∙◌, ap, inl, inr, sym}
use Rattle.rinqebo_faults.specs.Checks.{scope_of}
use Rattle.rinqebo_checks.proofs.search.Search.check_findings.Goals as goal

pub returns-clause-findings : goal.returns-clause-findings
returns-clause-findings c =
    inl (
      inr (inr (ap scope_of (sym c.kind.ensures) ∙ c.rests_on_unread.ensures c.if-not-rests_on_unread.false)),
      c.new.ensures.items,
    )
