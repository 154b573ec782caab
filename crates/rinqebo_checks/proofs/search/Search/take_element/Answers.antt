use Rattle.std.proofs.Common.{inl, inr, subst}
use Rattle.rinqebo_faults.specs.Edits.{edits_view}
use Rattle.rinqebo_faults.specs.declared.edits.Edits.{Edits}
use Rattle.rinqebo_checks.specs.Rounds.{ReportUnless}
use Rattle.rinqebo_checks.proofs.search.Search.take_element.Goals as goal

pub returns-in-Some-clause-findings : goal.returns-in-Some-clause-findings
returns-in-Some-clause-findings c = inl (inr (inl c.requires.of_values), c.new.ensures.items)

pub returns-in_ok-take_last-in-None-clause-findings : goal.returns-in_ok-take_last-in-None-clause-findings
returns-in_ok-take_last-in-None-clause-findings c =
    subst
    (λ (edits : Edits). ReportUnless c.args.session.now.layers.items (edits_view edits).left_out
    c.args.error.now c.in_ok-take_last-in-None.field-0.findings.items)
    (c.in_ok-goes_on.ensures.none c.in-None.is) c.in_ok-take_last-in-None.ensures
