use Rattle.std.proofs.Common.{◌∙◌, subst}
use Rattle.std.proofs.lemmas.Result.{IfOk-weaker}
use Rattle.rinqebo_run.proofs.Reasons.{reported_here}
use Rattle.rinqebo_run.proofs.why.reported_rules.Goals as goal
use Rattle.rinqebo_results.specs.Reasons.{AreRulesReportedHere, AreReportedWith}

pub returns-clause-told : goal.returns-clause-told
returns-clause-told c = λ asking written same.
    let layers = c.args.layers.now in
    let rules = c.args.rules.now in
    IfOk-weaker c.rules_with_verdicts.result (λ told. AreReportedWith layers rules c.deref.result.now told.items)
    (λ told. AreRulesReportedHere layers asking written told.items)
    (λ told all. reported_here layers asking written rules told.items same
    (subst (λ verdicts. AreReportedWith layers rules verdicts told.items)
    (c.deref.ensures.value ∙ c.in_ok-verdicts.ensures) all))
    c.rules_with_verdicts.ensures.told
