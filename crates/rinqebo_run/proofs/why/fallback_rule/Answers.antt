use Rattle.std.proofs.Common.{◌∙◌}
use Rattle.rinqebo_rules.proofs.ReportedOf.{reported_by_kind}
use Rattle.rinqebo_run.proofs.FirstOrigins.{first_of_profile}
use Rattle.rinqebo_run.proofs.why.fallback_rule.Goals as goal

pub returns-clause-value : goal.returns-clause-value
returns-clause-value c =
    c.in_ok-reported_if_set.ensures.told ∙ reported_by_kind c.args.setting c.fallback.result _ c.fallback.ensures

pub returns-clause-origins : goal.returns-clause-origins
returns-clause-origins c =
    first_of_profile _ _ _ _ c.in_ok-origins.origins.items _
    (rw (c.deref.ensures.value, c.of-key.ensures.table, c.of-key.ensures.key) at c.in_ok-origins.ensures)
    c.first_and_others-origin.ensures
