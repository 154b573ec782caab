use Rattle.rinqebo_run.proofs.FirstOrigins.{first_of_profile}
use Rattle.rinqebo_run.proofs.why_runs.runs_fallback.Goals as goal

pub returns-clause-origins : goal.returns-clause-origins
returns-clause-origins c =
    first_of_profile _ _ _ _ c.in_ok-origins.origins.items _
    (rw (c.deref.ensures.value, c.default_filter_key.ensures.table, c.default_filter_key.ensures.key) at c.in_ok-origins.ensures)
    c.first_and_others-origin.ensures
