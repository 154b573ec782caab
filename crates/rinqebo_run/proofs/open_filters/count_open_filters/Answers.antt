use Rattle.std.proofs.Common.{◌∙◌, ap}
use Rattle.std.specs.List.{count_by}
use Rattle.rinqebo_run.proofs.OpenFilters.{counted}
use Rattle.rinqebo_run.specs.OpenFilters.{is_left_open}
use Rattle.rinqebo_run.proofs.open_filters.count_open_filters.Goals as goal

pub returns : goal.returns
returns c =
    let packages = c.args.session.now.engines.filters.packages in
    c.count_open.ensures ∙ ap (count_by (λ filter. is_left_open packages filter.now)) c.deref.ensures.value
    ∙ counted packages c.args.config.now c.in_ok-filters.filters.items c.in_ok-filters.ensures
