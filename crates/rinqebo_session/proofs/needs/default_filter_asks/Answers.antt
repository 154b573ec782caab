use Rattle.std.proofs.Common.{◌∙◌, ap}
use Rattle.rinqebo_session.specs.Needs.{filter_asks}
use Rattle.rinqebo_session.proofs.needs.default_filter_asks.Goals as goal

pub returns : goal.returns
returns c = c.filter_asks.ensures ∙ ap (λ choice. filter_asks c.args.field choice.filter) c.default_filter.ensures
