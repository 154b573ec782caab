use Rattle.std.proofs.Common.{ap}
use Rattle.rinqebo_objects.proofs.run.filter_text.Goals as goal

pub returns : goal.returns
returns g c = ap (λ choice. choice.text) c.default_filter.ensures
