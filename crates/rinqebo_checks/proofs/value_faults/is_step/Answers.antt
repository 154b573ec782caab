use Rattle.std.proofs.Common.{◌∙◌, ap, sym}
use Rattle.nextest_places.specs.Spans.Paths.{path_step}
use Rattle.rinqebo_checks.proofs.value_faults.is_step.Goals as goal

pub returns-in-Key : goal.returns-in-Key
returns-in-Key c = λ same. ap path_step c.in-Key.is ∙ sym (c.is_named.ensures same)

pub returns-in-Position : goal.returns-in-Position
returns-in-Position c = λ same. ap path_step c.in-Position.is ∙ sym (c.is_numbered.ensures same)
