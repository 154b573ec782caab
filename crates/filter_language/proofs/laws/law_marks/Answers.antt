use Rattle.std.proofs.Common.{◌∙◌}
use Rattle.filter_language.specs.Values.{answer}
use Rattle.filter_language.proofs.Evaluations.{spelled_value, value_is}
use Rattle.filter_language.proofs.laws.law_marks.Goals as goal

pub returns : goal.returns
returns g c = λ s marks f spells below. spelled_value (answer g.E.Matchers.accepts s) marks f spells below
    ∙ value_is g.E.Matchers.accepts s f
