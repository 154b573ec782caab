use Rattle.filter_language.proofs.Readings.{spelled_is_read, read_is_spelled}
use Rattle.filter_language.proofs.laws.law_grammar.Goals as goal

pub returns : goal.returns
returns g c = λ marks f. (read_is_spelled marks f, λ is. spelled_is_read marks f is.0 is.1)
