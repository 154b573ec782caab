use Rattle.filter_language.proofs.Writings.{filter_is_read, read_is_filter}
use Rattle.filter_language.proofs.laws.law_texts.Goals as goal

pub returns : goal.returns
returns g c = λ compiler knows_packages kind text marks.
    (read_is_filter compiler knows_packages kind text marks, filter_is_read compiler knows_packages kind text marks)
