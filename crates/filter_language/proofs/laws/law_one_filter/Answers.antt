use Rattle.filter_language.proofs.Writings.{one_filter, one_formula}
use Rattle.filter_language.proofs.laws.law_one_filter.Goals as goal

pub returns-clause-marks : goal.returns-clause-marks
returns-clause-marks g c = λ compiler text marks more. one_filter compiler marks more text

pub returns-clause-filter : goal.returns-clause-filter
returns-clause-filter g c = one_formula
