use Rattle.filter_language.proofs.Packages.{package_parts}
use Rattle.filter_language.proofs.evaluation.around_package.Goals as goal

pub returns : goal.returns
returns c = package_parts _ _ c.split_once.ensures.cases
