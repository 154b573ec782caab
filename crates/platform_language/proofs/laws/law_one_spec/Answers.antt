use Rattle.platform_language.proofs.Specs.{one_spec}
use Rattle.platform_language.proofs.laws.law_one_spec.Goals as goal

pub returns : goal.returns
returns c = one_spec c.args.text.now c.utf8.text
