use Rattle.platform_language.proofs.Specs.{read_is_spec, spec_is_read}
use Rattle.platform_language.proofs.laws.law_grammar.Goals as goal

pub returns : goal.returns
returns c = λ s. (read_is_spec c.args.text.now s c.utf8.text, spec_is_read c.args.text.now s c.utf8.text)
