use Rattle.nextest_explain.proofs.engines.Grammar.{spells_what_is_read}
use Rattle.nextest_explain.proofs.engines.parse.law_grammar.Goals as goal

pub returns : goal.returns
returns c = spells_what_is_read c.args.text.now
