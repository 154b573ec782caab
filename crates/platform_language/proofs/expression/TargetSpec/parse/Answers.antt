use Rattle.platform_language.proofs.Spans.{answers_lie}
use Rattle.platform_language.proofs.Specs.{answers_spec, answers_none}
use Rattle.platform_language.proofs.expression.TargetSpec.parse.Goals as goal

pub returns-clause-writes : goal.returns-clause-writes
returns-clause-writes c = answers_spec c.args.text.now c.read_text.result c.utf8.text c.read_text.ensures.ok

pub returns-clause-none : goal.returns-clause-none
returns-clause-none c = answers_none c.args.text.now c.read_text.result c.utf8.text c.read_text.ensures.err

pub returns-clause-inside : goal.returns-clause-inside
returns-clause-inside c = answers_lie c.args.text.now c.read_text.result c.utf8.text c.read_text.ensures.err
