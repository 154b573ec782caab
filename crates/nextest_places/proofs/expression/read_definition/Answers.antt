use Rattle.std.proofs.Common.{rules}
use Rattle.nextest_places.specs.Expressions.{key_of}
use Rattle.nextest_places.proofs.expression.read_definition.Goals as goal

pub returns-else-first-ne93 : goal.returns-else-first-ne93
unfolding key_of
returns-else-first-ne93 c = search rules

pub returns-in_ok-key-2 : goal.returns-in_ok-key-2
unfolding key_of
returns-in_ok-key-2 c = search rules

pub returns-in_ok-rest : goal.returns-in_ok-rest
unfolding key_of
returns-in_ok-rest c = search rules
