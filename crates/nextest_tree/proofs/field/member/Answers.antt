use Rattle.nextest_tree.proofs.Trees.{table_get}
use Rattle.nextest_tree.proofs.field.member.Goals as goal

pub returns : goal.returns
returns c = table_get c.get.result c.args.key.now c.args.members.now.entries c.get.ensures.value
