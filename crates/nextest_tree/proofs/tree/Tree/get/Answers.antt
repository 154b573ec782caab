use Rattle.std.proofs.Common.{◌≡◌, rules, sym, ap, ◌∙◌}
use Rattle.nextest_tree.specs.Node.{table, member_of}
use Rattle.nextest_tree.specs.View.{tree_view, entries_view}
use Rattle.nextest_tree.specs.declared.tree.Tree.{the_lemmas}
use Rattle.nextest_tree.proofs.Trees.{table_get}
use Rattle.nextest_tree.proofs.tree.Tree.get.Goals as goal

pub returns-in-Table : goal.returns-in-Table
returns-in-Table c =
    let seen : tree_view c.args.self.now ≡ table (entries_view c.in-Table.members.entries) =
    search (rules, the_lemmas) in
    table_get c.get.result c.args.key.now c.in-Table.members.entries c.get.ensures.value
    ∙ sym (ap (member_of c.args.key.now) seen)
