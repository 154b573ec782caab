use Rattle.std.proofs.Common.{◌≡◌, ◌<◌, ◌∙◌, None, length, drop, rules, arith, sym}
use Rattle.std.proofs.lemmas.List.{length-drop}
use Rattle.nextest_tree.specs.Node.{as_table}
use Rattle.nextest_tree.specs.View.{tree_view}
use Rattle.nextest_documents.proofs.Ways.{blocked_off}
use Rattle.nextest_documents.proofs.along.way_in.Goals as goal

pub returns-then-is_none : goal.returns-then-is_none
returns-then-is_none c =
    let keys = drop c.loop-key.key-index c.args.path.now in
    let none : c.as_table.result ≡ None = search rules in
    let leaf : as_table (tree_view c.loop-key.node.now) ≡ None =
    sym c.as_table.ensures ∙ rw none in
    let some : 0 < length keys = simp length-drop (omega arith) in
    blocked_off keys (tree_view c.loop-key.node.now) leaf some ∙ c.loop-key.invariant
