use Rattle.std.proofs.Common.{◌≡◌, ◌∙◌, ap, arith, subst, sym}
use Rattle.nextest_tree.specs.Node.{table, no_entries}
use Rattle.nextest_tree.specs.View.{tree_view, entries_view}
use Rattle.nextest_tree.specs.declared.tree.Tree.{Table}
use Rattle.nextest_documents.proofs.Members.{seen_table}
use Rattle.nextest_places.specs.Search.{IsLongest}
use Rattle.nextest_places.proofs.Wholes.{longest_of_none}
use Rattle.nextest_places.proofs.fronts.longest_document.Goals as goal

pub returns : goal.returns
returns c =
    let empty : tree_view (Table c.new.result) ≡ table no_entries =
    seen_table c.new.result ∙ ap (λ es. table (entries_view es)) c.new.ensures.empty in
    subst (IsLongest c.args.fronts.now 0) (sym empty)
    (longest_of_none c.args.fronts.now (λ n more less. c.down.invariant n (omega (arith, more)) less))
