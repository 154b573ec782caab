use Rattle.std.proofs.Common.{◌≡◌, [], ◌∷◌, ◌++◌, String, Global, sym, ap, ◌∙◌, subst, append_assoc, take, arith, map, List}
use Rattle.std.proofs.lemmas.Grind.{common_steps}
use Rattle.std.proofs.lemmas.List.{append-nil}
use Rattle.std.specs.List.Sorted.{IsStrictlySortedBy}
use Rattle.std.specs.Map.{keys_of}
use Rattle.std.specs.String.{string_cmp}
use Rattle.toml.specs.declared.value.Value.{Value}
use Rattle.nextest_tree.proofs.Values.{one_more, from_items-view}
use Rattle.nextest_tree.proofs.Built.{ValuesAreSorted, insert_sorted, table_sorted, push_sorted}
use Rattle.nextest_tree.specs.Node.{Entries, NodesAreSorted}
use Rattle.nextest_tree.specs.declared.tree.Tree.{Tree}
use Rattle.nextest_tree.specs.View.{tree_view, entries_view, nodes_of}
use Rattle.nextest_tree.proofs.value.+tree_from_value.Goals as goal

pub table_of-loop-key-preserved : goal.table_of-loop-key-preserved
table_of-loop-key-preserved t c =
    let l = c.loop-key in
    let done = l.invariant.0.0 in
    let e : String Global × Value = (c.in-Some.key.now, c.in-Some.member.now) in
    let left = c.next.new.self in
    let all : c.args.members.now.entries ≡ done ++ e ∷ left =
    l.invariant.0.1 ∙ ap (λ es. done ++ es) c.in-Some.ensures.steps in
    let sorted = subst (λ es. IsStrictlySortedBy string_cmp (keys_of es)) all c.iter-key-items.ensures.ordered in
    let P : Entries → Type 0 = ValuesAreSorted in (
      (
        done ++ e ∷ [],
        all ∙ sym (append_assoc done (e ∷ []) left),
        ap entries_view c.in_ok-insert.ensures.entries
            ∙ one_more done e left l.trees.entries c.in_ok-name.name c.in_ok-tree_from_value.field-0 sorted
            l.invariant.0.2 c.in_ok-name.ensures.cases c.in_ok-tree_from_value.ensures.is,
      ),
      subst P (sym (ap entries_view c.in_ok-insert.ensures.entries))
          (insert_sorted l.trees.entries c.in_ok-name.name c.in_ok-tree_from_value.field-0
          c.in_ok-tree_from_value.ensures.sorted l.invariant.1),
    )

pub trees_of-returns-clause-is : goal.trees_of-returns-clause-is
trees_of-returns-clause-is t c =
    let e : take c.loop-item.item-index c.deref-item-items.result.now ≡ c.args.items.now.items =
    grind (arith, common_steps) in
    ap nodes_of c.loop-item.invariant.0 ∙ rw (e, from_items-view)

pub table_of-returns-clause-sorted : goal.table_of-returns-clause-sorted
table_of-returns-clause-sorted t c =
    let l = c.loop-key in
    let done = l.invariant.0.0 in
    let all : c.args.members.now.entries ≡ done =
    l.invariant.0.1 ∙ ap (λ es. done ++ es) c.in-None.ensures.steps.0 ∙ append-nil done in
    let sorted = subst (λ es. IsStrictlySortedBy string_cmp (keys_of es)) all c.iter-key-items.ensures.ordered in
    table_sorted done _ sorted l.invariant.0.2 l.invariant.1

pub trees_of-loop-item-preserved : goal.trees_of-loop-item-preserved
trees_of-loop-item-preserved t c =
    let l = c.loop-item in
    let P : List Tree → Type 0 = λ ts. NodesAreSorted (nodes_of (map tree_view ts)) in (
      grind (arith, common_steps, l.invariant.0),
      subst P (sym c.in_ok-push.ensures.items)
          (push_sorted l.trees.items c.in_ok-tree_from_value.field-0 l.invariant.1
          c.in_ok-tree_from_value.ensures.sorted),
    )
