use Rattle.std.proofs.Common.{◌≡◌, [], ◌∷◌, ◌++◌, length, String, Global, refl, sym, ap, ◌∙◌, subst, append_assoc, map, List}
use Rattle.std.proofs.lemmas.List.{append-nil, map-append}
use Rattle.std.specs.List.Sorted.{IsStrictlySortedBy}
use Rattle.std.specs.Map.{keys_of}
use Rattle.std.specs.String.{string_cmp}
use Rattle.toml.specs.View.{view}
use Rattle.toml.specs.declared.value.Value.{Value}
use Rattle.nextest_tree.proofs.Values.{one_more, from_items-view}
use Rattle.nextest_tree.proofs.Built.{ValuesAreSorted, insert_sorted, table_sorted, push_sorted}
use Rattle.nextest_tree.specs.Node.{Node, Entries, NodesAreSorted}
use Rattle.nextest_tree.specs.Value.{from_data}
use Rattle.nextest_tree.specs.declared.tree.Tree.{Tree}
use Rattle.nextest_tree.specs.View.{tree_view, entries_view, nodes_of}
use Rattle.nextest_tree.proofs.taken.+take_tree.Goals as goal

pub take_items-loop-item-preserved : goal.take_items-loop-item-preserved
take_items-loop-item-preserved t c =
    let l = c.loop-item in
    let gives : Value → Node = λ v. from_data (view v) in
    let left = c.next.new.self.rest.items in
    let new = c.in_ok-take_tree.field-0 in
    let before = map tree_view l.trees.items in
    let P : List Tree → Type 0 = λ ts. NodesAreSorted (nodes_of (map tree_view ts)) in
    let is = rw c.in-Some.ensures.steps.0 at l.invariant.0 in (
      ap (λ ts. map tree_view ts ++ map gives left) c.in_ok-push.ensures.items
          ∙ ap (λ ns. ns ++ map gives left) (map-append tree_view l.trees.items (new ∷ []))
          ∙ append_assoc before (tree_view new ∷ []) (map gives left)
          ∙ ap (λ n. before ++ n ∷ map gives left) c.in_ok-take_tree.ensures.is
          ∙ is,
      subst P (sym c.in_ok-push.ensures.items)
          (push_sorted l.trees.items new l.invariant.1 c.in_ok-take_tree.ensures.sorted),
    )

pub take_members-loop-key-preserved : goal.take_members-loop-key-preserved
take_members-loop-key-preserved t c =
    let l = c.loop-key in
    let done = l.invariant.0.0 in
    let e : String Global × Value = (c.in-Some.key, c.in-Some.member) in
    let left = c.next.new.self in
    let all : c.args.members.entries ≡ done ++ e ∷ left =
    l.invariant.0.1 ∙ ap (λ es. done ++ es) c.in-Some.ensures.steps in
    let sorted = subst (λ es. IsStrictlySortedBy string_cmp (keys_of es)) all
    c.into_iter-key-iterator.ensures.into_iter_gives.5 in
    let P : Entries → Type 0 = ValuesAreSorted in (
      (
        done ++ e ∷ [],
        all ∙ sym (append_assoc done (e ∷ []) left),
        ap entries_view c.in_ok-insert.ensures.entries
            ∙ one_more done e left l.trees.entries e.0 c.in_ok-take_tree.field-0 sorted
            l.invariant.0.2 refl c.in_ok-take_tree.ensures.is,
      ),
      subst P (sym (ap entries_view c.in_ok-insert.ensures.entries))
          (insert_sorted l.trees.entries e.0 c.in_ok-take_tree.field-0
          c.in_ok-take_tree.ensures.sorted l.invariant.1),
    )

pub take_members-returns-clause-sorted : goal.take_members-returns-clause-sorted
take_members-returns-clause-sorted t c =
    let l = c.loop-key in
    let done = l.invariant.0.0 in
    let all : c.args.members.entries ≡ done =
    l.invariant.0.1 ∙ ap (λ es. done ++ es) c.in-None.ensures.steps.0 ∙ append-nil done in
    let sorted = subst (λ es. IsStrictlySortedBy string_cmp (keys_of es)) all
    c.into_iter-key-iterator.ensures.into_iter_gives.5 in
    table_sorted done _ sorted l.invariant.0.2 l.invariant.1

no_items : {A : Type 0} (xs : List A) → length xs ≡ 0 → xs ≡ []
no_items [] h = refl
no_items (x ∷ xs) h = cc

pub take_items-returns-clause-is : goal.take_items-returns-clause-is
take_items-returns-clause-is t c =
    let l = c.loop-item in
    let none : l.item-iterator.rest.items ≡ [] = no_items _ (sym l.item-iterator.rest.ok.0 ∙ c.in-None.ensures.steps.0) in
    let is = rw none at l.invariant.0 in
    ap nodes_of (sym (append-nil (map tree_view l.trees.items)) ∙ is) ∙ sym (from_items-view c.args.items.items)
