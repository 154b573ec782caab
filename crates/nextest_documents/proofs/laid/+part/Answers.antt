use Rattle.std.proofs.Common.{rules, length, refl, ◌≡◌, List, [], ◌∷◌, Some, None, option_map, string_bytes, sym, ap, ◌∙◌, subst}
use Rattle.std.specs.BTreeMap.{is_at}
use Rattle.std.specs.Map.{lookup}
use Rattle.std.specs.Option.{option_copied_mut}
use Rattle.nextest_tree.specs.Node.{Node, table, Entries, get, put, IsSorted}
use Rattle.nextest_tree.specs.View.{tree_view, entries_view}
use Rattle.nextest_tree.specs.declared.tree.Tree.{the_lemmas}
use Rattle.nextest_tree.proofs.Trees.{members-insert_entry, members-lookup}
use Rattle.nextest_documents.specs.declared.laid.Displaced as the_own
use Rattle.nextest_documents.specs.Displaced.{added, within, displaced_by}
use Rattle.nextest_documents.specs.Merge.{over}
use Rattle.nextest_documents.specs.DisplacedView.{displaced_view, displaced_entries_view}
use Rattle.nextest_documents.proofs.Laying.{get-put_same}
use Rattle.nextest_documents.proofs.Members.{members-remove_entry, seen_table, next_of, under_is}
use Rattle.nextest_documents.proofs.Maps.{text_cmp, members-set_value}
use Rattle.nextest_documents.proofs.Sorted.{IsSortedThere, get_sorted}
use Rattle.nextest_documents.proofs.Parting.{HaveParted, joined, without, without_put, put_put, put_there, have_all_parted, none_displaced, parted_tables}
use Rattle.nextest_documents.proofs.laid.+part.Goals as goal

some_is : {A : Type 0} (x y : A) → Some x ≡ Some y → x ≡ y
some_is x y e = cc

some≢none : {A : Type 0} (x : A) → Some x ≡ None → ⊥
some≢none x e = cc

pub part-returns-in_ok-higher-in-Table : goal.part-returns-in_ok-higher-in-Table
part-returns-in_ok-higher-in-Table t c = λ above below sa sb is displaced.
    let laid : tree_view c.args.tree ≡ table (entries_view c.in-Table.members.entries) = search (rules, the_lemmas) in
    let under : displaced_view c.args.displaced
    ≡ within (displaced_entries_view c.in-Within.displaced.items) = search (rules, the_own.the_lemmas) in
    let higher = c.in_ok-higher-in-Table.higher in
    let lower = c.in_ok-higher-in-Table.lower in
    let all = parted_tables above below _ (entries_view higher.entries) (entries_view lower.entries) _ sa sb
    (sym laid ∙ is) (sym under ∙ displaced)
    c.in_ok-higher-in-Table.ensures in
    (seen_table higher ∙ all.0, seen_table lower ∙ all.1)

pub part_members-loop-key-preserved-in-Some-2 : goal.part_members-loop-key-preserved-in-Some-2
part_members-loop-key-preserved-in-Some-2 t c = λ above below sa sb is displaced.
    let l = c.loop-key in
    let k = c.deref.result.now in
    let keyed : k ≡ string_bytes c.in-Some.key = search rules in
    let next = next_of above below _ _ _ c.next.new.self.rest.items c.in-Some.key c.in-Some.displaced k sa sb
    c.in-Some.ensures.steps.0 keyed (l.invariant above below sa sb is displaced) in
    let taken : option_map tree_view c.in_ok-tree.field-0 ≡ Some next.higher =
    c.in_ok-tree.ensures.taken next.higher next.lower next.higher_sorted next.lower_sorted next.laid next.displaced in
    let tree : tree_view c.in-Some-2.tree ≡ next.higher =
    some_is _ _ (ap (option_map tree_view) (sym c.in-Some-2.is) ∙ taken) in
    let members = c.in_ok-tree.ensures.left next.higher next.lower next.higher_sorted next.lower_sorted
    next.laid next.displaced in
    let higher = ap entries_view c.in_ok-insert.ensures.entries
    ∙ members-insert_entry l.higher.entries c.in-Some.key c.in-Some-2.tree
    ∙ ap (λ n. put (string_bytes c.in-Some.key) n (entries_view l.higher.entries)) tree
    ∙ ap (λ j. put j next.higher (entries_view l.higher.entries)) (sym keyed) in
    let parted = next.parted in
    record {
      rest = parted.rest;
      splits = parted.splits ∙ ap (λ es. joined es parted.rest) (sym higher);
      laid = members ∙ parted.laid;
      displaced = parted.displaced;
    }

pub part_members-loop-key-preserved : goal.part_members-loop-key-preserved
part_members-loop-key-preserved t c = λ above below sa sb is displaced.
    let l = c.loop-key in
    let k = c.deref.result.now in
    let keyed : k ≡ string_bytes c.in-Some.key = search rules in
    let next = next_of above below _ _ _ c.next.new.self.rest.items c.in-Some.key c.in-Some.displaced k sa sb
    c.in-Some.ensures.steps.0 keyed (l.invariant above below sa sb is displaced) in
    let taken : option_map tree_view c.in_ok-tree.field-0 ≡ Some next.higher =
    c.in_ok-tree.ensures.taken next.higher next.lower next.higher_sorted next.lower_sorted next.laid next.displaced in
    let none : c.in_ok-tree.field-0 ≡ None = search rules in
    absurd (some≢none _ (sym taken ∙ ap (option_map tree_view) none))

no_items : {A : Type 0} (xs : List A) → length xs ≡ 0 → xs ≡ []
no_items [] h = refl
no_items (x ∷ xs) h = cc

pub part_members-returns : goal.part_members-returns
part_members-returns t c = λ above below sa sb is displaced.
    let l = c.loop-key in
    let none : l.key-iterator.rest.items ≡ [] = no_items _ (sym l.key-iterator.rest.ok.0 ∙ c.in-None.ensures.steps.0) in
    have_all_parted above below _ _
    (subst (λ ds. HaveParted above below (entries_view l.higher.entries) (entries_view l.members.entries)
    (displaced_entries_view ds)) none (l.invariant above below sa sb is displaced))

pub take_member-returns-in-Added-clause-taken : goal.take_member-returns-in-Added-clause-taken
take_member-returns-in-Added-clause-taken t c = λ above below sa sb is displaced.
    let k = c.args.key.now in
    let es = c.args.members.now.entries in
    let nothing : displaced_view c.args.displaced ≡ added = search (rules, the_own.the_lemmas) in
    let none : get k below ≡ None = none_displaced above (get k below) (sym nothing ∙ displaced) in
    let put_there : entries_view es ≡ put k above below = rw none at is in
    ap (option_map tree_view) c.remove.ensures.value ∙ members-lookup k es ∙ ap (get k) put_there
    ∙ get-put_same k above below

pub take_member-returns-in-Added-clause-left : goal.take_member-returns-in-Added-clause-left
take_member-returns-in-Added-clause-left t c = λ above below sa sb is displaced.
    let k = c.args.key.now in
    let es = c.args.members.now.entries in
    let nothing : displaced_view c.args.displaced ≡ added = search (rules, the_own.the_lemmas) in
    let none : get k below ≡ None = none_displaced above (get k below) (sym nothing ∙ displaced) in
    let put_there : entries_view es ≡ put k above below = rw none at is in
    ap entries_view c.remove.ensures.entries ∙ members-remove_entry k es ∙ ap (without k) put_there
    ∙ without_put k above below none

pub take_member-returns-in_ok-above-in-Some : goal.take_member-returns-in_ok-above-in-Some
take_member-returns-in_ok-above-in-Some t c =
    let k = c.args.key.now in
    let es = c.args.members.now.entries in
    let found = c.in-Some.found.now in
    let at : lookup (is_at (text_cmp k)) es ≡ Some found = sym c.in-Some.ensures.value in
    let new = c.in_ok-above-in-Some.below in
    let set = ap entries_view (c.get_mut.follows.holds new).0
    ∙ members-set_value k es new found c.in-Some.ensures.ordered at in
    let parts = λ (above lower : Node) (below : Entries) (sa : IsSorted above) (sl : IsSorted lower)
    (is : entries_view es ≡ put k (over above lower) below)
    (under : displaced_view c.args.displaced ≡ displaced_by above lower).
    c.in_ok-above-in-Some.ensures above lower sa sl
    (ap tree_view c.replace.ensures.value
    ∙ some_is _ _ (ap (option_map tree_view) (sym at) ∙ members-lookup k es ∙ ap (get k) is
    ∙ get-put_same k (over above lower) below))
    under in
    record {
      taken = λ above below sa sb is displaced.
          let u = under_is above (get k below) c.args.displaced c.in_default.not-Added displaced in
          ap (λ n. Some n)
          (parts above u.0 below sa (subst IsSortedThere u.1 (get_sorted k below sb)) (rw u.1 at is) u.2).0;
      left = λ above below sa sb is displaced.
          let u = under_is above (get k below) c.args.displaced c.in_default.not-Added displaced in
          let there : entries_view es ≡ put k (over above u.0) below = rw u.1 at is in
          let lower = parts above u.0 below sa (subst IsSortedThere u.1 (get_sorted k below sb)) there u.2 in
          set ∙ ap (λ n. put k n (entries_view es)) lower.1 ∙ ap (put k u.0) there
          ∙ put_put k u.0 (over above u.0) below ∙ put_there k u.0 below sb u.1;
    }

pub take_member-returns-in-None : goal.take_member-returns-in-None
take_member-returns-in-None t c =
    let k = c.args.key.now in
    let es = c.args.members.now.entries in
    let none : get k (entries_view es) ≡ None =
    sym (members-lookup k es)
    ∙ ap (option_map tree_view) (sym c.get_mut.ensures.value ∙ ap option_copied_mut c.in-None.is) in
    let never = λ (n : Node) (below : Entries) (is : entries_view es ≡ put k n below).
    some≢none n (sym (get-put_same k n below) ∙ ap (get k) (sym is) ∙ none) in
    record {
      taken = λ above below sa sb is displaced. absurd (never _ below is);
      left = λ above below sa sb is displaced. absurd (never _ below is);
    }
