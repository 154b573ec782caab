use Rattle.std.proofs.Common.{rules, refl, option_map, ◌≡◌, [], ◌∷◌, ◌++◌, Some, None, string_bytes, sym, ap, ◌∙◌, subst, append_assoc}
use Rattle.std.specs.List.Sorted.{IsStrictlySortedBy}
use Rattle.std.specs.Map.{keys_of, lookup}
use Rattle.std.specs.String.{string_cmp}
use Rattle.std.specs.BTreeMap.{is_at}
use Rattle.std.specs.Option.{option_copied_mut, option_map_or}
use Rattle.nextest_tree.specs.Node.{get, put}
use Rattle.nextest_tree.specs.View.{tree_view, entries_view}
use Rattle.nextest_documents.specs.Displaced.{added, displaced_by}
use Rattle.nextest_documents.specs.DisplacedView.{displaced_view, displaced_entries_view}
use Rattle.nextest_documents.specs.declared.laid.Displaced.{Added, the_lemmas}
use Rattle.nextest_documents.specs.Merge.{over}
use Rattle.nextest_tree.proofs.Trees.{members-lookup}
use Rattle.nextest_documents.proofs.Maps.{Entry, text_cmp}
use Rattle.nextest_documents.proofs.Members.{displaced_last}
use Rattle.nextest_documents.proofs.Steps.{put_found, put_new, laid, laid_last}
use Rattle.nextest_documents.proofs.laid.+lay_upon.Goals as goal

pub unite-loop-key-preserved : goal.unite-loop-key-preserved
unite-loop-key-preserved t c =
    let l = c.loop-key in
    let now = entries_view l.lower.entries in
    let below = entries_view c.args.lower.entries in
    let done = l.invariant.0 in
    let e : Entry = (c.in-Some.key, c.in-Some.tree) in
    let left = c.next.new.self in
    let all : c.args.higher.entries ≡ done ++ e ∷ left =
    l.invariant.1 ∙ ap (λ es. done ++ es) c.in-Some.ensures.steps in
    let sorted = subst (λ es. IsStrictlySortedBy string_cmp (keys_of es)) all
    c.into_iter-key-iterator.ensures.into_iter_gives.5 in
    let k = string_bytes e.0 in
    let named : c.deref.result.now ≡ k = search rules in
    let laid_there : entries_view c.lay_member.new.members.entries ≡ put k (laid e.1 (get k now)) now =
    rw (← named) c.in_ok-displaced.ensures.members in
    let under : displaced_view c.in_ok-displaced.displaced
    ≡ option_map_or (λ n. displaced_by (tree_view e.1) n) (get k now) added =
    rw (← named) c.in_ok-displaced.ensures.displaced in (
      done ++ e ∷ [],
      all ∙ sym (append_assoc done (e ∷ []) left),
      laid_there ∙ laid_last done e left below now sorted l.invariant.2,
      ap displaced_entries_view c.in_ok-push.ensures.items
          ∙ displaced_last done e left below now l.all_displaced.items c.in_ok-displaced.displaced sorted
          l.invariant.2 l.invariant.3 under,
    )

pub lay_member-returns-in_ok-laid-in-Some-clause-members : goal.lay_member-returns-in_ok-laid-in-Some-clause-members
lay_member-returns-in_ok-laid-in-Some-clause-members t c =
    let k = c.args.key.now in
    let es = c.args.members.now.entries in
    let found = c.in-Some.found.now in
    let new = c.in_ok-laid-in-Some.laid.tree in
    let at : lookup (is_at (text_cmp k)) es ≡ Some found = sym c.in-Some.ensures.value in
    ap entries_view (c.get_mut.follows.holds new).0
    ∙ put_found k c.args.above found new es c.in-Some.ensures.ordered at
    (c.in_ok-laid-in-Some.ensures.tree ∙ ap (λ d. over (tree_view c.args.above) (tree_view d)) c.replace.ensures.value)

pub lay_member-returns-in_ok-laid-in-Some-clause-displaced : goal.lay_member-returns-in_ok-laid-in-Some-clause-displaced
lay_member-returns-in_ok-laid-in-Some-clause-displaced t c =
    let k = c.args.key.now in
    let es = c.args.members.now.entries in
    let there : get k (entries_view es) ≡ Some (tree_view c.in-Some.found.now) =
    sym (members-lookup k es) ∙ ap (option_map tree_view) (sym c.in-Some.ensures.value) in
    c.in_ok-laid-in-Some.ensures.displaced
    ∙ ap (λ d. displaced_by (tree_view c.args.above) (tree_view d)) c.replace.ensures.value
    ∙ ap (λ o. option_map_or (λ n. displaced_by (tree_view c.args.above) n) o added) (sym there)

pub lay_member-returns-in_ok-insert-in-None-clause-members : goal.lay_member-returns-in_ok-insert-in-None-clause-members
lay_member-returns-in_ok-insert-in-None-clause-members t c =
    let k = c.args.key.now in
    let es = c.args.members.now.entries in
    let at : lookup (is_at (text_cmp k)) es ≡ None =
    sym c.get_mut.ensures.value ∙ ap option_copied_mut c.in-None.is in
    let named : string_bytes c.in_ok-from_str-in-None.field-0 ≡ k = search rules in
    let entries = rw c.get_mut.follows.holds-at-none at c.in_ok-insert-in-None.ensures.entries in
    ap entries_view entries ∙ put_new c.in_ok-from_str-in-None.field-0 k c.args.above c.args.above es at named refl

pub lay_member-returns-in_ok-insert-in-None-clause-displaced :
    goal.lay_member-returns-in_ok-insert-in-None-clause-displaced
lay_member-returns-in_ok-insert-in-None-clause-displaced t c =
    let k = c.args.key.now in
    let es = c.args.members.now.entries in
    let none : get k (entries_view es) ≡ None =
    sym (members-lookup k es)
    ∙ ap (option_map tree_view) (sym c.get_mut.ensures.value ∙ ap option_copied_mut c.in-None.is) in
    let nothing : displaced_view Added ≡ added = search (rules, the_lemmas) in
    nothing ∙ ap (λ o. option_map_or (λ n. displaced_by (tree_view c.args.above) n) o added) (sym none)
