use Rattle.std.proofs.Common.{◌≡◌, [], ◌∷◌, ◌++◌, String, Global, string_bytes, sym, ap, subst, ◌∙◌, append_assoc}
use Rattle.std.specs.List.Sorted.{IsStrictlySortedBy}
use Rattle.std.specs.Map.{keys_of}
use Rattle.std.specs.String.{string_cmp}
use Rattle.nextest_tree.specs.Reads.{walk_view, IsMap}
use Rattle.nextest_tree.specs.ReadSteps.{reading_entries}
use Rattle.nextest_tree.specs.View.{tree_view, entries_view}
use Rattle.nextest_tree.specs.declared.tree.Tree.{Tree}
use Rattle.nextest_tree.proofs.Reading.{entries_step}
use Rattle.nextest_tree.proofs.Maps.{map_more}
use Rattle.nextest_tree.proofs.map.read_entries.Goals as goal

pub loop-key-preserved-in-Ok : goal.loop-key-preserved-in-Ok
loop-key-preserved-in-Ok g c =
    let l = c.loop-key in
    let done = l.invariant.0.0 in
    let e : String Global × Tree = (c.in-Some.key.now, c.in-Some.tree.now) in
    let next = c.next.new.self in
    let all : c.args.members.now.entries ≡ done ++ e ∷ next =
    l.invariant.0.1 ∙ ap (λ es. done ++ es) c.in-Some.ensures.steps in
    let sorted = subst (λ es. IsStrictlySortedBy string_cmp (keys_of es)) all c.iter-key-items.ensures.ordered in
    let more = map_more g.K.Ord.cmp g.K.Name.text g.T.Element.is_value g.met.K.Name.ordered done e next
    l.values.entries c.in_ok-name.name c.in_ok-name.value sorted l.invariant.0.2
    (c.in_ok-name.ensures.name ∙ c.as_str.ensures.value) c.in_ok-name.ensures.value in
    let step = entries_step g.K.Name.test g.T.Element.schema (string_bytes e.0) c.as_str.result.now
    (tree_view e.1) (entries_view next) (walk_view l.walk) (walk_view c.read_entry.new.walk)
    c.as_str.ensures.value c.in_ok-name.ensures.reads in (
      (
        done ++ e ∷ [],
        all ∙ sym (append_assoc done (e ∷ []) next),
        subst
            (λ xs. IsMap g.K.Name.text g.T.Element.is_value (entries_view (done ++ e ∷ [])) xs)
            (sym c.in-Ok.ensures.entries) more,
      ),
      step ∙ ap (λ es. reading_entries g.K.Name.test g.T.Element.schema (entries_view es) (walk_view l.walk))
          (sym c.in-Some.ensures.steps) ∙ l.invariant.1,
    )

pub loop-key-preserved-in-Ok-2 : goal.loop-key-preserved-in-Ok-2
loop-key-preserved-in-Ok-2 g c =
    let l = c.loop-key in
    let done = l.invariant.0.0 in
    let e : String Global × Tree = (c.in-Some.key.now, c.in-Some.tree.now) in
    let next = c.next.new.self in
    let all : c.args.members.now.entries ≡ done ++ e ∷ next =
    l.invariant.0.1 ∙ ap (λ es. done ++ es) c.in-Some.ensures.steps in
    let sorted = subst (λ es. IsStrictlySortedBy string_cmp (keys_of es)) all c.iter-key-items.ensures.ordered in
    let more = map_more g.K.Ord.cmp g.K.Name.text g.T.Element.is_value g.met.K.Name.ordered done e next
    l.values.entries c.in_ok-name.name c.in_ok-name.value sorted l.invariant.0.2
    (c.in_ok-name.ensures.name ∙ c.as_str.ensures.value) c.in_ok-name.ensures.value in
    let step = entries_step g.K.Name.test g.T.Element.schema (string_bytes e.0) c.as_str.result.now
    (tree_view e.1) (entries_view next) (walk_view l.walk) (walk_view c.read_entry.new.walk)
    c.as_str.ensures.value c.in_ok-name.ensures.reads in (
      (
        done ++ e ∷ [],
        all ∙ sym (append_assoc done (e ∷ []) next),
        subst
            (λ xs. IsMap g.K.Name.text g.T.Element.is_value (entries_view (done ++ e ∷ [])) xs)
            (sym c.in-Ok.ensures.entries) more,
      ),
      step ∙ ap (λ es. reading_entries g.K.Name.test g.T.Element.schema (entries_view es) (walk_view l.walk))
          (sym c.in-Some.ensures.steps) ∙ l.invariant.1,
    )
