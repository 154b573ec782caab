use Rattle.std.proofs.Common.{[], ◌∷◌, ◌++◌, map, sym, ap, ◌∙◌, subst, append_assoc}
use Rattle.std.proofs.lemmas.List.{map-append}
use Rattle.nextest_documents.specs.Entries.{leaf_view}
use Rattle.nextest_documents.specs.Layers.{layers_view, keys_view}
use Rattle.nextest_documents.specs.Writers.{writer_view, IsFound, AddsFound, AreAllFound, at_none, at_more}
use Rattle.nextest_documents.proofs.KeySets.{Keys, paths_ascend}
use Rattle.nextest_documents.proofs.entries.entries_at.Goals as goal

pub loop-path-init : goal.loop-path-init
loop-path-init c = (
  [],
  sym (c.into_iter-path-iterator.ensures.into_iter_gives ∙ c.iter-path-items.ensures.rest),
  rw c.new-entries.ensures.items at_none,
)

pub loop-path-preserved : goal.loop-path-preserved
loop-path-preserved c =
    let l = c.loop-path in
    let done = l.invariant.0 in
    let k : Keys = c.in-Some.path.now in
    let left = c.next.new.self in
    let one = IsFound (layers_view c.args.query.layers.now) (keys_view c.args.query.keys.now)
    c.args.query.with_hidden in
    let ws = map writer_view c.args.writers.now in
    let new = map leaf_view c.add_entries.new.entries.items in
    let adds = subst (λ ks. AddsFound (one (keys_view ks)) ws (map leaf_view l.entries.items) new) c.deref.ensures.value
    c.in_ok-add_entries.ensures in (
      done ++ k ∷ [],
      l.invariant.1 ∙ ap (λ ks. done ++ ks) c.in-Some.ensures.steps ∙ sym (append_assoc done (k ∷ []) left),
      subst (λ ps. AreAllFound one ws ps new) (sym (map-append (λ (path : Keys). keys_view path.items) done (k ∷ [])))
          (at_more l.invariant.2 adds),
    )

pub returns-clause-ascend : goal.returns-clause-ascend
returns-clause-ascend c = paths_ascend c.args.paths.now.keys c.iter-path-items.ensures.ordered
