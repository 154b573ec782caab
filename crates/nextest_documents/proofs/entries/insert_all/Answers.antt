use Rattle.std.proofs.Common.{◌≡◌, inl, inr, Contains, ap, ◌∙◌, subst}
use Rattle.nextest_documents.specs.Layers.{keys_view}
use Rattle.nextest_documents.specs.Leaves.{paths_view}
use Rattle.nextest_documents.proofs.KeySets.{Keys, kept_inserted, new_inserted}
use Rattle.nextest_documents.proofs.Lists.{contained_taken}
use Rattle.nextest_documents.proofs.entries.insert_all.Goals as goal

pub loop-path-preserved : goal.loop-path-preserved
loop-path-preserved c =
    let k = c.in_ok-from_slice.field-0 in
    let old = c.loop-path.set.keys in
    let new = c.insert.new.self.keys in
    let is = c.in_ok-insert.ensures.keys in
    let item = c.path-item.result in
    let same : keys_view k.items ≡ keys_view item.items =
    ap keys_view (c.in_ok-from_slice.ensures.items ∙ c.deref.ensures.value) in
    record {
      kept = λ p i. kept_inserted p k old new is (c.loop-path.invariant.kept p i);
      added = λ p i.
          elim (contained_taken (λ (path : Keys). keys_view path.items) c.args.paths.now c.loop-path.path-index item
          c.loop-path-test.true p i) [
            | inl before ↦ kept_inserted p k old new is (c.loop-path.invariant.added p before)
            | inr at ↦
                subst (λ q. Contains (paths_view new) q)
                (same ∙ ap (λ (path : Keys). keys_view path.items) c.path-item.is ∙ at) (new_inserted k old new is)
          ];
    }
