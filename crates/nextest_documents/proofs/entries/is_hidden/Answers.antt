use Rattle.std.proofs.Common.{◌≡◌, ◌++◌, ap, ◌∙◌, subst}
use Rattle.nextest_documents.specs.Grounds.{ShowsLeaf}
use Rattle.nextest_documents.specs.Layers.{layers_view, keys_view}
use Rattle.nextest_documents.specs.Sections.{section_view, base_path}
use Rattle.nextest_documents.proofs.Results.{if_ok}
use Rattle.nextest_documents.proofs.Showing.{shown_is}
use Rattle.nextest_documents.proofs.entries.is_hidden.Goals as goal

pub returns : goal.returns
returns c =
    if_ok _ _ c.is_overruled.result
    (λ hidden both. λ v is.
    let ls = c.args.layers.now in
    let whole = base_path (section_view c.args.writer.section) ++ keys_view c.args.path.now in
    let at : keys_view c.deref.result.now ≡ whole = ap keys_view c.deref.ensures.value ∙ c.in_ok-whole.ensures in
    let shows = subst (λ q. ShowsLeaf (layers_view ls) q c.args.writer.layer) at
    (c.shows_leaf.ensures.0 c.if-not-shows_leaf.false) in (
      λ e. record { shown = shown_is ls c.args.writer.layer whole v is shows; nearest = both.0 e },
      λ counts. both.1 counts.nearest,
    ))
    c.is_overruled.ensures
