use Rattle.std.proofs.Common.{◌∙◌, MatchOption, ap, subst}
use Rattle.nextest_documents.specs.Layers.{IsHighest, Stands, keys_view, layers_view}
use Rattle.rinqebo_object_origins.proofs.beside.writing_layer.Goals as goal

pub returns : goal.returns
returns c =
    let path = keys_view c.args.path.now in
    subst (λ trees. MatchOption c.layer_of-found.result (¬ Stands trees path) (IsHighest trees path))
    (ap layers_view c.deref.ensures.value ∙ c.in_ok-trees.ensures) c.layer_of-found.ensures.shown
