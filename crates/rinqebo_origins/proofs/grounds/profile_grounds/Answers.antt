use Rattle.std.proofs.Common.{◌∙◌, ap, subst}
use Rattle.std.proofs.lemmas.Result.{IfOk-weaker}
use Rattle.nextest_documents.specs.Layers.{layers_view, keys_view}
use Rattle.rinqebo_origins.specs.ProfileOrigins.{IsUnwritten, built_in, no_profile}
use Rattle.rinqebo_origins.specs.Trees.{trees_of}
use Rattle.rinqebo_origins.proofs.grounds.profile_grounds.Goals as goal

pub returns : goal.returns
returns c =
    let chain = keys_view c.args.chain.now in
    let none = rw c.in-None.is at c.in_ok-grounds.ensures in
    let trees = ap layers_view c.deref-2.ensures.value ∙ c.in_ok-trees.ensures in
    let path = ap keys_view c.deref-3.ensures.value ∙ c.in_ok-path.ensures in
    IfOk-weaker c.built_in-in-None.result _ _
    (λ origins is. built_in (no_profile (subst (λ p. IsUnwritten (trees_of c.args.layers.now) chain p) path
    (subst (λ ts. IsUnwritten ts chain (keys_view c.deref-3.result.now)) trees none))) is)
    c.built_in-in-None.ensures
