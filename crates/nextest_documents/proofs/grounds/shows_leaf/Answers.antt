use Rattle.std.proofs.Common.{◌≡◌, sym, ◌∙◌, subst, arith}
use Rattle.nextest_documents.specs.Layers.{layers_view, keys_view, IsHighest}
use Rattle.nextest_documents.proofs.Lists.{never}
use Rattle.nextest_documents.proofs.Showing.{shows_if, only_if, is_highest}
use Rattle.nextest_documents.proofs.grounds.shows_leaf.Goals as goal

pub returns-then-highest-position : goal.returns-then-highest-position
returns-then-highest-position c = (
  λ yes. never yes,
  λ shows.
      let p = keys_view c.args.path.now in
      let same : c.in-Some.highest ≡ c.args.position =
      is_highest (layers_view c.args.layers.now) c.args.position c.in-Some.highest p shows c.in-Some.ensures.shown in
      absurd (omega (arith, same, c.if-highest-position.true)),
)

pub returns : goal.returns
returns c =
    let ls = c.args.layers.now in
    let p = keys_view c.args.path.now in
    let same : c.in-Some.highest ≡ c.args.position = omega (arith, c.if-highest-position.false) in
    let highest = subst (λ n. IsHighest (layers_view ls) p n) same c.in-Some.ensures.shown in (
      λ yes. shows_if ls c.args.position p c.leaf_in.result c.leaf_in.ensures highest
          (sym c.is_some.ensures ∙ yes),
      λ shows. c.is_some.ensures ∙ only_if ls c.args.position p c.leaf_in.result c.leaf_in.ensures shows,
    )
