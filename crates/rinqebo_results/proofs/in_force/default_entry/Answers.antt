use Rattle.std.proofs.Common.{◌∙◌, [], ap, refl, subst, unwrap_or}
use Rattle.nextest_tree.specs.Node.{text}
use Rattle.rinqebo_origins.specs.Origins.{IsOriginOf, key_steps}
use Rattle.rinqebo_origins.specs.RulePlaces.{place_view}
use Rattle.rinqebo_results.proofs.in_force.default_entry.Goals as goal

pub returns : goal.returns
returns c = record {
  key = c.in_ok-key.ensures.ok;
  origin = subst (λ steps. IsOriginOf c.args.layers.now (place_view c.args.place) steps c.in_ok-origin.origin)
      (λ i. key_steps (c.default_filter_key.ensures.table i) (c.default_filter_key.ensures.key i))
      c.in_ok-origin.ensures;
  value = c.in_ok-value.ensures ∙ ap (λ written. text (unwrap_or written [])) c.default_text.ensures;
  shown = refl;
}
