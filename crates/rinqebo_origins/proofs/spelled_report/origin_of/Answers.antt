use Rattle.std.proofs.Common.{◌∙◌, ap, map, option_map}
use Rattle.std.proofs.lemmas.Result.{IfOk-weaker}
use Rattle.rinqebo_origins.proofs.SpelledEntries.{leaf_origin}
use Rattle.rinqebo_origins.specs.Origins.{step_view}
use Rattle.rinqebo_origins.specs.SpelledLeaves.{IsOriginOfLeaf, IsPlacedOrigin, part_at, spelled_view}
use Rattle.rinqebo_origins.proofs.spelled_report.origin_of.Goals as goal

pub returns : goal.returns
returns c =
    let layers = c.args.layers.now in
    let leaf = c.args.leaf.now in
    IfOk-weaker c.placed_origin.result
    (IsPlacedOrigin (option_map (λ name. name.now) leaf.spot.profile) c.part_at-part.result c.path_place-place.result)
    (IsOriginOfLeaf layers (spelled_view leaf))
    (λ origin is. leaf_origin layers (spelled_view leaf) c.part_at-part.result c.path_place-place.result
    c.deref.result.now origin
    (c.part_at-part.ensures ∙ ap (λ steps. part_at (map step_view steps)) c.deref-2.ensures.value)
    (ap (map step_view) c.deref.ensures.value ∙ c.in_ok-path.ensures) c.path_place-place.ensures is)
    c.placed_origin.ensures
