use Rattle.std.proofs.Common.{◌≡◌, [], ◌∷◌, ◌+◌, ◌++◌, drop, take, map, option_map, append-nil, IfSome, sym, ap, subst, ◌∙◌}
use Rattle.std.proofs.Math.ListN.{drop_of_length-le}
use Rattle.std.proofs.lemmas.List.{drop_more, take_more, take-append-drop}
use Rattle.nextest_engines.specs.Readings.{readings_view}
use Rattle.nextest_rules.specs.KnownView.{features_view}
use Rattle.nextest_sources.proofs.Runs.{ran_exit}
use Rattle.nextest_tables.specs.Defaults.{defaults}
use Rattle.nextest_tree.specs.View.{tree_view}
use Rattle.nextest_load.specs.Kept.{IsKept}
use Rattle.nextest_load.specs.Trees.{merged_tree}
use Rattle.nextest_load.proofs.Inputs.{sources_before, runs_start, runs_stop, runs_next, runs_end, runs_loaded}
use Rattle.nextest_load.proofs.load.read_layers.Goals as goal

pub loop-place-init : goal.loop-place-init
loop-place-init g c =
    runs_start _ _ _ _ c.args.inputs.now _ c.new-loaded.result
    (record {
      known = c.new-loaded.ensures.known;
      defaults = subst (λ tree. IfSome tree (λ t. tree_view t ≡ defaults)) (sym c.new-loaded.ensures.defaults) tt;
      merged =
          ap (option_map tree_view) c.new-loaded.ensures.merged;
      kept = subst (λ kept. IfSome kept (IsKept (merged_tree []))) (sym c.new-loaded.ensures.kept) tt;
      layers =
          ap (map _) c.new-loaded.ensures.layers;
      names = c.new-loaded.ensures.names;
    })

pub read_layer-requires : goal.read_layer-requires
read_layer-requires g c = c.loop-place.invariant.sources.defaults

pub returns-in_err-read_layer-clause-ran : goal.returns-in_err-read_layer-clause-ran
returns-in_err-read_layer-clause-ran g c =
    let engines = readings_view g.F.Filters g.S.Specs c.args.pcx.now in
    let inputs = c.args.inputs.now in
    let i = c.loop-place.place in
    let input = c.index-inputs-place.result in
    let e = c.in_err-read_layer.field-0.0 in
    let next : drop i inputs ≡ input ∷ drop (i + 1) inputs =
    drop_more inputs i input c.loop-place-test.true ∙ ap (λ f. f ∷ drop (i + 1) inputs) (sym c.index-inputs-place.is) in
    let below = sources_before i inputs in
    ran_exit _ _ _ _ e c.from_residual.ensures.1
    (runs_stop g.F.Filters.meaning g.S.Specs.spec_meaning engines (features_view c.args.features.now) inputs
    input e next c.loop-place.invariant (c.in_err-read_layer.ensures.ran below c.loop-place.invariant.sources))

pub loop-place-preserved : goal.loop-place-preserved
loop-place-preserved g c =
    let engines = readings_view g.F.Filters g.S.Specs c.args.pcx.now in
    let inputs = c.args.inputs.now in
    let i = c.loop-place.place in
    let input = c.index-inputs-place.result in
    let next : drop i inputs ≡ input ∷ drop (i + 1) inputs =
    drop_more inputs i input c.loop-place-test.true ∙ ap (λ f. f ∷ drop (i + 1) inputs) (sym c.index-inputs-place.is) in
    let taken : take (i + 1) inputs ≡ take i inputs ++ input ∷ [] =
    take_more inputs i input c.loop-place-test.true ∙ ap (λ f. take i inputs ++ f ∷ []) (sym c.index-inputs-place.is) in
    let below = sources_before i inputs in
    runs_next g.F.Filters.meaning g.S.Specs.spec_meaning engines (features_view c.args.features.now) inputs
    input next taken c.loop-place.invariant (c.in_ok-read_layer.ensures.ran below c.loop-place.invariant.sources)
    (c.in_ok-read_layer.ensures.loaded below c.loop-place.invariant.sources)

pub returns-clause-ran : goal.returns-clause-ran
returns-clause-ran g c =
    let engines = readings_view g.F.Filters g.S.Specs c.args.pcx.now in
    runs_end g.F.Filters.meaning g.S.Specs.spec_meaning engines (features_view c.args.features.now)
    c.args.inputs.now (drop_of_length-le c.args.inputs.now c.loop-place-test.false) c.loop-place.invariant

pub returns-clause-loaded : goal.returns-clause-loaded
returns-clause-loaded g c =
    let engines = readings_view g.F.Filters g.S.Specs c.args.pcx.now in
    let inputs = c.args.inputs.now in
    let i = c.loop-place.place in
    let all : take i inputs ≡ inputs =
    sym (append-nil (take i inputs))
    ∙ ap (λ is. take i inputs ++ is) (sym (drop_of_length-le inputs c.loop-place-test.false))
    ∙ take-append-drop i inputs in
    runs_loaded g.F.Filters.meaning g.S.Specs.spec_meaning engines (features_view c.args.features.now) inputs
    all c.loop-place.invariant
