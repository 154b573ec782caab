use Rattle.std.proofs.Common.{◌≡◌, [], ◌∷◌, ap, ◌∙◌}
use Rattle.nextest_engines.specs.Readings.{readings_view}
use Rattle.nextest_rules.specs.KnownView.{features_view, known_view}
use Rattle.nextest_sources.specs.Inputs.{SourceText, source_texts_of}
use Rattle.nextest_sources.specs.InputsView.{input_view}
use Rattle.nextest_sources.proofs.Runs.{ran_exit}
use Rattle.nextest_load.proofs.Laying.{outcome_ended, source_ended, ran_out, loaded_more}
use Rattle.nextest_load.proofs.Tools.{spent_first}
use Rattle.nextest_load.proofs.load.LoadedLayers.read_layer.Goals as goal

pub returns-in_err-text-clause-ran : goal.returns-in_err-text-clause-ran
returns-in_err-text-clause-ran g c below was =
    let engines = readings_view g.F.Filters g.S.Specs c.args.pcx.now in
    let e = c.in_err-text.field-0.0 in
    let told = g.W.ConfigWarnings.warnings c.args.warnings.now in
    ran_exit _ told told _ e c.from_residual.ensures.1
    (outcome_ended engines (features_view c.args.features.now) below (input_view c.args.input.now) told e
    c.in_err-text.ensures.found)

pub returns-in_err-lower-clause-ran : goal.returns-in_err-lower-clause-ran
returns-in_err-lower-clause-ran g c below was =
    spent_first _ (g.W.ConfigWarnings.warnings c.args.warnings.now) _ c.from_residual-in_err-lower.ensures.1

pub returns-in_err-loaded-clause-ran : goal.returns-in_err-loaded-clause-ran
returns-in_err-loaded-clause-ran g c below was =
    let engines = readings_view g.F.Filters g.S.Specs c.args.pcx.now in
    let e = c.in_err-loaded.field-0.0 in
    let i = input_view c.args.input.now in
    let s : SourceText = record { source = i.source; text = c.in-Some.text.now } in
    let one : source_texts_of i ≡ s ∷ [] = rw c.in-Some.is at c.in_ok-text.ensures.text in
    ran_exit _ _ _ _ e c.from_residual-in_err-loaded.ensures.1
    (source_ended engines (features_view c.args.features.now) below i s c.in_ok-text.ensures.found one
    (c.in_err-loaded.ensures.ran below was.known))

pub returns-in_err-add-clause-ran : goal.returns-in_err-add-clause-ran
returns-in_err-add-clause-ran g c below was =
    let engines = readings_view g.F.Filters g.S.Specs c.args.pcx.now in
    let i = input_view c.args.input.now in
    let s : SourceText = record { source = i.source; text = c.in-Some.text.now } in
    let one : source_texts_of i ≡ s ∷ [] = rw c.in-Some.is at c.in_ok-text.ensures.text in
    ran_out _ _ c.from_residual-in_err-add.ensures.1
    (source_ended engines (features_view c.args.features.now) below i s c.in_ok-text.ensures.found one
    (c.in_ok-loaded.ensures.ran below was.known))

pub returns-clause-ran : goal.returns-clause-ran
returns-clause-ran g c below was =
    let engines = readings_view g.F.Filters g.S.Specs c.args.pcx.now in
    let i = input_view c.args.input.now in
    let s : SourceText = record { source = i.source; text = c.in-Some.text.now } in
    let one : source_texts_of i ≡ s ∷ [] = rw c.in-Some.is at c.in_ok-text.ensures.text in
    source_ended engines (features_view c.args.features.now) below i s c.in_ok-text.ensures.found one
    (c.in_ok-loaded.ensures.ran below was.known)

pub returns-clause-loaded : goal.returns-clause-loaded
returns-clause-loaded g c below was =
    let engines = readings_view g.F.Filters g.S.Specs c.args.pcx.now in
    let i = input_view c.args.input.now in
    let s : SourceText = record { source = i.source; text = c.in-Some.text.now } in
    let one : source_texts_of i ≡ s ∷ [] = rw c.in-Some.is at c.in_ok-text.ensures.text in
    loaded_more g.F.Filters.meaning g.S.Specs.spec_meaning engines below (source_texts_of i) s c.args.self.now
    _ c.in_ok-loaded.loaded.rules one was
    (ap known_view c.in_ok-add.ensures.known ∙ c.in_ok-loaded.ensures.known below was.known)
    (c.in_ok-add.ensures.defaults s c.in_ok-loaded.ensures.laid)
    (c.in_ok-add.ensures.merged below s was.merged c.in_ok-loaded.ensures.laid)
    (c.in_ok-add.ensures.kept below s was.merged c.in_ok-loaded.ensures.kept)
    c.in_ok-add.ensures.layers c.in_ok-loaded.ensures.rules
    (c.in_ok-add.ensures.names below s was.names c.in_ok-loaded.ensures.setup c.in_ok-loaded.ensures.old_setup
    c.in_ok-loaded.ensures.wrapper)
