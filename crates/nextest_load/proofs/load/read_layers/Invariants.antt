use Rattle.nextest_engines.specs.Readings.{readings_view}
use Rattle.nextest_rules.specs.KnownView.{features_view}
use Rattle.nextest_load.proofs.Inputs.{HaveRun}
use Rattle.nextest_load.proofs.load.read_layers.Given as goal

-- the inputs so far have passed, and their sources are loaded
abbrev pub invariant-loop-place : goal.invariant-loop-place
invariant-loop-place g l =
    let F = g.F.Filters in
    let S = g.S.Specs in
    let engines = readings_view F S l.pcx in
    HaveRun F.meaning S.spec_meaning engines (features_view l.features) l.inputs l.place
    (g.W.ConfigWarnings.warnings l.fn.warnings) (g.W.ConfigWarnings.warnings l.warnings) l.loaded
