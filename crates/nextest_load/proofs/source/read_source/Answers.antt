use Rattle.std.proofs.Common.{map}
use Rattle.nextest_engines.specs.Readings.{readings_view}
use Rattle.nextest_rules.specs.KnownView.{features_view}
use Rattle.nextest_sources.proofs.Runs.{ran_exit}
use Rattle.nextest_tree.specs.View.{tree_view}
use Rattle.nextest_load.specs.Loading.{source_text_view}
use Rattle.nextest_load.specs.Trees.{own_file}
use Rattle.nextest_load.proofs.Files.{text_ended, file_ended}
use Rattle.nextest_load.proofs.source.read_source.Goals as goal

pub returns-in_err-laid-clause-ran : goal.returns-in_err-laid-clause-ran
returns-in_err-laid-clause-ran g c below was =
    let engines = readings_view g.F.Filters g.S.Specs c.args.pcx.now in
    let e = c.in_err-laid.field-0.0 in
    ran_exit _ _ _ _ e c.from_residual.ensures.1
    (text_ended engines (features_view c.args.features.now) below (source_text_view c.args.file.now)
    (g.W.ConfigWarnings.warnings c.args.warnings.now) e c.in_err-laid.ensures.found)

pub returns-in_err-checked-clause-ran : goal.returns-in_err-checked-clause-ran
returns-in_err-checked-clause-ran g c below was =
    let engines = readings_view g.F.Filters g.S.Specs c.args.pcx.now in
    let e = c.in_err-checked.field-0.0 in
    ran_exit _ _ _ _ e c.from_residual-in_err-checked.ensures.1
    (file_ended engines (features_view c.args.features.now) below (source_text_view c.args.file.now)
    (tree_view c.in_ok-laid.laid.tree) c.in_ok-laid.ensures.laid.tree c.in_ok-laid.ensures.found
    (c.in_err-checked.ensures.ran (map own_file below) was))

pub returns-clause-ran : goal.returns-clause-ran
returns-clause-ran g c below was =
    let engines = readings_view g.F.Filters g.S.Specs c.args.pcx.now in
    file_ended engines (features_view c.args.features.now) below (source_text_view c.args.file.now)
    (tree_view c.in_ok-laid.laid.tree) c.in_ok-laid.ensures.laid.tree c.in_ok-laid.ensures.found
    (c.in_ok-checked.ensures.ran (map own_file below) was)

pub returns-clause-known : goal.returns-clause-known
returns-clause-known g c below was =
    rw (← c.in_ok-laid.ensures.laid.tree) (c.in_ok-checked.ensures.known (map own_file below) was)

pub returns-clause-kept : goal.returns-clause-kept
returns-clause-kept g c = rw (← c.in_ok-laid.ensures.laid.tree) c.in_ok-checked.ensures.kept
