use Rattle.std.proofs.Common.{IfSome}
use Rattle.std.proofs.lemmas.Result.{IfOk-weaker}
use Rattle.nextest_engines.specs.Readings.{readings_view}
use Rattle.nextest_rules.specs.KnownView.{features_view}
use Rattle.nextest_sources.specs.Sources.{source_view}
use Rattle.nextest_sources.proofs.Runs.{ran_exit}
use Rattle.nextest_tables.specs.View.{file_table_view}
use Rattle.nextest_tree.specs.View.{tree_view}
use Rattle.nextest_load.proofs.Files.{own_ended, definitions_ended, rules_ended}
use Rattle.nextest_load.specs.Kept.{IsKeptOf}
use Rattle.nextest_load.proofs.Parting.{kept_if}
use Rattle.nextest_load.proofs.source.read_rules.Goals as goal

pub returns-in_err-table-clause-ran : goal.returns-in_err-table-clause-ran
returns-in_err-table-clause-ran g c below was =
    let engines = readings_view g.F.Filters g.S.Specs c.args.pcx.now in
    let e = c.in_err-table.field-0.0 in
    ran_exit _ _ _ _ e c.from_residual.ensures.1
    (own_ended engines (features_view c.args.features.now) below (source_view c.args.file.now.source.now)
    (tree_view c.args.own.now) e c.in_err-table.ensures.ran)

pub returns-in_err-check_definitions-clause-ran : goal.returns-in_err-check_definitions-clause-ran
returns-in_err-check_definitions-clause-ran g c below was =
    let engines = readings_view g.F.Filters g.S.Specs c.args.pcx.now in
    let e = c.in_err-check_definitions.field-0.0 in
    ran_exit _ _ _ _ e c.from_residual-in_err-check_definitions.ensures.1
    (definitions_ended engines (features_view c.args.features.now) below (source_view c.args.file.now.source.now)
    (tree_view c.args.own.now) e (file_table_view c.in_ok-table.table) c.in_ok-table.ensures.value
    c.in_ok-table.ensures.ran c.in_err-check_definitions.ensures)

pub returns-clause-ran : goal.returns-clause-ran
returns-clause-ran g c below was =
    let engines = readings_view g.F.Filters g.S.Specs c.args.pcx.now in
    rules_ended engines (features_view c.args.features.now) below (source_view c.args.file.now.source.now)
    (tree_view c.args.own.now) (file_table_view c.in_ok-table.table) c.in_ok-table.ensures.value
    c.in_ok-table.ensures.ran c.in_ok-check_definitions.ensures (c.check_table.ensures.ran below was)

pub returns-clause-known : goal.returns-clause-known
returns-clause-known g c below was = rw (← c.in_ok-table.ensures.value) (c.check_table.ensures.known below was)

pub returns-clause-kept : goal.returns-clause-kept
returns-clause-kept g c =
    IfOk-weaker c.check_table.result (λ checked. IfSome checked.kept (IsKeptOf c.in_ok-table.table)) _
    (λ checked of. kept_if (tree_view c.args.own.now) c.in_ok-table.table c.in_ok-table.ensures.sound
    c.in_ok-table.ensures.value c.in_ok-table.ensures.scripts c.in_ok-table.ensures.complete checked.kept of)
    c.check_table.ensures.kept
