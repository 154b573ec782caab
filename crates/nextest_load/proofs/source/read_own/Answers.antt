use Rattle.std.proofs.Common.{[], ◌∷◌, refl}
use Rattle.nextest_sources.specs.Endings.{passed, error_view}
use Rattle.nextest_sources.specs.Sources.{source_view}
use Rattle.nextest_sources.specs.Steps.{check}
use Rattle.nextest_sources.proofs.Runs.{ran_check, ran_exit, ran_first, ran_next}
use Rattle.nextest_tables.specs.Tables.{a_file}
use Rattle.nextest_tree.specs.Schema.{unknown}
use Rattle.nextest_tree.specs.View.{tree_view}
use Rattle.nextest_load.specs.Steps.{element_cause, unknown_steps}
use Rattle.nextest_load.proofs.Parting.{no_cause_found}
use Rattle.nextest_load.proofs.source.read_own.Goals as goal

pub returns-in_err-table-clause-ran : goal.returns-in_err-table-clause-ran
returns-in_err-table-clause-ran g c =
    let e = c.in_err-table.field-0.0 in
    let source = source_view c.args.source.now in
    let tree = tree_view c.args.own.now in
    let told = g.W.ConfigWarnings.warnings c.args.warnings.now in
    ran_exit _ told told _ e c.from_residual.ensures.1
    (ran_first (check source (element_cause tree) ∷ []) (unknown_steps source tree) told told e
    (ran_check source (element_cause tree) told told (error_view e) refl c.in_err-table.ensures.found))

pub returns-in_err-warn_of_unknown-clause-ran : goal.returns-in_err-warn_of_unknown-clause-ran
returns-in_err-warn_of_unknown-clause-ran g c =
    let e = c.in_err-warn_of_unknown.field-0.0 in
    let source = source_view c.args.source.now in
    let tree = tree_view c.args.own.now in
    let told = g.W.ConfigWarnings.warnings c.args.warnings.now in
    ran_exit _ told _ _ e c.from_residual-in_err-warn_of_unknown.ensures.1
    (ran_next (check source (element_cause tree) ∷ []) (unknown_steps source tree) told told _ (error_view e)
    (ran_check source (element_cause tree) told told passed refl c.in_ok-table.ensures.found)
    (c.in_err-warn_of_unknown.ensures (unknown a_file [] tree) c.in_ok-table.ensures.unknown))

pub returns-clause-ran : goal.returns-clause-ran
returns-clause-ran g c =
    let source = source_view c.args.source.now in
    let tree = tree_view c.args.own.now in
    let told = g.W.ConfigWarnings.warnings c.args.warnings.now in
    ran_next (check source (element_cause tree) ∷ []) (unknown_steps source tree) told told _ passed
    (ran_check source (element_cause tree) told told passed refl c.in_ok-table.ensures.found)
    (c.in_ok-warn_of_unknown.ensures (unknown a_file [] tree) c.in_ok-table.ensures.unknown)

pub returns-clause-sound : goal.returns-clause-sound
returns-clause-sound g c =
    no_cause_found (source_view c.args.source.now) (element_cause (tree_view c.args.own.now))
    c.in_ok-table.ensures.found
