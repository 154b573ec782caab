use Rattle.std.proofs.Common.{◌∷◌, [], refl}
use Rattle.nextest_sources.proofs.Runs.{ran_first, ran_next, ran_exit}
use Rattle.nextest_sources.specs.Endings.{error_view, passed, ending}
use Rattle.nextest_sources.specs.Sources.{source_view}
use Rattle.nextest_sources.specs.Steps.{check}
use Rattle.nextest_tables.specs.View.{file_table_view}
use Rattle.nextest_rules.specs.KnownView.{features_view}
use Rattle.nextest_rules.specs.Steps.{deprecated_steps, reserved_steps, group_name_cause, key_cause, feature_cause, kind_cause, script_name_cause}
use Rattle.nextest_rules.proofs.Composing.{ran_two, ran_three}
use Rattle.nextest_rules.proofs.definitions.check_definitions.Goals as goal

pub returns-in_err-check_groups_and_keys : goal.returns-in_err-check_groups_and_keys
returns-in_err-check_groups_and_keys g c =
    let s = source_view c.args.source.now in
    let f = file_table_view c.args.file.now in
    let e = c.in_err-check_groups_and_keys.field-0.0 in
    let old = g.W.ConfigWarnings.warnings c.args.warnings.now in
    ran_exit _ old old _ e c.from_residual.ensures.1
    (ran_first (check s (group_name_cause s f) ∷ check s (key_cause f) ∷ []) _ old old e
    (ran_two s _ _ old old (error_view e) refl c.in_err-check_groups_and_keys.ensures))

pub returns-in_err-warn_of_old_key : goal.returns-in_err-warn_of_old_key
returns-in_err-warn_of_old_key g c =
    let s = source_view c.args.source.now in
    let f = file_table_view c.args.file.now in
    let e = c.in_err-warn_of_old_key.field-0.0 in
    let old = g.W.ConfigWarnings.warnings c.args.warnings.now in
    let new = g.W.ConfigWarnings.warnings c.warn_of_old_key.new.warnings in
    ran_exit _ old new _ e c.from_residual-in_err-warn_of_old_key.ensures.1
    (ran_next (check s (group_name_cause s f) ∷ check s (key_cause f) ∷ []) _ old old new (error_view e)
    (ran_two s _ _ old old passed refl c.in_ok-check_groups_and_keys.ensures)
    (ran_first (deprecated_steps s f) _ old new e c.in_err-warn_of_old_key.ensures))

pub returns-in_err-check_defined_scripts : goal.returns-in_err-check_defined_scripts
returns-in_err-check_defined_scripts g c =
    let s = source_view c.args.source.now in
    let f = file_table_view c.args.file.now in
    let features = features_view c.args.features.now in
    let e = c.in_err-check_defined_scripts.field-0.0 in
    let old = g.W.ConfigWarnings.warnings c.args.warnings.now in
    let mid = g.W.ConfigWarnings.warnings c.warn_of_old_key.new.warnings in
    ran_exit _ old mid _ e c.from_residual-in_err-check_defined_scripts.ensures.1
    (ran_next (check s (group_name_cause s f) ∷ check s (key_cause f) ∷ []) _ old old mid (error_view e)
    (ran_two s _ _ old old passed refl c.in_ok-check_groups_and_keys.ensures)
    (ran_next (deprecated_steps s f) _ old mid mid (error_view e) c.in_ok-warn_of_old_key.ensures
    (ran_first (check s (feature_cause features f) ∷ check s (kind_cause f) ∷ check s (script_name_cause s f)
    ∷ []) (reserved_steps s f) mid mid e
    (ran_three s _ _ _ mid mid (error_view e) refl c.in_err-check_defined_scripts.ensures))))

pub returns : goal.returns
returns g c =
    let s = source_view c.args.source.now in
    let f = file_table_view c.args.file.now in
    let features = features_view c.args.features.now in
    let o = ending c.warn_of_reserved.result in
    let old = g.W.ConfigWarnings.warnings c.args.warnings.now in
    let mid = g.W.ConfigWarnings.warnings c.warn_of_old_key.new.warnings in
    let new = g.W.ConfigWarnings.warnings c.warn_of_reserved.new.warnings in
    ran_next (check s (group_name_cause s f) ∷ check s (key_cause f) ∷ []) _ old old new o
    (ran_two s _ _ old old passed refl c.in_ok-check_groups_and_keys.ensures)
    (ran_next (deprecated_steps s f) _ old mid new o c.in_ok-warn_of_old_key.ensures
    (ran_next (check s (feature_cause features f) ∷ check s (kind_cause f) ∷ check s (script_name_cause s f)
    ∷ []) (reserved_steps s f) mid mid new o
    (ran_three s _ _ _ mid mid passed refl c.in_ok-check_defined_scripts.ensures) c.warn_of_reserved.ensures))
