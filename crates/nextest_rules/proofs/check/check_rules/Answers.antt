use Rattle.std.proofs.Common.{◌∷◌, [], refl, sym, ap, ◌∙◌, subst}
use Rattle.nextest_engines.specs.Readings.{readings_view}
use Rattle.nextest_inheritance.specs.Names.{default_first}
use Rattle.nextest_sources.proofs.Runs.{ran_check, ran_first, ran_next, ran_exit}
use Rattle.nextest_sources.specs.Endings.{Ran, Found, error_view, passed}
use Rattle.nextest_sources.specs.InputFaults.{fault_at_source}
use Rattle.nextest_sources.specs.Sources.{source_view}
use Rattle.nextest_sources.specs.Steps.{check}
use Rattle.nextest_tables.specs.View.{file_table_view}
use Rattle.nextest_tree.specs.Schema.{is_one_of}
use Rattle.nextest_rules.specs.Known.{known_names}
use Rattle.nextest_rules.specs.KnownView.{known_view}
use Rattle.nextest_rules.specs.Rules.{layer_of}
use Rattle.nextest_rules.specs.Steps.{compile_cause, name_steps, parent_cause}
use Rattle.nextest_rules.proofs.Composing.{ran_failed}
use Rattle.nextest_rules.proofs.Layering.{profiles_are}
use Rattle.nextest_rules.proofs.check.check_rules.Goals as goal

pub returns-in_err-check_parents-clause-ran : goal.returns-in_err-check_parents-clause-ran
returns-in_err-check_parents-clause-ran g c below was =
    let s = source_view c.args.source.now in
    let f = file_table_view c.args.file in
    let e = c.in_err-check_parents.field-0.0 in
    let old = g.W.ConfigWarnings.warnings c.args.warnings.now in
    let parents = parent_cause (is_one_of (known_names below).profiles) f.profiles in
    let found : Found (fault_at_source s parents) (error_view e) =
    subst (λ names. Found (fault_at_source s (parent_cause names f.profiles)) (error_view e))
    (ap (λ k. k.profiles) was) c.in_err-check_parents.ensures in
    ran_exit _ old old _ e c.from_residual.ensures.1
    (ran_first (check s parents ∷ []) _ old old e (ran_check s parents old old (error_view e) refl found))

pub returns-in_err-add-clause-ran : goal.returns-in_err-add-clause-ran
returns-in_err-add-clause-ran g c below was =
    ran_failed _ _ _ c.from_residual-in_err-add.result c.from_residual-in_err-add.ensures.1 refl

pub returns-in_err-layer-clause-ran : goal.returns-in_err-layer-clause-ran
returns-in_err-layer-clause-ran g c below was =
    let engines = readings_view g.F.Filters g.S.Specs c.args.pcx.now in
    let s = source_view c.args.source.now in
    let f = file_table_view c.args.file in
    let e = c.in_err-layer.field-0.0 in
    let old = g.W.ConfigWarnings.warnings c.args.warnings.now in
    let parents = parent_cause (is_one_of (known_names below).profiles) f.profiles in
    let sound : Found (fault_at_source s parents) passed =
    subst (λ names. Found (fault_at_source s (parent_cause names f.profiles)) passed)
    (ap (λ k. k.profiles) was) c.in_ok-check_parents.ensures in
    ran_exit _ old old _ e c.from_residual-in_err-layer.ensures.1
    (ran_next (check s parents ∷ []) _ old old old (error_view e) (ran_check s parents old old passed refl sound)
    (ran_first (check s (compile_cause engines f.profiles) ∷ []) _ old old e
    (ran_check s (compile_cause engines f.profiles) old old (error_view e) refl c.in_err-layer.ensures.found)))

pub returns-in_err-check_names-clause-ran : goal.returns-in_err-check_names-clause-ran
returns-in_err-check_names-clause-ran g c below was =
    let engines = readings_view g.F.Filters g.S.Specs c.args.pcx.now in
    let s = source_view c.args.source.now in
    let f = file_table_view c.args.file in
    let e = c.in_err-check_names.field-0.0 in
    let old = g.W.ConfigWarnings.warnings c.args.warnings.now in
    let new = g.W.ConfigWarnings.warnings c.check_names.new.warnings in
    let parents = parent_cause (is_one_of (known_names below).profiles) f.profiles in
    let sound : Found (fault_at_source s parents) passed =
    subst (λ names. Found (fault_at_source s (parent_cause names f.profiles)) passed)
    (ap (λ k. k.profiles) was) c.in_ok-check_parents.ensures in
    let profiles = sym (profiles_are g.F.Filters.meaning g.S.Specs.spec_meaning
    c.in_ok-layer.layer.profiles.entries) ∙ ap (λ l. l.profiles) c.in_ok-layer.ensures.rules in
    let ran = subst (λ k. Ran
    (name_steps g.F.Filters.leaves k s (default_first (layer_of engines s f.profiles).profiles)) old new
    (error_view e)) (c.in_ok-add.ensures below was)
    (subst (λ ps. Ran (name_steps g.F.Filters.leaves (known_view c.add.new.self) s (default_first ps)) old new
    (error_view e)) profiles c.in_err-check_names.ensures) in
    ran_exit _ old new _ e c.from_residual-in_err-check_names.ensures.1
    (ran_next (check s parents ∷ []) _ old old new (error_view e) (ran_check s parents old old passed refl sound)
    (ran_next (check s (compile_cause engines f.profiles) ∷ []) _ old old new (error_view e)
    (ran_check s (compile_cause engines f.profiles) old old passed refl c.in_ok-layer.ensures.found) ran))

pub returns-clause-ran : goal.returns-clause-ran
returns-clause-ran g c below was =
    let engines = readings_view g.F.Filters g.S.Specs c.args.pcx.now in
    let s = source_view c.args.source.now in
    let f = file_table_view c.args.file in
    let old = g.W.ConfigWarnings.warnings c.args.warnings.now in
    let new = g.W.ConfigWarnings.warnings c.check_names.new.warnings in
    let parents = parent_cause (is_one_of (known_names below).profiles) f.profiles in
    let sound : Found (fault_at_source s parents) passed =
    subst (λ names. Found (fault_at_source s (parent_cause names f.profiles)) passed)
    (ap (λ k. k.profiles) was) c.in_ok-check_parents.ensures in
    let profiles = sym (profiles_are g.F.Filters.meaning g.S.Specs.spec_meaning
    c.in_ok-layer.layer.profiles.entries) ∙ ap (λ l. l.profiles) c.in_ok-layer.ensures.rules in
    let ran = subst (λ k. Ran
    (name_steps g.F.Filters.leaves k s (default_first (layer_of engines s f.profiles).profiles)) old new
    passed) (c.in_ok-add.ensures below was)
    (subst (λ ps. Ran (name_steps g.F.Filters.leaves (known_view c.add.new.self) s (default_first ps)) old new
    passed) profiles c.in_ok-check_names.ensures) in
    ran_next (check s parents ∷ []) _ old old new passed (ran_check s parents old old passed refl sound)
    (ran_next (check s (compile_cause engines f.profiles) ∷ []) _ old old new passed
    (ran_check s (compile_cause engines f.profiles) old old passed refl c.in_ok-layer.ensures.found) ran)
