use Rattle.std.proofs.Common.{◌≡◌, List, [], ◌∷◌, ◌++◌, ap, subst, ◌∙◌}
use Rattle.nextest_engines.specs.Readings.{readings_view}
use Rattle.nextest_rules.specs.Known.{known_names, known_to, sets_of}
use Rattle.nextest_rules.specs.KnownView.{known_view}
use Rattle.nextest_rules.specs.Rules.{layer_of}
use Rattle.nextest_sources.specs.Endings.{Ran, error_view, passed}
use Rattle.nextest_sources.specs.Sources.{source_view}
use Rattle.nextest_sources.specs.Steps.{LoadStep}
use Rattle.nextest_sources.proofs.Runs.{ran_exit}
use Rattle.nextest_tables.specs.View.{file_table_view}
use Rattle.nextest_load.specs.Kept.{all_without_fields, profiles_alone, without_profiles}
use Rattle.nextest_load.specs.Merged.{profiles_of}
use Rattle.nextest_load.proofs.Parting.{known_in_parts, layer_without, parts_kept, steps_in_parts}
use Rattle.nextest_load.proofs.Tools.{spent_first}
use Rattle.nextest_load.proofs.kept.check_table.Goals as goal

pub returns-in_err-rules-clause-ran : goal.returns-in_err-rules-clause-ran
returns-in_err-rules-clause-ran g c below was =
    ran_exit _ _ _ _ c.in_err-rules.field-0.0 c.from_residual.ensures.1 (c.in_err-rules.ensures.ran below was)

pub returns-then-not-file-clause-ran : goal.returns-then-not-file-clause-ran
returns-then-not-file-clause-ran g c below was = c.in_ok-rules.ensures.ran below was

pub returns-then-not-file-clause-known : goal.returns-then-not-file-clause-known
returns-then-not-file-clause-known g c below was = c.in_ok-rules.ensures.known below was

pub returns-in_err-ruled-clause-ran : goal.returns-in_err-ruled-clause-ran
returns-in_err-ruled-clause-ran g c below was = spent_first _ _ _ c.from_residual-in_err-ruled.ensures.1

pub returns-in_err-add-clause-ran : goal.returns-in_err-add-clause-ran
returns-in_err-add-clause-ran g c below was = spent_first _ _ _ c.from_residual-in_err-add.ensures.1

pub returns-in_err-rules_alone-clause-ran : goal.returns-in_err-rules_alone-clause-ran
returns-in_err-rules_alone-clause-ran g c below was =
    let engines = readings_view g.F.Filters g.S.Specs c.args.pcx.now in
    let f = file_table_view c.args.table in
    let e = c.in_err-rules_alone.field-0.0 in
    let old = g.W.ConfigWarnings.warnings c.args.warnings.now in
    let new = g.W.ConfigWarnings.warnings c.check_rules-2.new.warnings in
    let alone : file_table_view c.table_of_profiles-ruled.result ≡ profiles_alone (all_without_fields f.profiles) =
    c.table_of_profiles-ruled.ensures
    ∙ ap profiles_alone (c.in_ok-ruled.ensures.rules ∙ ap all_without_fields c.take_profiles-rest.ensures.profiles) in
    let both : known_view c.add.new.self ≡ sets_of (known_names (below ++ without_profiles f ∷ [])) =
    c.in_ok-add.ensures below was ∙ ap (λ t. sets_of (known_to below t)) c.take_profiles-rest.ensures.rest in
    let P : List LoadStep → Type 0 = λ steps. Ran steps old new (error_view e) in
    ran_exit _ old new _ e c.from_residual-in_err-rules_alone.ensures.1
    (subst P (steps_in_parts engines below f _ (source_view c.args.file.now.source.now) alone)
    (c.in_err-rules_alone.ensures.ran (below ++ without_profiles f ∷ []) both))

pub returns-clause-ran : goal.returns-clause-ran
returns-clause-ran g c below was =
    let engines = readings_view g.F.Filters g.S.Specs c.args.pcx.now in
    let f = file_table_view c.args.table in
    let old = g.W.ConfigWarnings.warnings c.args.warnings.now in
    let new = g.W.ConfigWarnings.warnings c.check_rules-2.new.warnings in
    let alone : file_table_view c.table_of_profiles-ruled.result ≡ profiles_alone (all_without_fields f.profiles) =
    c.table_of_profiles-ruled.ensures
    ∙ ap profiles_alone (c.in_ok-ruled.ensures.rules ∙ ap all_without_fields c.take_profiles-rest.ensures.profiles) in
    let both : known_view c.add.new.self ≡ sets_of (known_names (below ++ without_profiles f ∷ [])) =
    c.in_ok-add.ensures below was ∙ ap (λ t. sets_of (known_to below t)) c.take_profiles-rest.ensures.rest in
    let P : List LoadStep → Type 0 = λ steps. Ran steps old new passed in
    subst P (steps_in_parts engines below f _ (source_view c.args.file.now.source.now) alone)
    (c.in_ok-rules_alone.ensures.ran (below ++ without_profiles f ∷ []) both)

pub returns-clause-rules : goal.returns-clause-rules
returns-clause-rules g c =
    let engines = readings_view g.F.Filters g.S.Specs c.args.pcx.now in
    let f = file_table_view c.args.table in
    let source = source_view c.args.file.now.source.now in
    c.in_ok-rules_alone.ensures.rules
    ∙ ap (λ t. layer_of engines source t.profiles) c.table_of_profiles-ruled.ensures
    ∙ ap (layer_of engines source)
    (c.in_ok-ruled.ensures.rules ∙ ap all_without_fields c.take_profiles-rest.ensures.profiles)
    ∙ layer_without engines source f.profiles

pub returns-clause-known : goal.returns-clause-known
returns-clause-known g c below was =
    let f = file_table_view c.args.table in
    let alone : file_table_view c.table_of_profiles-ruled.result ≡ profiles_alone (all_without_fields f.profiles) =
    c.table_of_profiles-ruled.ensures
    ∙ ap profiles_alone (c.in_ok-ruled.ensures.rules ∙ ap all_without_fields c.take_profiles-rest.ensures.profiles) in
    let both : known_view c.add.new.self ≡ sets_of (known_names (below ++ without_profiles f ∷ [])) =
    c.in_ok-add.ensures below was ∙ ap (λ t. sets_of (known_to below t)) c.take_profiles-rest.ensures.rest in
    c.in_ok-rules_alone.ensures.known (below ++ without_profiles f ∷ []) both
    ∙ ap (λ t. sets_of (known_to (below ++ without_profiles f ∷ []) t)) alone
    ∙ ap sets_of (known_in_parts below f)

pub returns-clause-kept : goal.returns-clause-kept
returns-clause-kept g c =
    parts_kept c.args.table _ _ c.take_profiles-rest.ensures.rest c.take_profiles-rest.ensures.scripts
    (c.in_ok-ruled.ensures.kept ∙ ap profiles_of c.take_profiles-rest.ensures.profiles)
