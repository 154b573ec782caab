use Rattle.std.proofs.Common.{◌≡◌, ◌∙◌, ◌++◌, ◌⊎◌, List, ap, subst}
use Rattle.nextest_load.specs.Accepted.{IsAccepted}
use Rattle.nextest_load.specs.Steps.{load_steps}
use Rattle.nextest_rules.specs.KnownView.{features_view}
use Rattle.nextest_sources.specs.Endings.{IsMemory}
use Rattle.nextest_sources.specs.Steps.{warnings_before}
use Rattle.nextest_sources.specs.Warnings.{Warning}
use Rattle.nextest_sources.specs.WarningsView.{warnings_view}
use Rattle.rinqebo_load.specs.Sessions.{files_view, readings, IsLoadedFrom}
use Rattle.rinqebo_load.proofs.Loading.{same_run}
use Rattle.rinqebo_load.proofs.session.Session.load.Goals as goal

pub returns-in-Ok-clause-verdict : goal.returns-in-Ok-clause-verdict
returns-in-Ok-clause-verdict c =
    let session = c.args.self.now in
    let files = files_view session.gathered.now in
    let engines = readings c.parse_context.result.filters.now in
    subst (λ filters. IsAccepted (readings filters) (features_view session.features) files) c.parse_context.ensures
    (subst (λ features. IsAccepted engines (features_view features) files) c.inputs-inputs.ensures.features
    (subst (λ fs. IsAccepted engines (features_view c.inputs-inputs.result.features.now) fs)
    c.inputs-inputs.ensures.files
    c.in-Ok.ensures.loads.verdict))

pub returns-in-Ok-clause-means : goal.returns-in-Ok-clause-means
returns-in-Ok-clause-means c =
    let session = c.args.self.now in
    let engines = readings c.parse_context.result.filters.now in
    let config = c.in-Ok.config in
    subst (λ filters. IsLoadedFrom (readings filters) (files_view session.gathered.now) config) c.parse_context.ensures
    (subst (λ fs. IsLoadedFrom engines fs config) c.inputs-inputs.ensures.files
    (record { means = c.in-Ok.ensures.loads.means; scripts = c.in-Ok.ensures.loads.scripts }))

pub returns-in-Ok-clause-warnings : goal.returns-in-Ok-clause-warnings
returns-in-Ok-clause-warnings c =
    let session = c.args.self.now in
    let files = files_view session.gathered.now in
    let engines = readings c.parse_context.result.filters.now in
    let old : List Warning = warnings_view c.args.warnings.now in
    c.in-Ok.ensures.loads.ran.is.1
    ∙ ap (λ fs. old ++ warnings_before (load_steps engines (features_view c.inputs-inputs.result.features.now) fs))
    c.inputs-inputs.ensures.files
    ∙ ap (λ features. old ++ warnings_before (load_steps engines (features_view features) files))
    c.inputs-inputs.ensures.features
    ∙ ap (λ filters. old ++ warnings_before (load_steps (readings filters) (features_view session.features) files))
    c.parse_context.ensures

pub returns-in-Err-clause-verdict : goal.returns-in-Err-clause-verdict
returns-in-Err-clause-verdict c =
    let session = c.args.self.now in
    let files = files_view session.gathered.now in
    let engines = readings c.parse_context.result.filters.now in
    let error = c.in-Err.error in
    subst (λ filters. IsMemory error ⊎ (¬ IsAccepted (readings filters) (features_view session.features) files))
    c.parse_context.ensures
    (subst (λ features. IsMemory error ⊎ (¬ IsAccepted engines (features_view features) files))
    c.inputs-inputs.ensures.features
    (subst (λ fs. IsMemory error ⊎ (¬ IsAccepted engines (features_view c.inputs-inputs.result.features.now) fs))
    c.inputs-inputs.ensures.files c.in-Err.ensures.loads.verdict))

pub returns-in-Err-clause-refused : goal.returns-in-Err-clause-refused
returns-in-Err-clause-refused c =
    same_run _ _ _ _ _ _ _ _ _ c.parse_context.ensures (ap features_view c.inputs-inputs.ensures.features)
    c.inputs-inputs.ensures.files c.in-Err.ensures.loads.ran
