use Rattle.std.proofs.Common.{◌∙◌, ap, sym}
use Rattle.nextest_settings.proofs.KnowsScripts.{fused}
use Rattle.nextest_sources.specs.WarningsView.{warning_view}
use Rattle.rinqebo_objects.specs.WarningObjects.{warning_data, warnings_data}
use Rattle.serde_json.specs.Data.{array}
use Rattle.serde_json.specs.View.{items_of}
use Rattle.rinqebo_objects.proofs.warnings.warnings_json.Goals as goal

pub returns : goal.returns
returns c =
    c.in_ok-list.ensures
    ∙ ap (λ ds. array (items_of ds)) (sym (fused warning_data warning_view c.warnings.result.now))
    ∙ ap warnings_data c.warnings.ensures
