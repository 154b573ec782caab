use Rattle.std.proofs.Common.{◌≡◌, map, take}
use Rattle.nextest_sources.specs.WarningsView.{warning_view}
use Rattle.serde_json.specs.View.{view}
use Rattle.rinqebo_objects.specs.WarningObjects.{warning_data}
use Rattle.rinqebo_objects.proofs.warnings.list_json.Given as goal

abbrev pub invariant-loop-warning : goal.invariant-loop-warning
invariant-loop-warning l =
    map view l.list.items ≡ map (λ warning. warning_data (warning_view warning)) (take l.warning-index l.warnings)
