use Rattle.std.proofs.Common.{◌≡◌, ◌++◌, map, option_map, take}
use Rattle.rinqebo_origins.specs.Origins.{step_view}
use Rattle.rinqebo_origins.specs.SpelledLeaves.{base_steps}
use Rattle.rinqebo_origins.proofs.spelled_report.path_of.Given as goal

-- the steps so far
abbrev pub invariant-loop-step : goal.invariant-loop-step
invariant-loop-step l =
    map step_view l.path.items
    ≡ base_steps (option_map (λ name. name.now) l.leaf.spot.profile)
    ++ map step_view (take l.step-index l.leaf.steps.items)
