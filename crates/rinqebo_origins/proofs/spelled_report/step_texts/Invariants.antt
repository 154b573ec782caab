use Rattle.std.proofs.Common.{◌≡◌, map, string_bytes, take}
use Rattle.rinqebo_origins.specs.Origins.{step_view}
use Rattle.rinqebo_origins.specs.SpelledLeaves.{step_text}
use Rattle.rinqebo_origins.proofs.spelled_report.step_texts.Given as goal

-- the texts so far
abbrev pub invariant-loop-step : goal.invariant-loop-step
invariant-loop-step l =
    map string_bytes l.texts.items ≡ map step_text (map step_view (take l.step-index l.steps))
