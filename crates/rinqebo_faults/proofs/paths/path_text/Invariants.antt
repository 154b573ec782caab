use Rattle.std.proofs.Common.{◌≡◌, ◌++◌, drop, string_bytes}
use Rattle.rinqebo_faults.specs.Paths.{dotted, shown_path}
use Rattle.rinqebo_faults.proofs.paths.path_text.Given as goal

abbrev pub invariant-loop-step : goal.invariant-loop-step
invariant-loop-step l = string_bytes l.text ++ dotted (drop l.step-index l.rest) ≡ shown_path l.path
