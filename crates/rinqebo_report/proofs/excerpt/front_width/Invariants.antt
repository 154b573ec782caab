use Rattle.std.proofs.Common.{◌≡◌, flat_map, string_bytes}
use Rattle.rinqebo_report.specs.Excerpts.{line_char}
use Rattle.rinqebo_report.proofs.excerpt.front_width.Given as goal

abbrev pub invariant-loop-c : goal.invariant-loop-c
invariant-loop-c l = string_bytes l.front ≡ flat_map line_char l.yielded
