use Rattle.std.proofs.Common.{◌≡◌, ◌++◌, flat_map, string_bytes}
use Rattle.rinqebo_report.specs.Github.{message_char}
use Rattle.rinqebo_report.proofs.github.add_message.Given as goal

abbrev pub invariant-loop-c : goal.invariant-loop-c
invariant-loop-c l =
    string_bytes l.out ≡ string_bytes l.initial.out ++ flat_map message_char l.yielded
