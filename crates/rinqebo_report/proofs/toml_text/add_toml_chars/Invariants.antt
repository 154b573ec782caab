use Rattle.std.proofs.Common.{◌≡◌, ◌++◌, flat_map, string_bytes}
use Rattle.rinqebo_report.specs.TomlText.{toml_char}
use Rattle.rinqebo_report.proofs.toml_text.add_toml_chars.Given as goal

abbrev pub invariant-loop-c : goal.invariant-loop-c
invariant-loop-c l =
    string_bytes l.out ≡ string_bytes l.initial.out ++ flat_map toml_char l.yielded
