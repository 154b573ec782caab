use Rattle.std.proofs.Common.{◌≡◌, [], map, string_bytes}
use Rattle.std.specs.Prelude.{fold}
use Rattle.rinqebo_faults.specs.TomlLines.{with_line}
use Rattle.rinqebo_faults.proofs.toml_lines.on_one_line.Given as goal

abbrev pub invariant-loop-line : goal.invariant-loop-line
invariant-loop-line l =
    string_bytes l.joined ≡ fold with_line [] (map (λ line. line.now) l.yielded)
