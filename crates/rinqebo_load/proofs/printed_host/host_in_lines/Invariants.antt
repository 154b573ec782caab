use Rattle.std.proofs.Common.{◌≡◌, [], filter_map, map, take}
use Rattle.rinqebo_load.specs.HostLines.{host_of_line}
use Rattle.rinqebo_load.proofs.printed_host.host_in_lines.Given as goal

-- no line so far has the host
abbrev pub invariant-loop-line : goal.invariant-loop-line
invariant-loop-line l = filter_map host_of_line (map (λ line. line.now) (take l.line-index l.lines)) ≡ []
