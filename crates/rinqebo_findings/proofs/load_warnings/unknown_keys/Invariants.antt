use Rattle.std.proofs.Common.{map, take, string_bytes}
use Rattle.rinqebo_findings.specs.Each.{AreOfEach}
use Rattle.rinqebo_findings.specs.Warnings.{WarnsOfKey}
use Rattle.rinqebo_findings.proofs.load_warnings.unknown_keys.Given as goal

-- the findings of the keys so far
abbrev pub invariant-loop-path : goal.invariant-loop-path
invariant-loop-path l =
    AreOfEach (λ key. WarnsOfKey l.source.layers.now l.source.position)
    (map string_bytes (take l.path-index l.paths)) l.findings.items
