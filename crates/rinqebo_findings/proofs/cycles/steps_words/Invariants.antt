use Rattle.std.proofs.Common.{map, string_bytes, take}
use Rattle.rinqebo_findings.specs.LaterWords.{AreCycleSteps}
use Rattle.rinqebo_findings.proofs.cycles.steps_words.Given as goal

-- the words show the profiles so far
abbrev pub invariant-loop-name : goal.invariant-loop-name
invariant-loop-name l =
    AreCycleSteps l.refused.source.layers.now l.refused.source.position (map string_bytes (take l.name-index l.cycle))
    (string_bytes l.words)
