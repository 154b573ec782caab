use Rattle.std.proofs.Common.{◌≡◌, ℕ, List, ◌++◌, length, map, string_bytes}
use Rattle.nextest_explain.specs.Taking.{IsLineOf}
use Rattle.nextest_explain.proofs.command.Line.read.Given as goal

-- the words so far are those of the line
abbrev pub invariant-loop-word : goal.invariant-loop-word
invariant-loop-word l =
    (done : List (List ℕ)) × (map string_bytes l.initial.rest ≡ done ++ map string_bytes l.rest)
    × IsLineOf done l.line

abbrev pub decreases-loop-word : goal.decreases-loop-word
decreases-loop-word l = length l.rest
