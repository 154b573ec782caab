use Rattle.std.proofs.Common.{◌≡◌, ◌++◌, drop, map, string_bytes}
use Rattle.rinqebo_faults.specs.Words.{listed, listed_behind}
use Rattle.rinqebo_faults.proofs.words.listed.Given as goal

abbrev pub invariant-loop-i : goal.invariant-loop-i
invariant-loop-i l =
    string_bytes l.text ++ listed_behind l.last (map string_bytes (drop l.i l.rest))
    ≡ listed l.last (map string_bytes l.items)
