use Rattle.std.proofs.Common.{◌≡◌, ◌++◌, drop, map, string_bytes}
use Rattle.rinqebo_faults.specs.Words.{backquoted}
use Rattle.rinqebo_faults.proofs.expected.add_known.Given as goal

abbrev pub invariant-loop-word : goal.invariant-loop-word
invariant-loop-word l =
    map string_bytes l.words.items
    ++ map backquoted (map (λ word. word.now) (drop l.word-index l.known))
    ≡ map string_bytes l.initial.words.items ++ map backquoted (map (λ word. word.now) l.known)
