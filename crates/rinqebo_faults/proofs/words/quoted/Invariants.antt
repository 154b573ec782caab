use Rattle.std.proofs.Common.{◌≡◌, ◌++◌, drop, map, string_bytes}
use Rattle.rinqebo_faults.specs.Words.{backquoted}
use Rattle.rinqebo_faults.proofs.words.quoted.Given as goal

abbrev pub invariant-loop-word : goal.invariant-loop-word
invariant-loop-word l =
    map string_bytes l.texts.items
    ++ map backquoted (map (λ word. word.now) (drop l.word-index l.words))
    ≡ map backquoted (map (λ word. word.now) l.words)
