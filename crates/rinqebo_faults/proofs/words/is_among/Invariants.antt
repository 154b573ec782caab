use Rattle.std.proofs.Common.{◌≡◌, drop, map}
use Rattle.nextest_tree.specs.Schema.{is_one_of}
use Rattle.rinqebo_faults.proofs.words.is_among.Given as goal

abbrev pub invariant-loop-other : goal.invariant-loop-other
invariant-loop-other l =
    is_one_of (map (λ word. word.now) (drop l.other-index l.words)) l.word
    ≡ is_one_of (map (λ word. word.now) l.words) l.word
