use Rattle.std.proofs.Common.{◌≡◌, drop, map}
use Rattle.nextest_tree.specs.Schema.{is_one_of}
use Rattle.nextest_shape.proofs.faults.values.is_one_of.Given as goal

abbrev pub invariant-loop-word : goal.invariant-loop-word
invariant-loop-word l =
    is_one_of (map (λ word. word.now) (drop l.word-index l.words)) l.text
    ≡ is_one_of (map (λ word. word.now) l.words) l.text
