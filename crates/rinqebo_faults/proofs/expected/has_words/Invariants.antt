use Rattle.std.proofs.Common.{◌≡◌, drop, map, string_bytes}
use Rattle.nextest_tree.specs.Schema.{is_one_of}
use Rattle.rinqebo_faults.proofs.expected.has_words.Given as goal

abbrev pub invariant-loop-other : goal.invariant-loop-other
invariant-loop-other l =
    is_one_of (map string_bytes (drop l.other-index l.others)) l.text
    ≡ is_one_of (map string_bytes l.others) l.text
