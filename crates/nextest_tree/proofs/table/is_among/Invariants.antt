use Rattle.std.proofs.Common.{◌≡◌, drop, map}
use Rattle.nextest_tree.specs.Schema.{is_one_of}
use Rattle.nextest_tree.specs.Key.{key_text}
use Rattle.nextest_tree.proofs.table.is_among.Given as goal

abbrev pub invariant-loop-name : goal.invariant-loop-name
invariant-loop-name l = is_one_of (map key_text (drop l.name-index l.names)) l.key
    ≡ is_one_of (map key_text l.names) l.key
