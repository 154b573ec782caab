use Rattle.std.proofs.Common.{◌≡◌, map, filter, not, string_bytes}
use Rattle.nextest_tree.specs.Key.{key_text}
use Rattle.nextest_tree.specs.Schema.{first, others, is_one_of}
use Rattle.nextest_tree.specs.View.{entries_view}
use Rattle.nextest_tree.proofs.table.first_other.Given as goal

-- no key so far is another
abbrev pub invariant-loop-key : goal.invariant-loop-key
invariant-loop-key l = first
    (filter (λ k. not (is_one_of (map key_text l.names) k)) (map string_bytes l.key-iterator))
    ≡ first (others l.names (entries_view l.members.entries))
