use Rattle.std.proofs.Common.{◌≡◌, ◌||◌, ℕ, List, map}
use Rattle.std.specs.BTreeSet.{contains_text}
use Rattle.nextest_tree.specs.Schema.{is_one_of}
use Rattle.nextest_rules.proofs.names.add_names.Given as goal

-- the names so far, with those of the keys that are left
abbrev pub invariant-loop-key : goal.invariant-loop-key
invariant-loop-key g l = (q : List ℕ)
    → (contains_text l.names q || is_one_of (map (λ e. g.K.NameKey.text e.0) l.key-iterator) q)
    ≡ (contains_text l.initial.names q || is_one_of (map (λ e. g.K.NameKey.text e.0) l.table.entries) q)
