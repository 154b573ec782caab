use Rattle.std.proofs.Common.{◌≡◌, ◌||◌, ℕ, List}
use Rattle.std.specs.BTreeSet.{contains_text}
use Rattle.nextest_rules.proofs.Naming.{is_text_of}
use Rattle.nextest_rules.proofs.names.copy_names.Given as goal

-- the names so far, with those that are left
abbrev pub invariant-loop-name : goal.invariant-loop-name
invariant-loop-name l = (q : List ℕ)
    → (contains_text l.names q || is_text_of l.name-iterator q)
    ≡ (contains_text l.initial.names q || contains_text l.others q)
