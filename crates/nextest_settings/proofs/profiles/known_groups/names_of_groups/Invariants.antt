use Rattle.std.proofs.Common.{◌≡◌, ◌||◌, List, ℕ, map}
use Rattle.std.specs.BTreeSet.{contains_text}
use Rattle.nextest_elements.specs.TestGroup.{custom_group_text}
use Rattle.nextest_tree.specs.Schema.{is_one_of}
use Rattle.nextest_settings.proofs.profiles.known_groups.names_of_groups.Given as goal

-- the names so far, with those of the groups that are left
abbrev pub invariant-loop-group : goal.invariant-loop-group
invariant-loop-group l = (q : List ℕ)
    → (contains_text l.names q || is_one_of (map (λ e. custom_group_text e.0) l.group-iterator) q)
    ≡ is_one_of (map (λ e. custom_group_text e.0) l.groups.entries) q
