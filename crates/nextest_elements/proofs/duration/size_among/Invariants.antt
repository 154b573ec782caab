use Rattle.std.proofs.Common.{◌≡◌, drop}
use Rattle.std.specs.Map.{lookup}
use Rattle.std.specs.Str.{bytes_eq}
use Rattle.nextest_tree.specs.Leaf.{name_pairs}
use Rattle.nextest_elements.proofs.duration.size_among.Given as goal

-- none of the names so far is the name
abbrev pub invariant-loop-unit : goal.invariant-loop-unit
invariant-loop-unit l = lookup (λ unit. bytes_eq unit l.name) (name_pairs (drop l.unit-index l.units))
    ≡ lookup (λ unit. bytes_eq unit l.name) (name_pairs l.units)
