-- The rules of profiles in a tree.
use Rattle.std.proofs.Common.{◌≡◌, ◌∙◌, List, Option, Some, ap, ℕ}
use Rattle.std.specs.Option.{option_and_then}
use Rattle.nextest_places.specs.Path.{item_at}
use Rattle.nextest_tree.specs.Node.{Node, as_array, member_of}
use Rattle.rinqebo_request.specs.Files.RuleTables.{profile_node, rule_node}

-- a list of a profile leads to a rule
pub rule_of : (profile list : List ℕ) (index : ℕ) (tree table rules : Node) → Some table ≡ profile_node profile tree → Some rules ≡ member_of list table
    → option_and_then (item_at index) (as_array rules) ≡ rule_node profile list index tree
rule_of profile list index tree table rules table_is rules_are =
    ap (λ (found : Option Node). option_and_then (item_at index) (option_and_then as_array found))
    (rules_are ∙ ap (option_and_then (member_of list)) table_is)
