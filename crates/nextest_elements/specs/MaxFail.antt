-- After how many failures a run ends.
use Rattle.std.specs.Prelude.{◌≡◌, ℕ, List, [], ◌∷◌, Some, None, Result, Ok, Err, codes, if◌then◌else◌}
use Rattle.nextest_tree.specs.declared.key.Key.TheVariants as fail_keys
use Rattle.nextest_elements.specs.declared.max_fail.MaxFail.{MaxFail}
use Rattle.nextest_elements.specs.declared.max_fail.MaxFail.TheVariants as limits
use Rattle.nextest_tree.specs.Key.{key_text}
use Rattle.nextest_tree.specs.Node.{Node, table, int, bool, Entries, get}
use Rattle.nextest_tree.specs.Schema.{FaultCause, Schema, any, fields, are_noted, Fields, may, must, no_more}
use Rattle.nextest_tree.specs.Leaf.{value, Spells, name_at, a_bool}
use Rattle.nextest_tree.specs.Reads.{IsOptional}
use Rattle.nextest_elements.specs.Positive.{positive_at}

-- the one name of a table's `max-fail`
unfoldable pub limit_names : List (List ℕ × MaxFail)
limit_names = (codes "all", limits.All) ∷ []

-- what a refusal says was expected
unfoldable pub limit_expected : List ℕ
limit_expected = codes "a positive number, `all`"

-- so many failures, if they are a number
abbrev pub limited : Result ℕ FaultCause → Result MaxFail FaultCause
limited (Ok n) = Ok (limits.Count n)
limited (Err c) = Err c

-- a table's `max-fail`, as a node spells it
abbrev pub limit_at : Node → Result MaxFail FaultCause
limit_at (int z) = limited (positive_at (int z))
limit_at n = name_at limit_names limit_expected n

-- a positive number, or the one name
unfoldable pub a_limit : Schema
a_limit = value limit_at

-- the fields of a table: how a run is ended is not looked at
abbrev pub max_fail_fields : Fields
max_fail_fields = must fail_keys.MaxFail a_limit (may fail_keys.Terminate any no_more)

-- a truth value, or a table
unfoldable pub a_max_fail : Schema
a_max_fail = fields are_noted a_bool max_fail_fields (λ es. None)

-- a table says what its `max-fail` says
abbrev pub IsMaxFailTable : Entries → MaxFail → Type 0
IsMaxFailTable es limit =
    IsOptional (Spells limit_at) (get (key_text fail_keys.MaxFail) es) (Some limit)

-- true means one failure and false means all tests
abbrev pub IsMaxFail : Node → MaxFail → Type 0
IsMaxFail (bool b) limit = limit ≡ (if b then limits.Count 1 else limits.All)
IsMaxFail (table es) limit = IsMaxFailTable es limit
IsMaxFail _ limit = ⊥
