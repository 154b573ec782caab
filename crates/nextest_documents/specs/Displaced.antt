-- What a higher node displaces where it is laid upon a lower one.
use Rattle.std.specs.Prelude.{ℕ, List}
use Rattle.std.specs.Option.{option_map_or}
use Rattle.nextest_tree.specs.Node.{Node, table, Entries, no_entries, entry, get}

mutual
  -- a node, nothing, or, where two tables united, what each key of the higher one displaced
  pub data Under : Type 0 where
    replaced : Node → Under
    added : Under
    within : Unders → Under

  -- keys, and what each of them displaced
  pub data Unders : Type 0 where
    no_unders : Unders
    under : List ℕ → Under → Unders → Unders

abbrev mutual
  -- two tables unite; anything else that is higher displaces all that is below
  pub displaced_by : Node → Node → Under
  displaced_by (table above) (table below) = within (entries_displaced_by above below)
  displaced_by above below = replaced below

  -- each higher entry displaces what the lower table has at its key
  pub entries_displaced_by : Entries → Entries → Unders
  entries_displaced_by no_entries below = no_unders
  entries_displaced_by (entry k n es) below =
      under k (option_map_or (λ lower. displaced_by n lower) (get k below) added)
      (entries_displaced_by es below)
