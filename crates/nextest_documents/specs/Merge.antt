-- A higher node laid over a lower one, and layers laid over one another.
use Rattle.std.specs.Prelude.{List, [], ◌∷◌}
use Rattle.std.specs.Option.{option_map_or}
use Rattle.nextest_tree.specs.Node.{Node, table, Entries, no_entries, entry, get, put}

abbrev mutual
  -- two tables unite; anything else that is higher replaces what is below
  pub over : Node → Node → Node
  over (table above) (table below) = table (entries_over above below)
  over above _ = above

  -- each higher entry goes to its key, laid over what the lower table has there
  pub entries_over : Entries → Entries → Entries
  entries_over no_entries below = below
  entries_over (entry k n es) below =
      put k (option_map_or (λ lower. over n lower) (get k below) n) (entries_over es below)

-- the layers, the lowest first, laid over a base in turn
abbrev pub merged : Node → List Node → Node
merged base [] = base
merged base (layer ∷ layers) = merged (over layer base) layers
