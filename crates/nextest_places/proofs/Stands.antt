-- What is in the data of a document.
use Rattle.std.proofs.Common.{◌≡◌, true, List, [], ◌∷◌, Option, Some, is_some, option_and_then}
use Rattle.toml.specs.Data.{Data, at, get}
use Rattle.nextest_places.specs.declared.step.Step.{Step}
use Rattle.nextest_places.specs.declared.step.Step.TheVariants.{Key, Position}

-- the value that a step leads to
abbrev pub step_in : Step → Data → Option Data
step_in (Key k) d = get k.now d
step_in (Position i) d = at i d

-- the value at a path
abbrev pub value_at : List Step → Data → Option Data
value_at [] d = Some d
value_at (step ∷ path) d = option_and_then (value_at path) (step_in step d)

-- each path of the first leads to something in the second
abbrev pub Grows : Data → Data → Type 0
Grows d e = (path : List Step) → is_some (value_at path d) ≡ true → is_some (value_at path e) ≡ true
