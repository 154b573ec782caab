-- The names of the profiles of the files of a run.
use Rattle.std.specs.Prelude.{◌≡◌, ℕ, List, [], ◌∷◌, ◌++◌, flat_map, if◌then◌else◌}
use Rattle.std.specs.BTreeSet.{BTreeSet}
use Rattle.std.specs.Borrow.{Bor}
use Rattle.nextest_inheritance.specs.View.{has_name}
use Rattle.nextest_tree.specs.Node.{keys}
use Rattle.nextest_tree.specs.Schema.{is_one_of}
use Rattle.rinqebo_faults.specs.Given.{profiles_in}
use Rattle.rinqebo_faults.specs.Hints.{texts}
use Rattle.rinqebo_faults.specs.Repairs.{entries_or_none}
use Rattle.rinqebo_request.specs.Files.Layers.{layer_tree}
use Rattle.rinqebo_request.specs.declared.files.layers.Layer.{Layer}

-- the names of the profiles of a layer, in the order of their bytes
abbrev pub names_in : Layer → List (List ℕ)
names_in layer = keys (entries_or_none (profiles_in (layer_tree layer)))

-- a name, unless it is an earlier one
abbrev pub unless_earlier : (earlier : List (List ℕ)) → (name : List ℕ) → List (List ℕ)
unless_earlier earlier name = if is_one_of earlier name then [] else name ∷ []

-- each of some names that is none of those before it, behind earlier ones
abbrev pub new_names : (earlier names : List (List ℕ)) → List (List ℕ)
new_names earlier [] = []
new_names earlier (name ∷ names) =
    unless_earlier earlier name ++ new_names (earlier ++ name ∷ []) names

-- The names of the profiles of all layers, each once: where it first is. The faults of errors of
-- parents are `parent_faults (profile_names layers) errors`.
abbrev pub profile_names : List Layer → List (List ℕ)
profile_names layers = new_names [] (flat_map names_in layers)

-- Of names that came, a set has all, and others are those that are new.
pub record AreNew (came : List (List ℕ)) (seen : BTreeSet (Bor (List ℕ)))
    (names : List (Bor (List ℕ))) : Type 0 where
  pub has : (name : List ℕ) → has_name seen name ≡ is_one_of came name
  pub are : texts names ≡ new_names [] came
