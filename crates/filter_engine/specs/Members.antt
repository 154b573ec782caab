-- The members of a workspace that dependencies reach, each decided by the graph alone.
use Rattle.std.specs.Prelude.{ℕ, ◌==◌, Bool, false, ◌&&◌, ◌||◌, List, [], ◌∷◌, Option, None, Some}
use Rattle.std.specs.List.{list_any, slice_get}
use Rattle.std.specs.Str.{bytes_eq}
use Rattle.filter_inputs.specs.declared.packages.edges.Edge.{Edge}
use Rattle.filter_inputs.specs.Packages.Graph.{Graph}

-- Whether one place is another, or is reached from it over the first edge or the others.
abbrev pub reaches : List Edge → ℕ → ℕ → Bool
reaches [] a b = a == b
reaches (e ∷ edges) a b = reaches edges a b || (reaches edges a e.from && reaches edges e.to b)

-- Whether a name is there and has something.
abbrev pub name_has : (List ℕ → Bool) → Option (List ℕ) → Bool
name_has accepts None = false
name_has accepts (Some name) = accepts name

-- Whether the package at a place has a name that has something.
abbrev pub is_named : Graph → (List ℕ → Bool) → ℕ → Bool
is_named graph accepts place = name_has accepts (slice_get graph.names place)

-- Whether a member with an accepted name reaches a member of this name.
abbrev pub is_dependency : Graph → (List ℕ → Bool) → List ℕ → Bool
is_dependency graph accepts name =
    list_any
    (λ a. is_named graph accepts a
    && list_any
    (λ b. is_named graph (λ other. bytes_eq other name) b && reaches graph.edges a b)
    graph.members)
    graph.members

-- Whether a member of this name reaches a member with an accepted name.
abbrev pub is_dependent : Graph → (List ℕ → Bool) → List ℕ → Bool
is_dependent graph accepts name =
    list_any
    (λ a. is_named graph accepts a
    && list_any
    (λ b. is_named graph (λ other. bytes_eq other name) b && reaches graph.edges b a)
    graph.members)
    graph.members
