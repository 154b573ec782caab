-- The paths of items.
use Rattle.std.specs.Prelude.{◌≡◌, ◌≤◌, ◌⊎◌, ℕ, List, [], ◌∷◌, ◌++◌, length, map, take, slice_get, Option, Some, None, string_bytes}
use Rattle.nextest_places.specs.declared.step.Step.{Step}
use Rattle.nextest_places.specs.declared.step.Step.TheVariants as steps
use Rattle.nextest_places.specs.declared.spans.item.Item.{Item}
use Rattle.nextest_places.specs.declared.spans.item.Role.{Role}
use Rattle.nextest_places.specs.declared.spans.item.Role.TheVariants as role

-- a step of a path
pub data PathStep : Type 0 where
  key : List ℕ → PathStep
  position : ℕ → PathStep

abbrev pub path_step : Step → PathStep
path_step (steps.Key k) = key k.now
path_step (steps.Position i) = position i

-- the steps to an item from what it is inside: to a part of a key by its name, to an item of a list
-- by its position, and none to the value of a key
abbrev pub own_steps : Role → Option (List PathStep)
own_steps (role.Key None kind element) = None
own_steps (role.Key (Some name) kind element) = Some (key (string_bytes name) ∷ [])
own_steps (role.Value None container) = Some []
own_steps (role.Value (Some i) container) = Some (position i ∷ [])

-- the steps from there to what is inside the item, which may go on into an element
abbrev pub inner_steps : Role → Option (List PathStep)
inner_steps (role.Key None kind element) = None
inner_steps (role.Key (Some name) kind None) = Some (key (string_bytes name) ∷ [])
inner_steps (role.Key (Some name) kind (Some i)) =
    Some (key (string_bytes name) ∷ position i ∷ [])
inner_steps (role.Value None container) = Some []
inner_steps (role.Value (Some i) container) = Some (position i ∷ [])

-- these steps end a path, and so many are before them
abbrev pub IsEndedBy : List Step → List PathStep → ℕ → Type 0
IsEndedBy path steps n =
    (n ≤ length path) × (map path_step path ≡ map path_step (take n path) ++ steps)

-- what is inside an item, or at the root, has this path before its own steps
pub data LeadsTo (items : List Item) : Option ℕ → List PathStep → Type 0 where
  at_root : LeadsTo items None []
  through : {path : List PathStep} (i : ℕ) (item : Item) (steps : List PathStep)
      → slice_get items i ≡ Some item → LeadsTo items item.parent path
      → inner_steps item.role ≡ Some steps → LeadsTo items (Some i) (path ++ steps)

-- An item is at a path: its own steps end the path, or those to an element that its header begins.
pub record IsAtPath (items : List Item) (item : Item) (path : List PathStep) : Type 0 where
  pub base : List PathStep
  pub steps : List PathStep
  pub leads : LeadsTo items item.parent base
  pub ends : (own_steps item.role ≡ Some steps) ⊎ (inner_steps item.role ≡ Some steps)
  pub whole : path ≡ base ++ steps
