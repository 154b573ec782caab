-- Lists of those elements of which something holds.
use Rattle.std.specs.Prelude.{List, [], ◌∷◌}

-- The second list has exactly those elements of the first of which P holds, in their order.
pub data IsSelection {X : Type 0} (P : X → Type 0) : List X → List X → Type 0 where
  nothing : IsSelection P [] []
  taken : (x : X) (xs ys : List X) → P x → IsSelection P xs ys → IsSelection P (x ∷ xs) (x ∷ ys)
  left_out : (x : X) (xs ys : List X) → ¬ P x → IsSelection P xs ys → IsSelection P (x ∷ xs) ys
