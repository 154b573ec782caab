-- Texts with a separator between each two.
use Rattle.std.specs.Prelude.{ℕ, List, [], ◌∷◌, ◌++◌, flat_map}

-- texts with a separator between each two
abbrev pub joined : {X : Type 0} → List ℕ → (X → List ℕ) → List X → List ℕ
joined separator f [] = []
joined separator f (x ∷ xs) = f x ++ flat_map (λ y. separator ++ f y) xs

-- what is between these and one more
abbrev pub separator_after : {X : Type 0} → List ℕ → List X → List ℕ
separator_after separator [] = []
separator_after separator (x ∷ xs) = separator
