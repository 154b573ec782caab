-- Values beside the texts that spell them.
use Rattle.std.specs.Prelude.{ℕ, List, map}

-- each value after the text that spells it
abbrev pub spellings : {X : Type 0} → (X → List ℕ) → List X → List (List ℕ × X)
spellings text xs = map (λ x. (text x, x)) xs
