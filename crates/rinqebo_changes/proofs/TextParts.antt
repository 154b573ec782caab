-- Texts that are written in parts.
use Rattle.std.proofs.Common.{◌≡◌, ◌∙◌, ◌++◌, ℕ, List, ap, append_assoc}

-- what was written in two parts
pub and_text : (a b old mid new : List ℕ) → mid ≡ old ++ a → new ≡ mid ++ b → new ≡ old ++ (a ++ b)
and_text a b old mid new h n = n ∙ ap (λ t. t ++ b) h ∙ append_assoc old a b
