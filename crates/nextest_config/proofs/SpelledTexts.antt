-- Texts that are written in another grouping of their parts.
use Rattle.std.proofs.Common.{◌≡◌, ◌∙◌, ◌++◌, append_assoc, ℕ, List, Result, Ok, Err, IfOk, String, string_bytes}
use Rattle.std.specs.declared.alloc.Global.{Global}

-- a text is what was written, and so what that is equal to
pub spelled_as : {E : Type 0} (r : Result (String Global) E) (written text : List ℕ) → written ≡ text
    → IfOk r (λ s. string_bytes s ≡ written) → IfOk r (λ s. string_bytes s ≡ text)
spelled_as (Ok s) written text same is = is ∙ same
spelled_as (Err e) written text same is = tt

-- six parts in a row
pub six_parts : (a b c d e f : List ℕ) → a ++ (b ++ (c ++ (d ++ (e ++ f)))) ≡ a ++ b ++ c ++ d ++ e ++ f
six_parts a b c d e f = simp append_assoc

-- eight parts in a row
pub eight_parts : (a b c d e f g h : List ℕ)
    → a ++ (b ++ (c ++ (d ++ (e ++ (f ++ (g ++ h)))))) ≡ a ++ b ++ c ++ d ++ e ++ f ++ g ++ h
eight_parts a b c d e f g h = simp append_assoc
