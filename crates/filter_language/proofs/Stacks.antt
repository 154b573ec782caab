-- Levels in memory, the outermost first, and levels on a stack, the innermost first.
use Rattle.std.proofs.Common.{◌≡◌, ◌+◌, List, [], ◌∷◌, ◌++◌, length, refl, ◌∙◌, ap, arith}
use Rattle.std.specs.List.{fold}
use Rattle.filter_language.specs.declared.evaluation.Level as level
use Rattle.filter_language.specs.Evaluation.{Known, known_view}

length_onto : (ks : List level.Level) (outer : List Known)
    → length (fold (λ outer k. known_view k ∷ outer) outer ks) ≡ length ks + length outer
length_onto [] outer = omega arith
length_onto (k ∷ ks) outer = let it = length_onto ks (known_view k ∷ outer) in omega (arith, it)

-- There are as many levels on the stack as in memory.
pub stack_length : (ks : List level.Level) → length (fold (λ outer k. known_view k ∷ outer) [] ks) ≡ length ks
stack_length ks = let it = length_onto ks [] in omega (arith, it)

-- One more level in memory is one more on the stack.
push_onto : (ks : List level.Level) (k : level.Level) (outer : List Known)
    → fold (λ outer k. known_view k ∷ outer) outer (ks ++ k ∷ []) ≡ known_view k
    ∷ fold (λ outer k. known_view k ∷ outer) outer ks
push_onto [] k outer = refl
push_onto (j ∷ ks) k outer = push_onto ks k (known_view j ∷ outer)

pub pushed : (ks more : List level.Level) (k : level.Level) → more ≡ ks ++ k ∷ []
    → fold (λ outer k. known_view k ∷ outer) [] more ≡ known_view k ∷ fold (λ outer k. known_view k ∷ outer) [] ks
pushed ks more k is = ap (fold (λ outer k. known_view k ∷ outer) []) is ∙ push_onto ks k []
