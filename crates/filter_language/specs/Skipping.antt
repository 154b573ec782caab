-- Operands that change nothing: two evaluations that agree, one of which leaves such operands out.
use Rattle.std.specs.Prelude.{◌≡◌, ◌⊎◌, Bool, true, false, List, [], ◌∷◌, Option, Some}
use Rattle.filter_language.specs.Evaluation.{Known, Stack, said}

-- Whether the sides left of an `or` are true together, or the operands since then false.
abbrev pub decide : Option Bool → Option Bool → Bool
decide (Some true) both = true
decide either (Some false) = true
decide either both = false

-- Whether no operand before the next `or` changes what a level says.
abbrev pub is_decided : Known → Bool
is_decided k = decide k.either k.both

-- Two levels are the same, or both are decided and say the same.
abbrev pub Alike : Known → Known → Type 0
Alike k l =
    (k ≡ l) ⊎ ((is_decided k ≡ true) × (is_decided l ≡ true) × (said k ≡ said l))

-- Of two levels and those around them, each two are alike, or the first is within one that is decided.
abbrev pub AgreeFrom : Known → List Known → Known → List Known → Type 0
AgreeFrom k [] l [] = Alike k l
AgreeFrom k (around ∷ outer) l (also ∷ others) =
    (Alike k l ⊎ (is_decided around ≡ true)) × AgreeFrom around outer also others
AgreeFrom k [] l (also ∷ others) = ⊥
AgreeFrom k (around ∷ outer) l [] = ⊥

-- Two stacks agree.
abbrev pub Agree : Stack → Stack → Type 0
Agree s t = AgreeFrom s.inner s.outer t.inner t.outer
