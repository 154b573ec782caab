-- The functions that are open.
use Rattle.std.proofs.Common.{◌≡◌, ◌+◌, List, [], ◌∷◌, length, ◌∙◌, arith}
use Rattle.std.specs.List.{fold}
use Rattle.platform_language.specs.declared.reading.Level as level
use Rattle.platform_language.specs.Reading.{Level, level_view, levels_view}

onto : (outer : List Level) (levels : List level.Level)
    → length (fold (λ around l. level_view l ∷ around) outer levels) ≡ length levels + length outer
onto outer [] = omega arith
onto outer (l ∷ levels) =
    let known : length (fold (λ around l. level_view l ∷ around) (level_view l ∷ outer) levels)
    ≡ length levels + length (level_view l ∷ outer) = onto (level_view l ∷ outer) levels in
    known ∙ omega arith

-- There are as many as in memory.
pub levels_len : (levels : List level.Level) → length (levels_view levels) ≡ length levels
levels_len levels = onto [] levels ∙ omega arith
