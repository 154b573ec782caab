-- Findings of several things, one of each.
use Rattle.std.specs.Prelude.{List, [], ◌∷◌}
use Rattle.rinqebo_report.specs.declared.finding.Finding.{Finding}

-- findings are those of some things, one of each, in their order
abbrev pub AreOfEach : {X : Type 0} → (X → Finding → Type 0) → List X → List Finding → Type 0
AreOfEach IsOf [] [] = Unit {0}
AreOfEach IsOf [] (finding ∷ findings) = ⊥
AreOfEach IsOf (x ∷ xs) [] = ⊥
AreOfEach IsOf (x ∷ xs) (finding ∷ findings) = IsOf x finding × AreOfEach IsOf xs findings
