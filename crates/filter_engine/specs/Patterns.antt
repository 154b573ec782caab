-- Patterns that take what the parts of a glob take.
use Rattle.std.specs.Prelude.{◌≡◌, ℕ, ◌<◌, ◌≤◌, ◌+◌, ◌↔◌, Bool, true, not, if◌then◌else◌, List, [], ◌∷◌, ◌++◌, length, drop, All}
use Rattle.regex_class.specs.Ranges.{Range, in_ranges}
use Rattle.regex_hir.specs.Re.{Re}
use Rattle.regex_hir.specs.Matches.{Matches}
use Rattle.filter_engine.specs.Globs.{PartTakes}
use Rattle.filter_engine.specs.declared.glob.part.GlobPart.{GlobPart}

-- Between these places of the name are bytes of this kind.
abbrev pub StandsBetween : (List ℕ → Type 0) → List ℕ → ℕ → ℕ → Type 0
StandsBetween Kind name i j =
    (front : List ℕ) × (rest : List ℕ) × (drop i name ≡ front ++ rest) × (j ≡ i + length front)
    × Kind front

-- The pattern matches bytes of this kind and no others.
abbrev pub MatchesKind : (List ℕ → Type 0) → Re → Type 0
MatchesKind Kind re =
    (name : List ℕ) → All (λ byte. byte < 256) name → (i j : ℕ) → i ≤ length name
    → Matches name re i j ↔ StandsBetween Kind name i j

-- The pattern matches what the part takes.
abbrev pub Means : GlobPart → Re → Type 0
Means part re = MatchesKind (PartTakes part) re

-- The pattern matches one byte, which is in the ranges, or in none of them for a negated class.
abbrev pub MeansRanges : Bool → List Range → Re → Type 0
MeansRanges negated ranges re = MatchesKind
    (λ bytes. (byte : ℕ) × (bytes ≡ byte ∷ [])
    × ((if negated then not (in_ranges ranges byte) else in_ranges ranges byte) ≡ true))
    re
