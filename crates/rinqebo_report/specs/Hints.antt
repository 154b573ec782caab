-- Hints: which known name a wrong one most likely means.
use Rattle.std.specs.Prelude.{◌≡◌, ◌≤◌, ◌/◌, ℕ, max, Bool, false, List, length, map, Option, None, Some, All, Contains, nat_eq, if◌then◌else◌}
use Rattle.std.specs.Borrow.{Bor}
use Rattle.std.specs.Cmp.Lexicographic.{slice_cmp}
use Rattle.std.specs.declared.cmp.Ordering.{Ordering}
use Rattle.std.specs.Ordering.{is_gt, is_lt, nat_cmp, ordering_then}
use Rattle.std.specs.Str.{chars}
use Rattle.strsim.specs.Edits.{levenshtein_row}
use Rattle.rinqebo_report.specs.declared.hint.Candidate.{Candidate}

-- how many edits lead from a name to another
abbrev pub distance : List ℕ → List ℕ → ℕ
distance name other = levenshtein_row nat_eq (chars name) (chars other) (length (chars other))

-- how many edits may lead to a hint: a third of the characters, and one at least
abbrev pub reach : List ℕ → ℕ
reach name = max 1 (length (chars name) / 3)

-- names by their distance from a name, and then by their bytes
abbrev pub by_distance : List ℕ → List ℕ → List ℕ → Ordering
by_distance name one other =
    ordering_then (nat_cmp (distance name one) (distance name other)) (slice_cmp nat_cmp one other)

-- A known name is near, and no known name comes before it.
pub record IsNearest (name : List ℕ) (known : List (Bor (List ℕ))) (nearest : List ℕ) : Type 0 where
  pub is_known : Contains (map (λ other. other.now) known) nearest
  pub near : distance name nearest ≤ reach name
  pub first : All (λ other. is_gt (by_distance name nearest other.now) ≡ false) known

-- a candidate comes before another: by the distance, and then by the bytes
abbrev pub comes_before : Candidate → Candidate → Bool
comes_before one other =
    is_lt (ordering_then (nat_cmp one.distance other.distance)
    (slice_cmp nat_cmp one.name.now other.name.now))

-- the one of two candidates that comes first
abbrev pub first_of : Option Candidate → Candidate → Candidate
first_of None other = other
first_of (Some best) other = if comes_before other best then other else best
