-- Faults of names whose definitions may be left out.
use Rattle.std.proofs.Common.{◌≡◌, [], ◌∷◌, List, ℕ, true, false, refl}
use Rattle.rinqebo_faults.specs.Edits.{may_be, NamesView}
use Rattle.rinqebo_findings.specs.Later.{LaterFault, unless_left_out}

-- a name that may be left out
pub left_out : (names : NamesView) (name : List ℕ) (fault : LaterFault) → may_be names name ≡ true
    → [] ≡ unless_left_out names name fault
left_out names name fault is = rw is refl

-- a name that is not left out
pub kept : (names : NamesView) (name : List ℕ) (fault : LaterFault) → may_be names name ≡ false
    → fault ∷ [] ≡ unless_left_out names name fault
kept names name fault is = rw is refl
