-- Some findings of all.
use Rattle.std.proofs.Common.{List, [], ◌∷◌, inl, inr, refl}
use Rattle.rinqebo_report.specs.declared.finding.Finding.{Finding}
use Rattle.rinqebo_checks.specs.Rounds.{AreSome}

-- a finding before others is left out
pub some_without : (finding : Finding) (all some : List Finding) → AreSome all some
    → AreSome (finding ∷ all) some
some_without finding all [] are = are
some_without finding all (x ∷ some) are = inl are

-- a finding before others is one of some
pub some_with : (finding : Finding) (all some : List Finding) → AreSome all some
    → AreSome (finding ∷ all) (finding ∷ some)
some_with finding all some are = inr (refl, are)

-- none of some findings
pub none_chosen : (all : List Finding) → AreSome all []
none_chosen [] = tt
none_chosen (finding ∷ all) = none_chosen all
