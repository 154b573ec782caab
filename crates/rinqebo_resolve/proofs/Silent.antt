-- Endings beside which a caller receives nothing.
use Rattle.std.proofs.Common.{◌≡◌, ◌∙◌, ◌⊎◌, ◌<◌, ◌≤◌, ◌++◌, inl, inr, ℕ, List, [], ap, arith, drop, length, refl, subst}
use Rattle.std.proofs.lemmas.Bool.{cases_lt}
use Rattle.rinqebo_resolve.specs.Endings.{IsReported, IsSilent, ending_status, ending_text}
use Rattle.rinqebo_resolve.specs.declared.ending.Ending.{Ending}
use Rattle.rinqebo_resolve.specs.declared.ending.Ending.TheVariants as ends

-- an ending with a status beside which nothing is reported has no text
silent_text : (ending : Ending) → IsSilent (ending_status ending) → ending_text ending ≡ []
silent_text (ends.Answered text) (inl is) = absurd (omega arith)
silent_text (ends.Answered text) (inr (inl is)) = absurd (omega arith)
silent_text (ends.Answered text) (inr (inr is)) = absurd (omega arith)
silent_text (ends.Refused text) (inl is) = absurd (omega arith)
silent_text (ends.Refused text) (inr (inl is)) = absurd (omega arith)
silent_text (ends.Refused text) (inr (inr is)) = absurd (omega arith)
silent_text (ends.NoProfile text) (inl is) = absurd (omega arith)
silent_text (ends.NoProfile text) (inr (inl is)) = absurd (omega arith)
silent_text (ends.NoProfile text) (inr (inr is)) = absurd (omega arith)
silent_text (ends.NoEngines reason) (inl is) = absurd (omega arith)
silent_text (ends.NoEngines reason) (inr (inl is)) = absurd (omega arith)
silent_text (ends.NoEngines reason) (inr (inr is)) = absurd (omega arith)
silent_text (ends.NotUnderstood reason) (inl is) = absurd (omega arith)
silent_text (ends.NotUnderstood reason) (inr (inl is)) = absurd (omega arith)
silent_text (ends.NotUnderstood reason) (inr (inr is)) = absurd (omega arith)
silent_text ends.NotText is = refl
silent_text ends.Memory is = refl

kept_in : (ending : Ending) (old new : List ℕ) (needed status : ℕ) → IsReported ending old new needed status
    → (length old < length (ending_text ending)) ⊎ (length (ending_text ending) ≤ length old) → IsSilent status
    → new ≡ old
kept_in ending old new needed status reported (inl less) silent = (reported.small less).1
kept_in ending old new needed status reported (inr room) silent =
    let written = reported.written room in
    let none = silent_text ending (subst IsSilent written.0 silent) in
    written.1 ∙ ap (λ text. text ++ drop (length text) old) none

-- where the status says that the caller receives nothing, the buffer is as it was
pub reported_kept : (ending : Ending) (old new : List ℕ) (needed status : ℕ) → IsReported ending old new needed status
    → IsSilent status → new ≡ old
reported_kept ending old new needed status reported =
    kept_in ending old new needed status reported (cases_lt (length old) (length (ending_text ending)))
