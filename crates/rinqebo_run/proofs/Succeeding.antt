-- The exit status of success.
use Rattle.std.specs.Prelude.{◌≡◌, ◌⊎◌}
use Rattle.std.proofs.Common.{inl, refl}
use Rattle.rinqebo_request.specs.declared.request.Question.{Question}
use Rattle.rinqebo_request.specs.declared.request.Question.TheVariants as questions
use Rattle.rinqebo_results.specs.Statuses.{IsAnswerStatus, IsStatus}

answered : (q : Question) → IsAnswerStatus q 0
answered (questions.Explain profile test asked) = refl
answered (questions.Why profile test setting) = refl
answered (questions.WhyRuns profile test) = refl
answered (questions.List profile mode list asked) = refl
answered (questions.ShowConfig profile keys with_hidden) = inl refl
answered (questions.Check deny_warnings) = inl refl

-- a result of any question may end with 0
pub success_status : (q : Question) → IsStatus q 0
success_status q = inl (answered q)
