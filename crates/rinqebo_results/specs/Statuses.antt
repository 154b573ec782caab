-- The exit statuses of a run.
use Rattle.std.specs.Prelude.{ℕ, ◌≡◌, ◌⊎◌, ◌≤◌}
use Rattle.rinqebo_request.specs.declared.files.gathering.GatherFault.{GatherFault}
use Rattle.rinqebo_request.specs.declared.files.gathering.GatherFault.TheVariants as gathering
use Rattle.rinqebo_load.specs.declared.failure.Failure.{Failure}
use Rattle.rinqebo_load.specs.declared.failure.Failure.TheVariants as failures
use Rattle.rinqebo_request.specs.declared.request.Question.{Question}
use Rattle.rinqebo_request.specs.declared.request.Question.TheVariants as questions
use Rattle.rinqebo_request.specs.declared.words.ParseStop.{ParseStop}
use Rattle.rinqebo_request.specs.declared.words.ParseStop.TheVariants as stops

-- the exit status of a run that has no result
abbrev pub failure_status : Failure → ℕ
failure_status (failures.Engines fault) = 2
failure_status (failures.Refused report) = 3
failure_status (failures.NoProfile report) = 4
failure_status (failures.NoTest report) = 4
failure_status (failures.SeveralTests report) = 2
failure_status failures.Memory = 5

-- The exit status of a result: 0, of leaves also 1 where there are none, and of a check also 1 for
-- warnings that the user denies, and 3 for files that are refused.
abbrev pub IsAnswerStatus : Question → ℕ → Type 0
IsAnswerStatus (questions.Explain profile test asked) n = n ≡ 0
IsAnswerStatus (questions.Why profile test setting) n = n ≡ 0
IsAnswerStatus (questions.WhyRuns profile test) n = n ≡ 0
IsAnswerStatus (questions.List profile mode list asked) n = n ≡ 0
IsAnswerStatus (questions.ShowConfig profile keys with_hidden) n = (n ≡ 0) ⊎ (n ≡ 1)
IsAnswerStatus (questions.Check deny_warnings) n = (n ≡ 0) ⊎ (n ≡ 1) ⊎ (n ≡ 3)

-- The exit status of a run of a request: that of a result, 0, or 1 for warnings that the user
-- denies and where no leaf is found; or 2 for a list of tests, platforms or metadata that are not
-- understood, or several tests of the name, 3 where files are refused, 4 where there is no such
-- profile or test, 5 if memory ran out, and 6 where a write failed.
abbrev pub IsStatus : Question → ℕ → Type 0
IsStatus question n = IsAnswerStatus question n ⊎ ((2 ≤ n) × (n ≤ 6))

-- the exit status where the files of a request were not read
abbrev pub IsGatherStatus : GatherFault → ℕ → Type 0
IsGatherStatus gathering.Memory n = (n ≡ 5) ⊎ (n ≡ 6)
IsGatherStatus fault n = (n ≡ 2) ⊎ (n ≡ 5) ⊎ (n ≡ 6)

-- the exit status where words are not a request
abbrev pub IsWordsStatus : ParseStop → ℕ → Type 0
IsWordsStatus (stops.Help text) n = (n ≡ 0) ⊎ (n ≡ 6)
IsWordsStatus (stops.Usage text) n = (n ≡ 2) ⊎ (n ≡ 6)
IsWordsStatus stops.Memory n = (n ≡ 5) ⊎ (n ≡ 6)
