-- Exit statuses: those of answers, and those of failures.
use Rattle.std.proofs.Common.{◌≡◌, ◌≤◌, ◌⊎◌, inl, inr, ℕ, zero, suc, List, [], ◌∷◌, Option, Result, Ok, Err, IfOk, arith, refl, subst, sym}
use Rattle.std.specs.Io.KnownBytes.{Appends}
use Rattle.rinqebo_checks.specs.Reports.{IsReportOf}
use Rattle.rinqebo_report.specs.Rendered.{rendered}
use Rattle.rinqebo_report.specs.declared.report.Content.{Content}
use Rattle.rinqebo_report.specs.declared.report.Content.TheVariants as contents
use Rattle.rinqebo_report.specs.declared.report.Entry.{Entry}
use Rattle.rinqebo_report.specs.declared.report.Report.{Report}
use Rattle.rinqebo_results.specs.Answered.{AnswersQuestion, HasObjectsFor, IsAnswer, Reports}
use Rattle.rinqebo_load.specs.SessionOf.{IsSessionOf}
use Rattle.rinqebo_results.specs.LookedUp.{AreLookedUp}
use Rattle.rinqebo_results.specs.Refused.{Fails, IsFailureIn}
use Rattle.rinqebo_results.specs.ShownConfig.{entries_status, shown_status}
use Rattle.rinqebo_results.specs.Statuses.{IsAnswerStatus, IsStatus, failure_status}
use Rattle.rinqebo_results.specs.declared.answer.Answer.{Answer}
use Rattle.rinqebo_load.specs.declared.failure.Failure.{Failure}
use Rattle.rinqebo_load.specs.declared.failure.Failure.TheVariants as failures
use Rattle.rinqebo_request.specs.declared.files.gathering.Gathered.{Gathered}
use Rattle.rinqebo_request.specs.declared.request.Question.{Question}
use Rattle.rinqebo_request.specs.declared.request.Question.TheVariants as questions
use Rattle.rinqebo_request.specs.declared.request.Request.{Request}
use Rattle.rinqebo_load.specs.declared.session.Session.{Session}
use Rattle.rinqebo_results.specs.Warned.{ShowsWarningsIn}

-- a result is not a refusal of memory
no_five : (q : Question) → IsAnswerStatus q 5 → ⊥
no_five (questions.Explain profile test asked) is = omega arith
no_five (questions.Why profile test setting) is = omega arith
no_five (questions.WhyRuns profile test) is = omega arith
no_five (questions.List profile mode list asked) is = omega arith
no_five (questions.ShowConfig profile keys with_hidden) (inl is) = omega arith
no_five (questions.ShowConfig profile keys with_hidden) (inr is) = omega arith
no_five (questions.Check deny_warnings) (inl is) = omega arith
no_five (questions.Check deny_warnings) (inr (inl is)) = omega arith
no_five (questions.Check deny_warnings) (inr (inr is)) = omega arith

-- a result is not a write that failed
no_six : (q : Question) → IsAnswerStatus q 6 → ⊥
no_six (questions.Explain profile test asked) is = omega arith
no_six (questions.Why profile test setting) is = omega arith
no_six (questions.WhyRuns profile test) is = omega arith
no_six (questions.List profile mode list asked) is = omega arith
no_six (questions.ShowConfig profile keys with_hidden) (inl is) = omega arith
no_six (questions.ShowConfig profile keys with_hidden) (inr is) = omega arith
no_six (questions.Check deny_warnings) (inl is) = omega arith
no_six (questions.Check deny_warnings) (inr (inl is)) = omega arith
no_six (questions.Check deny_warnings) (inr (inr is)) = omega arith

-- a result is not a fault of engines
no_two : (q : Question) → IsAnswerStatus q 2 → ⊥
no_two (questions.Explain profile test asked) is = omega arith
no_two (questions.Why profile test setting) is = omega arith
no_two (questions.WhyRuns profile test) is = omega arith
no_two (questions.List profile mode list asked) is = omega arith
no_two (questions.ShowConfig profile keys with_hidden) (inl is) = omega arith
no_two (questions.ShowConfig profile keys with_hidden) (inr is) = omega arith
no_two (questions.Check deny_warnings) (inl is) = omega arith
no_two (questions.Check deny_warnings) (inr (inl is)) = omega arith
no_two (questions.Check deny_warnings) (inr (inr is)) = omega arith

-- a result is not a missing profile
no_four : (q : Question) → IsAnswerStatus q 4 → ⊥
no_four (questions.Explain profile test asked) is = omega arith
no_four (questions.Why profile test setting) is = omega arith
no_four (questions.WhyRuns profile test) is = omega arith
no_four (questions.List profile mode list asked) is = omega arith
no_four (questions.ShowConfig profile keys with_hidden) (inl is) = omega arith
no_four (questions.ShowConfig profile keys with_hidden) (inr is) = omega arith
no_four (questions.Check deny_warnings) (inl is) = omega arith
no_four (questions.Check deny_warnings) (inr (inl is)) = omega arith
no_four (questions.Check deny_warnings) (inr (inr is)) = omega arith

-- refused files are the answer of a check alone, which does not fail with them
no_three : (q : Question) (session : Session) (report : Report) → IsFailureIn session q (failures.Refused report)
    → IsAnswerStatus q 3 → ⊥
no_three (questions.Explain profile test asked) session report cause is = omega arith
no_three (questions.Why profile test setting) session report cause is = omega arith
no_three (questions.WhyRuns profile test) session report cause is = omega arith
no_three (questions.List profile mode list asked) session report cause is = omega arith
no_three (questions.ShowConfig profile keys with_hidden) session report cause (inl is) = omega arith
no_three (questions.ShowConfig profile keys with_hidden) session report cause (inr is) = omega arith
no_three (questions.Check deny_warnings) session report cause is =
    let no : failures.Refused report ≡ failures.Memory = cause in
    absurd (cc)

-- a failure is not a result
no_failure : (request : Request) (gathered : Gathered) (f : Failure) → Fails request gathered f
    → IsAnswerStatus request.question (failure_status f) → ⊥
no_failure request gathered (failures.Engines fault) fails is = no_two request.question is
no_failure request gathered (failures.Refused report) (inl begins) is = begins
no_failure request gathered (failures.Refused report) (inr fails) is =
    no_three request.question fails.session report fails.cause is
no_failure request gathered (failures.NoProfile report) fails is = no_four request.question is
no_failure request gathered (failures.NoTest report) fails is = no_four request.question is
no_failure request gathered (failures.SeveralTests report) fails is = no_two request.question is
no_failure request gathered failures.Memory fails is = no_five request.question is

-- the status of a run with an answer of status m
pub reported_same : (q : Question) (n m : ℕ) → (n ≡ m) ⊎ (n ≡ 5) ⊎ (n ≡ 6) → IsAnswerStatus q n → n ≡ m
reported_same q n m (inl same) is = same
reported_same q n m (inr (inl five)) is = absurd (no_five q (subst (IsAnswerStatus q) five is))
reported_same q n m (inr (inr six)) is = absurd (no_six q (subst (IsAnswerStatus q) six is))

-- a result is written whole
pub reported_page : (q : Question) (n : ℕ) {X : Type 0} → (n ≡ 5) ⊎ (n ≡ 6) ⊎ X → IsAnswerStatus q n → X
reported_page q n (inl five) is = absurd (no_five q (subst (IsAnswerStatus q) five is))
reported_page q n (inr (inl six)) is = absurd (no_six q (subst (IsAnswerStatus q) six is))
reported_page q n (inr (inr page)) is = page

-- a run with an answer tells it
pub tells : (request : Request) (gathered : Gathered) (report : Report) (n m : ℕ) (old new : Option (List ℕ))
    → IsAnswer request gathered report m → n ≡ m
    → Appends old new (rendered report request.format request.paper) → Reports request gathered n old new
tells request gathered report n m old new answer same page = record {
  report = report;
  is_answer = subst (IsAnswer request gathered report) (sym same) answer;
  page = page;
}

-- what a run with a failure ends with is a status
pub failed_status : (q : Question) (f : Failure) (n : ℕ) → (n ≡ failure_status f) ⊎ (n ≡ 5) ⊎ (n ≡ 6)
    → IsStatus q n
failed_status q (failures.Engines fault) n (inl same) = inr (omega arith, omega arith)
failed_status q (failures.Refused report) n (inl same) = inr (omega arith, omega arith)
failed_status q (failures.NoProfile report) n (inl same) = inr (omega arith, omega arith)
failed_status q (failures.NoTest report) n (inl same) = inr (omega arith, omega arith)
failed_status q (failures.SeveralTests report) n (inl same) = inr (omega arith, omega arith)
failed_status q failures.Memory n (inl same) = inr (omega arith, omega arith)
failed_status q f n (inr (inl five)) = inr (omega arith, omega arith)
failed_status q f n (inr (inr six)) = inr (omega arith, omega arith)

-- a run with a failure has no status of an answer
pub failed_silent : {X : Type 0} (request : Request) (gathered : Gathered) (f : Failure) (n : ℕ)
    → Fails request gathered f → (n ≡ failure_status f) ⊎ (n ≡ 5) ⊎ (n ≡ 6) → IsAnswerStatus request.question n → X
failed_silent request gathered f n fails (inl same) is =
    absurd (no_failure request gathered f fails (subst (IsAnswerStatus request.question) same is))
failed_silent request gathered f n fails (inr (inl five)) is =
    absurd (no_five request.question (subst (IsAnswerStatus request.question) five is))
failed_silent request gathered f n fails (inr (inr six)) is =
    absurd (no_six request.question (subst (IsAnswerStatus request.question) six is))

-- what shows leaves has status 0 or 1
entries_low : (entries : List Entry) → entries_status entries ≤ 1
entries_low [] = omega arith
entries_low (entry ∷ entries) = omega arith

pub shown_low : (content : Content) → shown_status content ≤ 1
shown_low (contents.Explain asked test) = omega arith
shown_low (contents.Why asked test key rules is_ignored) = omega arith
shown_low (contents.List asked tests unused scripts objects) = omega arith
shown_low (contents.ShowConfig asked entries) = entries_low entries.items
shown_low contents.Check = omega arith

one_or_none : (n : ℕ) → n ≤ 1 → (n ≡ 0) ⊎ (n ≡ 1)
one_or_none zero low = inl refl
one_or_none (suc n) low = inr (omega arith)

-- what answers a question has a status of an answer
status_of_answer : (q : Question) (session : Session) (report : Report) (n : ℕ) → AnswersQuestion q session report n
    → IsAnswerStatus q n
status_of_answer (questions.Explain profile test asked) session report n answers = answers.0
status_of_answer (questions.Why profile test setting) session report n answers = answers.0
status_of_answer (questions.WhyRuns profile test) session report n answers = answers.0
status_of_answer (questions.List profile mode list asked) session report n answers = answers.0
status_of_answer (questions.ShowConfig profile keys with_hidden) session report n answers =
    one_or_none n (omega (arith, answers.status_is, shown_low report.content))
status_of_answer (questions.Check deny_warnings) session report n answers = answers.is_status

-- a run with an answer has its status, unless something fails
pub answer_status : {X : Type 0} (request : Request) (gathered : Gathered) (report : Report) (n m : ℕ)
    → IsAnswer request gathered report m → (n ≡ m) ⊎ X → IsAnswerStatus request.question n ⊎ X
answer_status request gathered report n m answer (inl same) =
    inl (subst (IsAnswerStatus request.question) (sym same)
    (status_of_answer request.question answer.session report m answer.answers))
answer_status request gathered report n m answer (inr fails) = inr fails

-- what a run with an answer ends with is a status
pub answered_status : (request : Request) (gathered : Gathered) (report : Report) (n m : ℕ)
    → IsAnswer request gathered report m → (n ≡ m) ⊎ (n ≡ 5) ⊎ (n ≡ 6) → IsStatus request.question n
answered_status request gathered report n m answer (inl same) =
    inl (subst (IsAnswerStatus request.question) (sym same)
    (status_of_answer request.question answer.session report m answer.answers))
answered_status request gathered report n m answer (inr (inl five)) = inr (omega arith, omega arith)
answered_status request gathered report n m answer (inr (inr six)) = inr (omega arith, omega arith)

-- what answers a question of a session answers the request
pub is_answered : (request : Request) (gathered : Gathered) (session : Session) (answer : Result Answer Failure)
    → IsSessionOf request gathered session
    → IfOk answer (λ a. AnswersQuestion request.question session a.report a.status)
    → IfOk answer (λ a. IsReportOf session a.report)
    → IfOk answer (λ a. ShowsWarningsIn session a.report a.status)
    → IfOk answer (λ _. AreLookedUp session request.question)
    → IfOk answer (λ a. HasObjectsFor session request.question a.report.content)
    → IfOk answer (λ a. IsAnswer request gathered a.report a.status)
is_answered request gathered session (Ok answer) begun answers about warned looked_up objects = record {
  session = session;
  begun = begun;
  about = about;
  warned = warned;
  answers = answers;
  looked_up = looked_up;
  objects = λ _. objects;
}
is_answered request gathered session (Err failure) begun answers about warned looked_up objects = tt
