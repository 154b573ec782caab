-- From what the program answers to how a run ends.
use Rattle.std.proofs.Common.{◌≡◌, ◌∙◌, ◌⊎◌, ◌<◌, ◌≤◌, inl, inr, ℕ, List, Result, Ok, Err, IfOk, IfErr, ap, arith, drop, length, refl, string_bytes, subst, sym, take}
use Rattle.std.proofs.Math.Seq.{take-append_seam}
use Rattle.std.proofs.lemmas.Bool.{cases_lt}
use Rattle.rinqebo_request.specs.declared.files.gathering.Gathered.{Gathered}
use Rattle.rinqebo_report.specs.Rendered.{json_text}
use Rattle.rinqebo_report.specs.declared.report.Report.{Report}
use Rattle.rinqebo_report.specs.declared.reported_request.ReportCommand.TheVariants as commands
use Rattle.rinqebo_request.specs.declared.request.Question.{Question}
use Rattle.rinqebo_request.specs.declared.request.Question.TheVariants as questions
use Rattle.rinqebo_request.specs.declared.request.Request.{Request}
use Rattle.rinqebo_results.specs.Answered.{AnswersQuestion, IsAnswer}
use Rattle.rinqebo_results.specs.Refused.{Fails, IsFailureIn, LackProfileFor, LackTestFor, LacksTestOf}
use Rattle.rinqebo_results.specs.declared.answer.Answer.{Answer}
use Rattle.rinqebo_load.specs.declared.failure.Failure.{Failure}
use Rattle.rinqebo_load.specs.declared.failure.Failure.TheVariants as failures
use Rattle.rinqebo_load.specs.declared.session.Session.{Session}
use Rattle.rinqebo_results.proofs.Refused.{failure_reported, lacking_report, refused_report}
use Rattle.rinqebo_forms.specs.Runs.{RunText}
use Rattle.rinqebo_resolve.specs.Asking.{RequestedText, AreFilesOf, AsksForAll, IsRequestFor, requested_of}
use Rattle.rinqebo_session.specs.declared.status.TheConstants.{DONE}
use Rattle.rinqebo_resolve.specs.Endings.{IsAnswerTo, IsAnswerOf, IsEndingFor, IsEndingIn, IsEndingOf, IsResolved, ReportsFailure, ReportsOutcome, ending_status, ending_text}
use Rattle.rinqebo_resolve.specs.declared.ending.Ending.{Ending}
use Rattle.rinqebo_resolve.specs.declared.ending.Ending.TheVariants as ends

-- the answer about a list has status 0
zero_of : (asked : RequestedText) (q : Question) (session : Session) (report : Report) (status : ℕ)
    → AsksForAll asked q → AnswersQuestion q session report status → status ≡ 0
zero_of asked (questions.Explain profile test settings) session report status asks answers = absurd asks
zero_of asked (questions.Why profile test setting) session report status asks answers = absurd asks
zero_of asked (questions.WhyRuns profile test) session report status asks answers = absurd asks
zero_of asked (questions.List profile mode list shown) session report status asks answers = answers.0
zero_of asked (questions.ShowConfig profile keys with_hidden) session report status asks answers = absurd asks
zero_of asked (questions.Check deny_warnings) session report status asks answers = absurd asks

-- the document of an answer
answered : (asked : RequestedText) (request : Request) (gathered : Gathered) (report : Report) (status : ℕ)
    (text : List ℕ) → IsRequestFor commands.List asked request → IsAnswer request gathered report status
    → text ≡ json_text report → IsAnswerOf asked gathered text
answered asked request gathered report status text is_request is_answer document =
    let zero = zero_of asked request.question is_answer.session report status is_request.question
    is_answer.answers in
    record {
      request = request;
      is_request = is_request;
      report = report;
      holds = subst (λ n. IsAnswer request gathered report n) zero is_answer;
      document = document;
    }

-- a question about a list lacks no test
tested : {X : Type 0} (asked : RequestedText) (q : Question) (session : Session) → AsksForAll asked q
    → LacksTestOf session q → X
tested asked (questions.Explain profile test settings) session asks lacks = absurd asks
tested asked (questions.Why profile test setting) session asks lacks = absurd asks
tested asked (questions.WhyRuns profile test) session asks lacks = absurd asks
tested asked (questions.List profile mode list shown) session asks lacks = absurd lacks
tested asked (questions.ShowConfig profile keys with_hidden) session asks lacks = absurd asks
tested asked (questions.Check deny_warnings) session asks lacks = absurd asks

-- what a request for a list lacks is the profile
profile_lacks : (asked : RequestedText) (request : Request) (gathered : Gathered) → IsRequestFor commands.List asked request
    → LackProfileFor request gathered ⊎ LackTestFor request gathered → LackProfileFor request gathered
profile_lacks asked request gathered is_request (inl profile) = profile
profile_lacks asked request gathered is_request (inr test) =
    tested asked request.question test.session is_request.question test.lacks

-- a question about a list names no test that may be missing
named_none : {X : Type 0} (asked : RequestedText) (q : Question) (session : Session) (report : Report)
    → AsksForAll asked q → IsFailureIn session q (failures.NoTest report) → X
named_none asked (questions.Explain profile test settings) session report asks cause = absurd asks
named_none asked (questions.Why profile test setting) session report asks cause = absurd asks
named_none asked (questions.WhyRuns profile test) session report asks cause = absurd asks
named_none asked (questions.List profile mode list shown) session report asks cause = absurd cause
named_none asked (questions.ShowConfig profile keys with_hidden) session report asks cause = absurd asks
named_none asked (questions.Check deny_warnings) session report asks cause = absurd asks

no_test : {X : Type 0} (asked : RequestedText) (request : Request) (gathered : Gathered) (report : Report)
    → IsRequestFor commands.List asked request → Fails request gathered (failures.NoTest report) → X
no_test asked request gathered report is_request (inl unusable) = absurd unusable
no_test asked request gathered report is_request (inr fails) =
    named_none asked request.question fails.session report is_request.question fails.cause

-- the ending for which the program answers nothing
unanswered : (asked : RequestedText) (request : Request) (gathered : Gathered) (failure : Failure) (ending : Ending)
    → IsRequestFor commands.List asked request → Fails request gathered failure → ReportsFailure failure ending
    → IsEndingIn asked gathered ending
unanswered asked request gathered (failures.Engines fault) (ends.NoEngines reason) is_request fails tells = record {
  request = request;
  is_request = is_request;
  cause = (failure_reported request gathered (failures.Engines fault) 2 fails (inl refl)).unusable refl;
}
unanswered asked request gathered (failures.Refused report) (ends.Refused text) is_request fails tells = record {
  request = request;
  is_request = is_request;
  report = report;
  holds = (
    (failure_reported request gathered (failures.Refused report) 3 fails (inl refl)).refused refl,
    refused_report request gathered report fails,
  );
  document = tells;
}
unanswered asked request gathered (failures.NoProfile report) (ends.NoProfile text) is_request fails tells = record {
  request = request;
  is_request = is_request;
  report = report;
  holds = (
    profile_lacks asked request gathered is_request
        ((failure_reported request gathered (failures.NoProfile report) 4 fails (inl refl)).lacking refl),
    lacking_report request gathered report fails,
  );
  document = tells;
}
unanswered asked request gathered (failures.NoTest report) (ends.NoEngines reason) is_request fails tells =
    no_test asked request gathered report is_request fails
unanswered asked request gathered (failures.SeveralTests report) (ends.NoEngines reason) is_request fails tells = record {
  request = request;
  is_request = is_request;
  cause = (failure_reported request gathered (failures.SeveralTests report) 2 fails (inl refl)).unusable refl;
}
unanswered asked request gathered failure ending is_request fails tells = absurd tells

-- the ending that tells what the program answers
ends_so : (asked : RequestedText) (request : Request) (gathered : Gathered) (outcome : Result Answer Failure)
    (ending : Ending) → IsRequestFor commands.List asked request
    → IfOk outcome (λ answer. IsAnswer request gathered answer.report answer.status)
    → IfErr outcome (Fails request gathered) → ReportsOutcome outcome ending → IsEndingIn asked gathered ending
ends_so asked request gathered (Ok answer) (ends.Answered text) is_request is_answer fails tells =
    answered asked request gathered answer.report answer.status (string_bytes text) is_request is_answer tells
ends_so asked request gathered (Ok answer) ending is_request is_answer fails tells = absurd tells
ends_so asked request gathered (Err failure) ending is_request is_answer fails tells =
    unanswered asked request gathered failure ending is_request fails tells

-- what the program answers ends a run, where memory suffices to tell it
pub ended : {E : Type 0} (asked : RequestedText) (request : Request) (gathered : Gathered)
    (outcome : Result Answer Failure) (told : Result Ending E) → IsRequestFor commands.List asked request
    → IfOk outcome (λ answer. IsAnswer request gathered answer.report answer.status)
    → IfErr outcome (Fails request gathered) → IfOk told (ReportsOutcome outcome) → IfOk told (IsEndingIn asked gathered)
ended asked request gathered outcome (Ok ending) is_request is_answer fails tells =
    ends_so asked request gathered outcome ending is_request is_answer fails tells
ended asked request gathered outcome (Err want) is_request is_answer fails tells = tt

-- what is asked of the files of a run ends as the run does
pub ended_of : {E : Type 0} (run : RunText) (asked : RequestedText) (gathered : Gathered) (told : Result Ending E)
    → asked ≡ requested_of run → AreFilesOf run gathered → IfOk told (IsEndingIn asked gathered)
    → IfOk told (IsEndingOf run)
ended_of run asked gathered (Ok ending) same are_files is = record {
  gathered = gathered;
  are_files = are_files;
  is_ending = subst (λ what. IsEndingIn what gathered ending) same is;
}
ended_of run asked gathered (Err want) same are_files is = tt

-- an ending with status 0 answers the request
pub answer_of : (request : List ℕ) (ending : Ending) → IsEndingFor request ending → ending_status ending ≡ DONE
    → IsAnswerTo request (ending_text ending)
answer_of request (ends.Answered text) is done = record {
  run = is.0;
  reads = is.1;
  gathered = is.2.gathered;
  are_files = is.2.are_files;
  is_answer = is.2.is_ending;
}
answer_of request (ends.Refused text) is done = absurd (omega arith)
answer_of request (ends.NoProfile text) is done = absurd (omega arith)
answer_of request (ends.NoEngines reason) is done = absurd (omega arith)
answer_of request (ends.NotUnderstood reason) is done = absurd (omega arith)
answer_of request ends.NotText is done = absurd (omega arith)
answer_of request ends.Memory is done = absurd (omega arith)

answer_in : (request old new : List ℕ) (needed status : ℕ) (r : IsResolved request old new needed status)
    → (length old < length (ending_text r.ending)) ⊎ (length (ending_text r.ending) ≤ length old) → status ≡ DONE
    → IsAnswerTo request (take needed new)
answer_in request old new needed status r (inl less) done =
    let small = (r.is_told.small less).0 in
    absurd (omega arith)
answer_in request old new needed status r (inr room) done =
    let text = ending_text r.ending in
    let told = r.is_told.written room in
    let is : take needed new ≡ text =
    ap (λ n. take n new) r.is_told.told ∙ ap (take (length text)) told.1
    ∙ take-append_seam text (drop (length text) old) in
    subst (IsAnswerTo request) (sym is) (answer_of request r.ending r.is_ending (sym told.0 ∙ done))

-- what is reported with status 0 is the result of the request
pub reported_answer : (request old new : List ℕ) (needed status : ℕ) → IsResolved request old new needed status
    → status ≡ DONE → IsAnswerTo request (take needed new)
reported_answer request old new needed status r =
    answer_in request old new needed status r (cases_lt (length old) (length (ending_text r.ending)))
