-- Why a run has no result: from loads and rows to questions, and from there to exit statuses.
use Rattle.std.proofs.Common.{◌≡◌, ◌∙◌, ◌⊎◌, inl, inr, ℕ, Result, Ok, Err, IfErr, IfOk, IsErrAnd, arith, subst, sym}
use Rattle.std.specs.Result.{result_map_both}
use Rattle.nextest_tables.specs.Written.{Name}
use Rattle.rinqebo_request.specs.declared.files.gathering.Gathered.{Gathered}
use Rattle.rinqebo_report.specs.declared.report.Report.{Report}
use Rattle.rinqebo_request.specs.declared.request.Question.{Question}
use Rattle.rinqebo_request.specs.declared.request.Question.TheVariants as questions
use Rattle.rinqebo_request.specs.declared.request.Request.{Request as Asked}
use Rattle.rinqebo_results.proofs.Statuses.{shown_low}
use Rattle.rinqebo_results.specs.Answered.{AnswersQuestion, IsAboutTest, IsAnswer}
use Rattle.rinqebo_load.specs.Accepted.{AreAccepted}
use Rattle.rinqebo_results.specs.LookedUp.{IsFailureOn}
use Rattle.rinqebo_results.specs.Refused.{AreRefusedFor, Fails, IsFailureIn, IsReportFor, IsReportedBy, LackProfileFor, LackTestFor, LacksProfileOf, LacksTestOf}
use Rattle.rinqebo_checks.specs.Failures.{IsFailureAbout}
use Rattle.rinqebo_checks.specs.Reports.{IsReportOf}
use Rattle.rinqebo_load.specs.FindTests.{IsFoundFor}
use Rattle.rinqebo_load.specs.SessionOf.{IsSessionOf}
use Rattle.rinqebo_results.specs.Statuses.{failure_status}
use Rattle.rinqebo_results.specs.declared.answer.Answer.{Answer}
use Rattle.rinqebo_load.specs.declared.failure.Failure.{Failure}
use Rattle.rinqebo_load.specs.declared.failure.Failure.TheVariants as failures
use Rattle.rinqebo_request.specs.declared.request.RequestedTest.{RequestedTest}
use Rattle.rinqebo_load.specs.declared.found_test.FoundTest.{FoundTest}
use Rattle.rinqebo_load.specs.declared.session.Session.{Session}

-- what an answer says of a found test is about the test that is named
pub is_about : (session : Session) (test : RequestedTest) (found : FoundTest)
    (Holds : FoundTest → Report → Type 0) (r : Result Answer Failure) → IsFoundFor session test found
    → IfOk r (λ answer. answer.status ≡ 0) → IfOk r (λ answer. Holds found answer.report)
    → IfOk r (λ answer. (answer.status ≡ 0) × IsAboutTest session test (λ found. Holds found answer.report))
is_about session test found Holds (Ok answer) is zero holds =
    (zero, record { found = found; is_found = is; holds = holds })
is_about session test found Holds (Err failure) is zero holds = tt

-- a refusal of memory is a failure about any profile
pub want_reported : {A : Type 0} (session : Session) (profile : Name) (r : Result A Failure)
    → IsErrAnd r (λ failure. failure ≡ failures.Memory) → IfErr r (IsFailureAbout session profile)
want_reported session profile (Ok answer) is = tt
want_reported session profile (Err failure) is = subst (IsFailureAbout session profile) (sym is) tt

-- and one for which the filters of a profile are evaluated
pub want_evaluated : {A : Type 0} (session : Session) (profile : Name) (r : Result A Failure)
    → IsErrAnd r (λ failure. failure ≡ failures.Memory) → IfErr r (IsFailureOn session profile)
want_evaluated session profile (Ok answer) is = tt
want_evaluated session profile (Err failure) is = subst (IsFailureOn session profile) (sym is) tt

-- what holds of a failure holds of it where it is reported
pub passed_on : {A : Type 0} (P : Failure → Type 0) (r : Result A Failure) (failure : Failure)
    → IsErrAnd r (λ told. told ≡ failure) → P failure → IfErr r P
passed_on P (Ok answer) failure same is = tt
passed_on P (Err told) failure same is = subst P (sym same) is

-- a failure of one result is that of another one which has its failures
pub same_failure : {A B C E : Type 0} (f : A → C) (g : B → C) (P : E → Type 0) (r : Result A E) (s : Result B E)
    → result_map_both f (λ e. e) r ≡ result_map_both g (λ e. e) s → IfErr s P → IfErr r P
same_failure f g P (Ok a) s same is = tt
same_failure f g P (Err e) (Ok b) same is = absurd (cc)
same_failure f g P (Err e) (Err d) same is =
    let joined : d ≡ e = cc in
    subst P joined is

-- why a session does not answer a question is why it does not answer the request
pub fails_in : (request : Asked) (gathered : Gathered) (session : Session) {A : Type 0} (answer : Result A Failure)
    → IsSessionOf request gathered session → IfErr answer (IsFailureIn session request.question)
    → IfErr answer (Fails request gathered)
fails_in request gathered session (Ok answer) begun cause = tt
fails_in request gathered session (Err failure) begun cause = inr (record {
  session = session;
  begun = begun;
  cause = cause;
})

-- a result of status 3 means that files are refused
refused_in : (q : Question) (session : Session) (report : Report) (n : ℕ) → AnswersQuestion q session report n
    → n ≡ 3 → ¬ AreAccepted session
refused_in (questions.Explain profile test asked) session report n answers three =
    let zero : n ≡ 0 = answers.0 in
    absurd (omega arith)
refused_in (questions.Why profile test setting) session report n answers three =
    let zero : n ≡ 0 = answers.0 in
    absurd (omega arith)
refused_in (questions.WhyRuns profile test) session report n answers three =
    let zero : n ≡ 0 = answers.0 in
    absurd (omega arith)
refused_in (questions.List profile mode list asked) session report n answers three =
    let zero : n ≡ 0 = answers.0 in
    absurd (omega arith)
refused_in (questions.ShowConfig profile keys with_hidden) session report n answers three =
    absurd (omega (arith, answers.status_is, shown_low report.content))
refused_in (questions.Check deny_warnings) session report n answers three = answers.refused three

-- no answer has status 2
no_two_of : {X : Type 0} (n : ℕ) → (n ≡ 0) ⊎ (n ≡ 1) ⊎ (n ≡ 3) → n ≡ 2 → X
no_two_of n (inl zero) two = absurd (omega arith)
no_two_of n (inr (inl one)) two = absurd (omega arith)
no_two_of n (inr (inr three)) two = absurd (omega arith)

unusable_in : {X : Type 0} (q : Question) (session : Session) (report : Report) (n : ℕ)
    → AnswersQuestion q session report n → n ≡ 2 → X
unusable_in (questions.Explain profile test asked) session report n answers two =
    let zero : n ≡ 0 = answers.0 in
    absurd (omega arith)
unusable_in (questions.Why profile test setting) session report n answers two =
    let zero : n ≡ 0 = answers.0 in
    absurd (omega arith)
unusable_in (questions.WhyRuns profile test) session report n answers two =
    let zero : n ≡ 0 = answers.0 in
    absurd (omega arith)
unusable_in (questions.List profile mode list asked) session report n answers two =
    let zero : n ≡ 0 = answers.0 in
    absurd (omega arith)
unusable_in (questions.ShowConfig profile keys with_hidden) session report n answers two =
    absurd (omega (arith, answers.status_is, shown_low report.content))
unusable_in (questions.Check deny_warnings) session report n answers two = no_two_of n answers.is_status two

-- a check has no status 4
no_four : {X : Type 0} (n : ℕ) → (n ≡ 0) ⊎ (n ≡ 1) ⊎ (n ≡ 3) → n ≡ 4 → X
no_four n (inl zero) four = absurd (omega arith)
no_four n (inr (inl one)) four = absurd (omega arith)
no_four n (inr (inr three)) four = absurd (omega arith)

-- no result has status 4
lacking_in : {X : Type 0} (q : Question) (session : Session) (report : Report) (n : ℕ)
    → AnswersQuestion q session report n → n ≡ 4 → X
lacking_in (questions.Explain profile test asked) session report n answers four =
    let zero : n ≡ 0 = answers.0 in
    absurd (omega arith)
lacking_in (questions.Why profile test setting) session report n answers four =
    let zero : n ≡ 0 = answers.0 in
    absurd (omega arith)
lacking_in (questions.WhyRuns profile test) session report n answers four =
    let zero : n ≡ 0 = answers.0 in
    absurd (omega arith)
lacking_in (questions.List profile mode list asked) session report n answers four =
    let zero : n ≡ 0 = answers.0 in
    absurd (omega arith)
lacking_in (questions.ShowConfig profile keys with_hidden) session report n answers four =
    absurd (omega (arith, answers.status_is, shown_low report.content))
lacking_in (questions.Check deny_warnings) session report n answers four = no_four n answers.is_status four

-- the status of a run with an answer tells of files
pub answer_reported : (request : Asked) (gathered : Gathered) (report : Report) (n m : ℕ)
    → IsAnswer request gathered report m → (n ≡ m) ⊎ (n ≡ 5) ⊎ (n ≡ 6) → IsReportedBy request gathered n
answer_reported request gathered report n m answer (inl same) = record {
  unusable = λ two. unusable_in request.question answer.session report m answer.answers (sym same ∙ two);
  refused = λ three. record {
    session = answer.session;
    begun = answer.begun;
    broken = refused_in request.question answer.session report m answer.answers (sym same ∙ three);
  };
  lacking = λ four. lacking_in request.question answer.session report m answer.answers (sym same ∙ four);
}
answer_reported request gathered report n m answer (inr (inl five)) = record {
  unusable = λ two. absurd (omega arith);
  refused = λ three. absurd (omega arith);
  lacking = λ four. absurd (omega arith);
}
answer_reported request gathered report n m answer (inr (inr six)) = record {
  unusable = λ two. absurd (omega arith);
  refused = λ three. absurd (omega arith);
  lacking = λ four. absurd (omega arith);
}

-- files are refused for which a question is not answered
broken_in : (q : Question) (session : Session) (report : Report) → IsFailureIn session q (failures.Refused report)
    → ¬ AreAccepted session
broken_in (questions.Explain profile test asked) session report (inl finding) = absurd finding
broken_in (questions.Explain profile test asked) session report (inr cause) = cause.0
broken_in (questions.Why profile test setting) session report (inl finding) = absurd finding
broken_in (questions.Why profile test setting) session report (inr cause) = cause.0
broken_in (questions.WhyRuns profile test) session report (inl finding) = absurd finding
broken_in (questions.WhyRuns profile test) session report (inr cause) = cause.0
broken_in (questions.List profile mode list asked) session report cause = cause.0
broken_in (questions.ShowConfig profile keys with_hidden) session report cause = cause.0
broken_in (questions.Check deny_warnings) session report cause =
    let no : failures.Refused report ≡ failures.Memory = cause in
    absurd (cc)

-- files lack the profile for which a question is not answered
lacks_in : (q : Question) (session : Session) (report : Report) → IsFailureIn session q (failures.NoProfile report)
    → LacksProfileOf session q
lacks_in (questions.Explain profile test asked) session report (inl finding) = absurd finding
lacks_in (questions.Explain profile test asked) session report (inr cause) = cause.0
lacks_in (questions.Why profile test setting) session report (inl finding) = absurd finding
lacks_in (questions.Why profile test setting) session report (inr cause) = cause.0
lacks_in (questions.WhyRuns profile test) session report (inl finding) = absurd finding
lacks_in (questions.WhyRuns profile test) session report (inr cause) = cause.0
lacks_in (questions.List profile mode list asked) session report cause = cause.0
lacks_in (questions.ShowConfig profile keys with_hidden) session report cause = cause.0
lacks_in (questions.Check deny_warnings) session report cause =
    let no : failures.NoProfile report ≡ failures.Memory = cause in
    absurd (cc)

-- there is no test for which a question is not answered
untested_in : (q : Question) (session : Session) (report : Report) → IsFailureIn session q (failures.NoTest report)
    → LacksTestOf session q
untested_in (questions.Explain profile test asked) session report (inl finding) = finding.0
untested_in (questions.Explain profile test asked) session report (inr cause) = absurd cause
untested_in (questions.Why profile test setting) session report (inl finding) = finding.0
untested_in (questions.Why profile test setting) session report (inr cause) = absurd cause
untested_in (questions.WhyRuns profile test) session report (inl finding) = finding.0
untested_in (questions.WhyRuns profile test) session report (inr cause) = absurd cause
untested_in (questions.List profile mode list asked) session report cause = absurd cause
untested_in (questions.ShowConfig profile keys with_hidden) session report cause = absurd cause
untested_in (questions.Check deny_warnings) session report cause =
    let no : failures.NoTest report ≡ failures.Memory = cause in
    absurd (cc)

-- the report of refused files is one of the session
refused_about : (q : Question) (session : Session) (report : Report) → IsFailureIn session q (failures.Refused report)
    → IsReportOf session report
refused_about (questions.Explain profile test asked) session report (inl finding) = absurd finding
refused_about (questions.Explain profile test asked) session report (inr cause) = cause.1
refused_about (questions.Why profile test setting) session report (inl finding) = absurd finding
refused_about (questions.Why profile test setting) session report (inr cause) = cause.1
refused_about (questions.WhyRuns profile test) session report (inl finding) = absurd finding
refused_about (questions.WhyRuns profile test) session report (inr cause) = cause.1
refused_about (questions.List profile mode list asked) session report cause = cause.1
refused_about (questions.ShowConfig profile keys with_hidden) session report cause = cause.1
refused_about (questions.Check deny_warnings) session report cause =
    let no : failures.Refused report ≡ failures.Memory = cause in
    absurd (cc)

-- so is that of a profile that files lack
lacking_about : (q : Question) (session : Session) (report : Report) → IsFailureIn session q (failures.NoProfile report)
    → IsReportOf session report
lacking_about (questions.Explain profile test asked) session report (inl finding) = absurd finding
lacking_about (questions.Explain profile test asked) session report (inr cause) = cause.1
lacking_about (questions.Why profile test setting) session report (inl finding) = absurd finding
lacking_about (questions.Why profile test setting) session report (inr cause) = cause.1
lacking_about (questions.WhyRuns profile test) session report (inl finding) = absurd finding
lacking_about (questions.WhyRuns profile test) session report (inr cause) = cause.1
lacking_about (questions.List profile mode list asked) session report cause = cause.1
lacking_about (questions.ShowConfig profile keys with_hidden) session report cause = cause.1
lacking_about (questions.Check deny_warnings) session report cause =
    let no : failures.NoProfile report ≡ failures.Memory = cause in
    absurd (cc)

-- the reports of failures are those of sessions of the request
pub refused_report : (request : Asked) (gathered : Gathered) (report : Report)
    → Fails request gathered (failures.Refused report) → IsReportFor request gathered report
refused_report request gathered report (inl begins) = absurd begins
refused_report request gathered report (inr fails) = record {
  session = fails.session;
  begun = fails.begun;
  about = refused_about request.question fails.session report fails.cause;
}

pub lacking_report : (request : Asked) (gathered : Gathered) (report : Report)
    → Fails request gathered (failures.NoProfile report) → IsReportFor request gathered report
lacking_report request gathered report (inl begins) = absurd begins
lacking_report request gathered report (inr fails) = record {
  session = fails.session;
  begun = fails.begun;
  about = lacking_about request.question fails.session report fails.cause;
}

-- a failure of status 3 tells that files are refused
refused_for : (request : Asked) (gathered : Gathered) (failure : Failure) → Fails request gathered failure
    → failure_status failure ≡ 3 → AreRefusedFor request gathered
refused_for request gathered (failures.Engines fault) fails three = absurd (omega arith)
refused_for request gathered (failures.Refused report) (inl begins) three = absurd begins
refused_for request gathered (failures.Refused report) (inr fails) three = record {
  session = fails.session;
  begun = fails.begun;
  broken = broken_in request.question fails.session report fails.cause;
}
refused_for request gathered (failures.NoProfile report) fails three = absurd (omega arith)
refused_for request gathered (failures.NoTest report) fails three = absurd (omega arith)
refused_for request gathered (failures.SeveralTests report) fails three = absurd (omega arith)
refused_for request gathered failures.Memory fails three = absurd (omega arith)

-- a failure of status 4 tells that files lack the profile, or that there is no test
lacking_for : (request : Asked) (gathered : Gathered) (failure : Failure) → Fails request gathered failure
    → failure_status failure ≡ 4 → LackProfileFor request gathered ⊎ LackTestFor request gathered
lacking_for request gathered (failures.Engines fault) fails four = absurd (omega arith)
lacking_for request gathered (failures.Refused report) fails four = absurd (omega arith)
lacking_for request gathered (failures.NoProfile report) (inl begins) four = absurd begins
lacking_for request gathered (failures.NoProfile report) (inr fails) four = inl (record {
  session = fails.session;
  begun = fails.begun;
  lacks = lacks_in request.question fails.session report fails.cause;
})
lacking_for request gathered (failures.NoTest report) (inl begins) four = absurd begins
lacking_for request gathered (failures.NoTest report) (inr fails) four = inr (record {
  session = fails.session;
  begun = fails.begun;
  lacks = untested_in request.question fails.session report fails.cause;
})
lacking_for request gathered (failures.SeveralTests report) fails four = absurd (omega arith)
lacking_for request gathered failures.Memory fails four = absurd (omega arith)

-- the status of a run with a failure tells of files
pub failure_reported : (request : Asked) (gathered : Gathered) (failure : Failure) (n : ℕ)
    → Fails request gathered failure → (n ≡ failure_status failure) ⊎ (n ≡ 5) ⊎ (n ≡ 6) → IsReportedBy request gathered n
failure_reported request gathered failure n fails (inl same) = record {
  unusable = λ two. record { failure = failure; is_status = sym same ∙ two; fails = fails };
  refused = λ three. refused_for request gathered failure fails (sym same ∙ three);
  lacking = λ four. lacking_for request gathered failure fails (sym same ∙ four);
}
failure_reported request gathered failure n fails (inr (inl five)) = record {
  unusable = λ two. absurd (omega arith);
  refused = λ three. absurd (omega arith);
  lacking = λ four. absurd (omega arith);
}
failure_reported request gathered failure n fails (inr (inr six)) = record {
  unusable = λ two. absurd (omega arith);
  refused = λ three. absurd (omega arith);
  lacking = λ four. absurd (omega arith);
}
