-- The documents of runs that answer nothing.
use Rattle.std.proofs.Common.{◌≡◌, ◌∙◌, ◌⊎◌, inl, inr, ℕ, List, Option, arith, sym}
use Rattle.std.specs.Io.KnownBytes.{Appends}
use Rattle.rinqebo_request.specs.declared.files.gathering.Gathered.{Gathered}
use Rattle.rinqebo_load.specs.declared.failure.Failure.{Failure}
use Rattle.rinqebo_load.specs.declared.failure.Failure.TheVariants as failures
use Rattle.rinqebo_report.specs.Rendered.{rendered}
use Rattle.rinqebo_report.specs.declared.format.Format.{Format}
use Rattle.rinqebo_report.specs.declared.format.Format.TheVariants as formats
use Rattle.rinqebo_report.specs.declared.report.Report.{Report}
use Rattle.rinqebo_request.specs.declared.request.Request.{Request}
use Rattle.rinqebo_results.specs.Answered.{IsAnswer}
use Rattle.rinqebo_results.specs.Refused.{Fails, HasNoReport, IsReportOfFailure, ReportsFailure, ReportsRefusal}
use Rattle.rinqebo_results.specs.Statuses.{IsAnswerStatus, failure_status}
use Rattle.rinqebo_results.proofs.Statuses.{answer_status}

-- a failure with a report is not a refusal of memory
no_memory : {X : Type 0} (failure : Failure) (report : Report) (n : ℕ) → IsReportOfFailure failure report
    → n ≡ failure_status failure → n ≡ 5 → X
no_memory (failures.Engines fault) report n reported same five = absurd reported
no_memory (failures.Refused told) report n reported same five =
    let three : n ≡ 3 = same in
    absurd (omega arith)
no_memory (failures.NoProfile told) report n reported same five =
    let four : n ≡ 4 = same in
    absurd (omega arith)
no_memory (failures.NoTest told) report n reported same five =
    let four : n ≡ 4 = same in
    absurd (omega arith)
no_memory (failures.SeveralTests told) report n reported same five =
    let two : n ≡ 2 = same in
    absurd (omega arith)
no_memory failures.Memory report n reported same five = absurd reported

-- the status of a failure without a report
no_report : {X : Type 0} (failure : Failure) (n : ℕ) → HasNoReport failure → n ≡ failure_status failure
    → (n ≡ 3) ⊎ (n ≡ 4) → X
no_report (failures.Engines fault) n none same (inl three) =
    let two : n ≡ 2 = same in
    absurd (omega arith)
no_report (failures.Engines fault) n none same (inr four) =
    let two : n ≡ 2 = same in
    absurd (omega arith)
no_report (failures.Refused told) n none same ends = absurd none
no_report (failures.NoProfile told) n none same ends = absurd none
no_report (failures.NoTest told) n none same ends = absurd none
no_report (failures.SeveralTests told) n none same ends = absurd none
no_report failures.Memory n none same (inl three) =
    let five : n ≡ 5 = same in
    absurd (omega arith)
no_report failures.Memory n none same (inr four) =
    let five : n ≡ 5 = same in
    absurd (omega arith)

-- a run that ends with 3 or 4 did not end because memory ran out, nor for a write that failed
pub not_cut_off : {X : Type 0} (n : ℕ) → (n ≡ 5) ⊎ (n ≡ 6) → (n ≡ 3) ⊎ (n ≡ 4) → X
not_cut_off n (inl five) (inl three) = absurd (omega arith)
not_cut_off n (inl five) (inr four) = absurd (omega arith)
not_cut_off n (inr six) (inl three) = absurd (omega arith)
not_cut_off n (inr six) (inr four) = absurd (omega arith)

-- a failure without a report has no document
pub no_document : {X : Type 0} (failure : Failure) (n : ℕ) → HasNoReport failure
    → (n ≡ failure_status failure) ⊎ (n ≡ 5) ⊎ (n ≡ 6) → (n ≡ 3) ⊎ (n ≡ 4) → X
no_document failure n none (inl same) ends = no_report failure n none same ends
no_document failure n none (inr cut) ends = not_cut_off n cut ends

module _ (failure : Failure) (request : Request) (report : Report) (n s : ℕ) (old new : Option (List ℕ))
    (json : request.format ≡ formats.Json) (reported : IsReportOfFailure failure report)
    (same : s ≡ failure_status failure) where
  document : n ≡ s → Appends old new (rendered report request.format request.paper)
      → ReportsFailure failure request n old new
  document is page = record {
    is_json = json;
    status_is = is ∙ same;
    report = report;
    reported = reported;
    page = page;
  }

  silent : n ≡ 5 → (n ≡ s) ⊎ (n ≡ 6) ⊎ (new ≡ old)
      → (n ≡ 6) ⊎ (new ≡ old) ⊎ ReportsFailure failure request n old new
  silent five (inl is) = no_memory failure report n reported (is ∙ same) five
  silent five (inr (inl six)) = inl six
  silent five (inr (inr kept)) = inr (inl kept)

  -- what goes out of the document of a failure
  pub document_quiet : (n ≡ s) ⊎ (n ≡ 5) ⊎ (n ≡ 6) → (n ≡ s) ⊎ (n ≡ 6) ⊎ (new ≡ old)
      → (n ≡ 5) ⊎ (n ≡ 6) ⊎ Appends old new (rendered report request.format request.paper)
      → (n ≡ 6) ⊎ (new ≡ old) ⊎ ReportsFailure failure request n old new
  document_quiet ends quiet (inl five) = silent five quiet
  document_quiet ends quiet (inr (inl six)) = inl six
  document_quiet (inl is) quiet (inr (inr page)) = inr (inr (document is page))
  document_quiet (inr (inl five)) quiet (inr (inr page)) = silent five quiet
  document_quiet (inr (inr six)) quiet (inr (inr page)) = inl six

  -- the document of a failure goes out
  pub document_reported : (n ≡ s) ⊎ (n ≡ 5) ⊎ (n ≡ 6)
      → (n ≡ 5) ⊎ (n ≡ 6) ⊎ Appends old new (rendered report request.format request.paper)
      → (n ≡ 3) ⊎ (n ≡ 4) → ReportsFailure failure request n old new
  document_reported ends (inl five) told = not_cut_off n (inl five) told
  document_reported ends (inr (inl six)) told = not_cut_off n (inr six) told
  document_reported (inl is) (inr (inr page)) told = document is page
  document_reported (inr cut) (inr (inr page)) told = not_cut_off n cut told

-- what goes out where a request is not answered
pub refusal_quiet : {X : Type 0} (request : Request) (gathered : Gathered) (failure : Failure) (n : ℕ)
    (old new : Option (List ℕ)) → Fails request gathered failure
    → (n ≡ 6) ⊎ (new ≡ old) ⊎ ReportsFailure failure request n old new
    → X ⊎ (n ≡ 6) ⊎ (new ≡ old) ⊎ ReportsRefusal request gathered n old new
refusal_quiet request gathered failure n old new fails (inl six) = inr (inl six)
refusal_quiet request gathered failure n old new fails (inr (inl kept)) = inr (inr (inl kept))
refusal_quiet request gathered failure n old new fails (inr (inr tells)) =
    inr (inr (inr (record { failure = failure; fails = fails; tells = tells })))

-- the document of why a request is not answered goes out
pub refusal_told : {X : Type 0} (request : Request) (gathered : Gathered) (failure : Failure) (n : ℕ)
    (old new : Option (List ℕ)) → Fails request gathered failure → ReportsFailure failure request n old new
    → X ⊎ ReportsRefusal request gathered n old new
refusal_told request gathered failure n old new fails tells =
    inr (record { failure = failure; fails = fails; tells = tells })

-- a result is written by its own page
pub answer_ends : {X : Type 0} (request : Request) (gathered : Gathered) (report : Report) (n m : ℕ)
    → IsAnswer request gathered report m → (n ≡ m) ⊎ (n ≡ 5) ⊎ (n ≡ 6) → (n ≡ 3) ⊎ (n ≡ 4)
    → IsAnswerStatus request.question n ⊎ X
answer_ends request gathered report n m answer (inl same) told =
    answer_status request gathered report n m answer (inl same)
answer_ends request gathered report n m answer (inr cut) told = not_cut_off n cut told

-- what is one of three is one of four
pub one_of_four : {A B C D : Type 0} → A ⊎ B ⊎ C → A ⊎ B ⊎ C ⊎ D
one_of_four (inl a) = inl a
one_of_four (inr (inl b)) = inr (inl b)
one_of_four (inr (inr c)) = inr (inr (inl c))

-- what is one of four is one of five
pub one_of_five : {A B C D E : Type 0} → A ⊎ B ⊎ C ⊎ D → A ⊎ B ⊎ C ⊎ D ⊎ E
one_of_five (inl a) = inl a
one_of_five (inr (inl b)) = inr (inl b)
one_of_five (inr (inr (inl c))) = inr (inr (inl c))
one_of_five (inr (inr (inr d))) = inr (inr (inr (inl d)))

-- what is one of four is one of five, the last of them the last
pub last_of_five : {A B C D E : Type 0} → A ⊎ B ⊎ C ⊎ E → A ⊎ B ⊎ C ⊎ D ⊎ E
last_of_five (inl a) = inl a
last_of_five (inr (inl b)) = inr (inl b)
last_of_five (inr (inr (inl c))) = inr (inr (inl c))
last_of_five (inr (inr (inr e))) = inr (inr (inr (inr e)))

-- a text is not a document of JSON
pub text_or_json : {X : Type 0} (format : Format) → format ≡ formats.Text → format ≡ formats.Json → X
text_or_json format text json =
    let joined : formats.Text ≡ formats.Json = sym text ∙ json in
    absurd (cc)
