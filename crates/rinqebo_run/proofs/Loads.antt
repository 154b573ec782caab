-- The result of loads.
use Rattle.std.proofs.Common.{◌≡◌, ◌⊎◌, inl, inr, ℕ, Bool, true, false, cond, ◌&&◌, ◌||◌, not, ◌==◌, List, [], length, Result, Ok, Err, IfOk, refl, sym, ap, ◌∙◌, subst, arith}
use Rattle.std.specs.List.{list_any}
use Rattle.nextest_sources.specs.Endings.{IsMemory}
use Rattle.nextest_sources.specs.declared.error.ConfigParseError.{ConfigParseError}
use Rattle.nextest_sources.specs.Warnings.{Warning}
use Rattle.rinqebo_checks.specs.Faults.{ShowsChecked, ShowsRefused}
use Rattle.rinqebo_checks.specs.Reports.{HasError}
use Rattle.rinqebo_load.specs.Accepted.{AreAccepted}
use Rattle.rinqebo_load.specs.Warned.{IsRefusedLoad, warnings_met}
use Rattle.rinqebo_report.specs.declared.finding.Finding.{Finding}
use Rattle.rinqebo_report.specs.declared.report.Report.{Report}
use Rattle.rinqebo_results.specs.Checked.{IsCheckStatus, ShowsAccepted, accepted_status, is_error}
use Rattle.rinqebo_results.specs.declared.answer.Answer.{Answer}
use Rattle.rinqebo_load.specs.declared.session.Session.{Session}

-- the status of a check by whether a finding is an error, and whether one is denied
abbrev status : Bool → Bool → ℕ
status error denied = cond (error || denied) 1 0

-- a finding is an error
pub by_error : (error denied r : Bool) → r ≡ error → r ≡ true → status error denied ≡ 1
by_error error denied r is holds = ap (λ e. status e denied) (sym is ∙ holds)

-- none is an error, and one is denied
pub by_denied : (error denied r s : Bool) → r ≡ error → r ≡ false → s ≡ denied → s ≡ true
    → status error denied ≡ 1
by_denied error denied r s is unset is' holds =
    ap (λ e. status e denied) (sym is ∙ unset) ∙ ap (λ d. status false d) (sym is' ∙ holds)

-- none is an error, and none is denied
pub by_none : (error denied r s : Bool) → r ≡ error → r ≡ false → s ≡ denied → s ≡ false
    → status error denied ≡ 0
by_none error denied r s is unset is' unset' =
    ap (λ e. status e denied) (sym is ∙ unset) ∙ ap (λ d. status false d) (sym is' ∙ unset')

abbrev pub IsZeroOrOne : ℕ → Type 0
IsZeroOrOne n = (n ≡ 0) ⊎ (n ≡ 1)

by_test : (test : Bool) → IsZeroOrOne (cond test 1 0)
by_test true = inr refl
by_test false = inl refl

-- the status of a check whose load accepts
pub status_cases : (denies : Bool) (findings : List Finding) → IsZeroOrOne (accepted_status denies findings)
status_cases denies findings = by_test (list_any is_error findings || (denies && not (length findings == 0)))

three_or : {P Q : Type 0} → P ⊎ Q → {R : Type 0} → P ⊎ Q ⊎ R
three_or (inl p) = inl p
three_or (inr q) = inr (inl q)

-- no status but 3
pub other : {X : Type 0} (n : ℕ) → n ≡ 3 → (n ≡ 0) ⊎ (n ≡ 1) → X
other n three (inl zero) = absurd (omega arith)
other n three (inr one) = absurd (omega arith)

-- the report of a check whose load accepts
abbrev Shows : Session → Report → Type 0
Shows session report =
    ShowsAccepted session.layers.items (warnings_met session) report.findings.items

pub accepts : (session : Session) (denies : Bool) (report : Report) (n : ℕ) → AreAccepted session
    → n ≡ accepted_status denies report.findings.items → Shows session report
    → IsCheckStatus session denies report n
accepts session denies report n accepted is shown =
    let cases : IsZeroOrOne n = subst IsZeroOrOne (sym is) (status_cases denies report.findings.items) in
    record {
      refused = λ three. other n three cases;
      accepted = λ _. accepted;
      is_status = three_or cases;
      faults = λ three. other n three cases;
      found = λ _. shown;
      by_findings = inr is;
    }

-- the status of a check whose load refuses
pub refuses : (session : Session) (denies : Bool) (report : Report) (n : ℕ) {M : Type 0}
    → M ⊎ (¬ AreAccepted session) → (¬ M) → ShowsRefused session report.findings.items
    → n ≡ 3 → IsCheckStatus session denies report n
refuses session denies report n (inl memory) not_memory shown three = absurd (not_memory memory)
refuses session denies report n (inr refused) not_memory shown three = record {
  refused = λ _. refused;
  accepted = λ accepted. other n three accepted;
  is_status = inr (inr three);
  faults = λ _. shown;
  found = λ accepted. other n three accepted;
  by_findings = inl three;
}

-- the answer of a check whose load accepts
pub accepted_answer : {E : Type 0} (session : Session) (denies : Bool) (answer : Result Answer E)
    → AreAccepted session → IfOk answer (λ a. a.status ≡ accepted_status denies a.report.findings.items)
    → {warnings : List Warning} → warnings ≡ warnings_met session
    → IfOk answer (λ a. ShowsAccepted session.layers.items warnings a.report.findings.items)
    → IfOk answer (λ a. IsCheckStatus session denies a.report a.status)
accepted_answer session denies (Ok a) accepted is met shown =
    accepts session denies a.report a.status accepted is
    (subst (λ warnings. ShowsAccepted session.layers.items warnings a.report.findings.items) met shown)
accepted_answer session denies (Err e) accepted is met shown = tt

-- the answer of a check whose load refuses
pub refused_answer : {E : Type 0} (session : Session) (denies : Bool) (error : ConfigParseError)
    (answer : Result Answer E) → IsMemory error ⊎ (¬ AreAccepted session) → {old warnings : List Warning} → old ≡ []
    → IsRefusedLoad session old warnings error → IfOk answer (λ a. a.status ≡ 3)
    → IfOk answer (λ _. ¬ IsMemory error)
    → IfOk answer (λ a. ShowsChecked session warnings error a.report.findings.items)
    → IfOk answer (λ a. IsRefusedLoad session [] warnings error → HasError a.report.findings.items)
    → IfOk answer (λ a. IsCheckStatus session denies a.report a.status)
refused_answer session denies error (Ok a) loaded {old} {warnings} none ran three not_memory shown erring =
    let refused : IsRefusedLoad session [] warnings error =
    subst (λ ws. IsRefusedLoad session ws warnings error) none ran in
    refuses session denies a.report a.status loaded not_memory
    (record {
      warnings = warnings;
      error = error;
      refused = refused;
      shows = shown;
      has_error = erring refused;
    })
    three
refused_answer session denies error (Err e) loaded none ran three not_memory shown erring = tt
