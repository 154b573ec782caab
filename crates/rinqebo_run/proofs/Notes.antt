-- The notes of results.
use Rattle.std.proofs.Common.{◌≡◌, Bool, None, Result, Ok, Err, IfOk, subst, sym}
use Rattle.filter_engine.specs.declared.compiling.FieldMatcher.{FieldMatcher}
use Rattle.filter_language.specs.declared.filterset.Filterset.{Filterset}
use Rattle.nextest_load.specs.Load.{Loaded}
use Rattle.platform_language.specs.declared.expression.TargetSpec.{TargetSpec}
use Rattle.rinqebo_load.specs.SessionOf.{IsSessionOf}
use Rattle.rinqebo_load.specs.Sessions.{files_view, readings, IsLoadedFrom}
use Rattle.rinqebo_load.specs.declared.session.Session.{Session}
use Rattle.rinqebo_request.specs.declared.files.gathering.Gathered.{Gathered}
use Rattle.rinqebo_request.specs.declared.request.Request.{Request}
use Rattle.rinqebo_results.specs.Checked.{accepted_status}
use Rattle.rinqebo_results.specs.declared.answer.Answer.{Answer}
use Rattle.rinqebo_run.proofs.Loads.{IsZeroOrOne, other, status_cases}
use Rattle.rinqebo_run.specs.OpenFilters.{HasNote, IsCheckNote, IsNoteOf, IsOpenNote, config_read}

-- the note of a check whose load accepts
pub accepted_note : {E : Type 0} (session : Session) (denies : Bool)
    (loaded : Loaded (Filterset FieldMatcher) TargetSpec) (answer : Result Answer E)
    → IsLoadedFrom (readings session.engines.filters) (files_view session.gathered.now) loaded
    → IfOk answer (λ a. a.status ≡ accepted_status denies a.report.findings.items)
    → IfOk answer (λ a. IsOpenNote session.engines.filters.packages (config_read loaded) a.note)
    → IfOk answer (λ a. IsCheckNote session a.status a.note)
accepted_note session denies loaded (Ok a) from is noted = record {
  refused = λ three. other a.status three (subst IsZeroOrOne (sym is) (status_cases denies a.report.findings.items));
  accepted = λ _. subst (λ config. IsOpenNote session.engines.filters.packages config a.note) from.means noted;
}
accepted_note session denies loaded (Err e) from is noted = tt

-- the note of a check whose load refuses
pub refused_note : {E : Type 0} (session : Session) (answer : Result Answer E) → IfOk answer (λ a. a.status ≡ 3)
    → IfOk answer (λ a. a.note ≡ None) → IfOk answer (λ a. IsCheckNote session a.status a.note)
refused_note session (Ok a) three none =
    record { refused = λ _. none; accepted = λ accepted. other a.status three accepted }
refused_note session (Err e) three none = tt

-- nothing is said of a note
pub not_noted : {E : Type 0} (answer : Result Answer E) → IfOk answer (λ _. Unit {0})
not_noted (Ok a) = tt
not_noted (Err e) = tt

-- the note of a result in a session of a request
pub noted_in : {E : Type 0} (request : Request) (gathered : Gathered) (session : Session) (answer : Result Answer E)
    → IsSessionOf request gathered session → IfOk answer (λ a. IsNoteOf session request.question a.status a.note)
    → IfOk answer (λ a. HasNote request gathered a.status a.note)
noted_in request gathered session (Ok a) is noted = record { session = session; begun = is; is_note = noted }
noted_in request gathered session (Err e) is noted = tt
