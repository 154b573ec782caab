-- What standard error gets of the result of a check.
use Rattle.std.proofs.Common.{[], Bool, None, Option, Some, append-nil, false, true, ◌≡◌, ◌∙◌, ◌⊎◌, ◌++◌, inl, inr, ℕ, List, ap, arith, refl, string_bytes, subst, sym}
use Rattle.std.specs.Prelude.{String}
use Rattle.std.specs.Io.KnownBytes.{Appends}
use Rattle.std.specs.declared.alloc.Global.{Global}
use Rattle.rinqebo_report.specs.declared.format.Format.{Format}
use Rattle.rinqebo_report.specs.declared.format.Format.TheVariants as formats
use Rattle.rinqebo_report.specs.declared.report.Report.{Report}
use Rattle.rinqebo_request.specs.declared.files.gathering.Gathered.{Gathered}
use Rattle.rinqebo_request.specs.declared.request.Question.{Question}
use Rattle.rinqebo_request.specs.declared.request.Question.TheVariants as questions
use Rattle.rinqebo_request.specs.declared.request.Request.{Request}
use Rattle.rinqebo_results.proofs.Errors.{no_more, one_note}
use Rattle.rinqebo_results.specs.Answered.{IsAnswer}
use Rattle.rinqebo_results.specs.StandardError.{AddsNotes, findings_beside, is_json, note_line}
use Rattle.rinqebo_results.specs.Written.{AsksList}
use Rattle.rinqebo_results.specs.declared.list_page.RequestedList.{RequestedList}
use Rattle.rinqebo_run.specs.CheckNotes.{AddsFilesLine, GetsCheckNotes, HasCheckNotes, IsCheck, IsFilesNote, note_lines}
use Rattle.rinqebo_run.specs.OpenFilters.{HasNote}

-- ---- the note on files

-- there is none
pub no_files : (format : Format) (text : List ℕ) → AddsFilesLine format text text
no_files formats.Text text = ([], inl refl, sym (append-nil text))
no_files formats.Grouped text = ([], refl, sym (append-nil text))
no_files formats.Json text = ([], refl, sym (append-nil text))
no_files formats.Concise text = ([], refl, sym (append-nil text))
no_files (formats.Github folder) text = ([], refl, sym (append-nil text))

-- there is one
pub files_line : (said old new : List ℕ) → IsFilesNote said → new ≡ old ++ note_line said
    → AddsFilesLine formats.Text old new
files_line said old new is same = (note_line said, inr (said, is, refl), same)

unchanged : (old new line : List ℕ) → line ≡ [] → new ≡ old ++ line → new ≡ old
unchanged old new line none same = same ∙ ap (λ l. old ++ l) none ∙ append-nil old

-- its line is that of a note
pub files_noted : (format : Format) (old new : List ℕ) → AddsFilesLine format old new
    → AddsNotes (is_json format) old new
files_noted formats.Text old new (line, inl none, same) =
    subst (AddsNotes false old) (sym (unchanged old new line none same)) (no_more false old)
files_noted formats.Text old new (line, inr (said, is, is_line), same) =
    one_note said old new (same ∙ ap (λ l. old ++ l) is_line)
files_noted formats.Grouped old new (line, none, same) =
    subst (AddsNotes false old) (sym (unchanged old new line none same)) (no_more false old)
files_noted formats.Json old new (line, none, same) = unchanged old new line none same
files_noted formats.Concise old new (line, none, same) =
    subst (AddsNotes false old) (sym (unchanged old new line none same)) (no_more false old)
files_noted (formats.Github folder) old new (line, none, same) =
    subst (AddsNotes false old) (sym (unchanged old new line none same)) (no_more false old)

-- ---- the note of a result

-- there is none
pub no_note_line : (json : Bool) (given : Option (String Global)) (old : List ℕ) → given ≡ None
    → old ≡ old ++ note_lines json given
no_note_line json None old none = sym (append-nil old)
no_note_line json (Some said) old none = absurd (cc)

-- a document of JSON has none beside it
pub no_json_line : (json : Bool) (given : Option (String Global)) (old : List ℕ) → json ≡ true
    → old ≡ old ++ note_lines json given
no_json_line true None old is = sym (append-nil old)
no_json_line true (Some said) old is = sym (append-nil old)
no_json_line false given old is = absurd (cc)

-- there is one
pub one_note_line : (json : Bool) (given : Option (String Global)) (said : String Global)
    (line old new : List ℕ) → json ≡ false → given ≡ Some said → line ≡ string_bytes said → new ≡ old ++ note_line line
    → new ≡ old ++ note_lines json given
one_note_line true given said line old new text is shown same = absurd (cc)
one_note_line false None said line old new text is shown same = absurd (cc)
one_note_line false (Some other) said line old new text is shown same = cc

-- its line is that of a note
pub result_noted : (json : Bool) (given : Option (String Global)) (old new : List ℕ)
    → new ≡ old ++ note_lines json given → AddsNotes json old new
result_noted true None old new same = same ∙ append-nil old
result_noted true (Some said) old new same = same ∙ append-nil old
result_noted false None old new same =
    subst (AddsNotes false old) (sym (same ∙ append-nil old)) (no_more false old)
result_noted false (Some said) old new same = one_note (string_bytes said) old new same

-- ---- the notes on the result of a check

pub check_notes : (request : Request) (report : Report) (note : Option (String Global))
    (start mid next end : List ℕ) → start ≡ findings_beside report request.format request.paper.colour → mid ≡ start
    → AddsFilesLine request.format mid next → end ≡ next ++ note_lines (is_json request.format) note
    → HasCheckNotes request report note end
check_notes request report note start mid next end page same (line, is, adds) ends = record {
  line = line;
  is_line = is;
  are = ends ∙ ap (λ t. t ++ note_lines (is_json request.format) note) (adds ∙ ap (λ t. t ++ line) (same ∙ page));
}

-- standard error got them
abbrev Gets : Request → Report → Option (String Global) → Option (List ℕ) → Option (List ℕ) → Type 0
Gets request report note old new = (text : List ℕ) × HasCheckNotes request report note text × Appends old new text

pub check_written : (request : Request) (report : Report) (given : Option (String Global)) (status told : ℕ)
    (old new : Option (List ℕ)) (shown text : List ℕ) → told ≡ 0 → (told ≡ 6) ⊎ Appends old new shown
    → shown ≡ text → (IsCheck request.question → HasCheckNotes request report given text)
    → (status ≡ 5) ⊎ (status ≡ 6) ⊎ (IsCheck request.question → Gets request report given old new)
check_written request report given status told old new shown text none (inl six) same notes = absurd (omega arith)
check_written request report given status told old new shown text none (inr adds) same notes =
    inr (inr (λ check. (text, notes check, subst (λ t. Appends old new t) same adds)))

-- the notes of an answer
pub check_noted : (request : Request) (gathered : Gathered) (report : Report) (note : Option (String Global))
    (answered status : ℕ) (old mid new : Option (List ℕ)) → mid ≡ old → IsAnswer request gathered report answered
    → HasNote request gathered answered note → status ≡ answered → Gets request report note mid new
    → GetsCheckNotes request gathered status old new
check_noted request gathered report note answered status old mid new same is noted ends (text, notes, adds) = record {
  report = report;
  is_answer = subst (IsAnswer request gathered report) (sym ends) is;
  note = note;
  is_note = subst (λ n. HasNote request gathered n note) (sym ends) noted;
  text = text;
  notes = notes;
  adds = subst (λ o. Appends o new text) same adds;
}

-- a list is no check
pub no_list : {X : Type 0} (q : Question) (list : RequestedList) → AsksList q list → IsCheck q → X
no_list (questions.Explain profile test asked) list asks check = absurd asks
no_list (questions.Why profile test setting) list asks check = absurd asks
no_list (questions.WhyRuns profile test) list asks check = absurd asks
no_list (questions.List profile mode read asked) list asks (denies, is) = absurd (cc)
no_list (questions.ShowConfig profile keys with_hidden) list asks check = absurd asks
no_list (questions.Check deny_warnings) list asks check = absurd asks
