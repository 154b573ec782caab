-- What standard error gets of the result of a check.
use Rattle.std.specs.Prelude.{◌≡◌, ◌++◌, ◌⊎◌, Bool, List, None, Option, Some, String, [], codes, if◌then◌else◌, ℕ, string_bytes}
use Rattle.std.specs.Io.KnownBytes.{Appends}
use Rattle.std.specs.declared.alloc.Global.{Global}
use Rattle.rinqebo_report.specs.declared.format.Format.{Format}
use Rattle.rinqebo_report.specs.declared.format.Format.TheVariants as formats
use Rattle.rinqebo_report.specs.declared.report.Report.{Report}
use Rattle.rinqebo_request.specs.declared.files.gathering.Gathered.{Gathered}
use Rattle.rinqebo_request.specs.declared.request.Question.{Question}
use Rattle.rinqebo_request.specs.declared.request.Question.TheVariants as questions
use Rattle.rinqebo_request.specs.declared.request.Request.{Request}
use Rattle.rinqebo_results.specs.Answered.{IsAnswer}
use Rattle.rinqebo_results.specs.StandardError.{findings_beside, is_json, note_line}
use Rattle.rinqebo_run.specs.OpenFilters.{HasNote}

-- a request is a check
abbrev pub IsCheck : Question → Type 0
IsCheck question = (deny_warnings : Bool) × (question ≡ questions.Check deny_warnings)

-- the line of the note of a result, if it has one: a document of JSON has none beside it
abbrev pub note_lines : Bool → Option (String Global) → List ℕ
note_lines json None = []
note_lines json (Some said) = if json then [] else note_line (string_bytes said)

-- what the note on files says: it lists the files that a check read, or there are none
abbrev pub IsFilesNote : List ℕ → Type 0
IsFilesNote said =
    ((files : List ℕ) × (said ≡ codes "read " ++ files))
    ⊎ (said ≡ codes "found no configuration file; the defaults apply")

-- the line of the note on files, or nothing: the forms for other programs have no such note
abbrev pub IsFilesLine : Format → List ℕ → Type 0
IsFilesLine formats.Text line =
    (line ≡ []) ⊎ ((said : List ℕ) × IsFilesNote said × (line ≡ note_line said))
IsFilesLine formats.Grouped line = line ≡ []
IsFilesLine formats.Json line = line ≡ []
IsFilesLine formats.Concise line = line ≡ []
IsFilesLine (formats.Github folder) line = line ≡ []

-- a text grows by the line of the note on files, or by nothing
abbrev pub AddsFilesLine : Format → List ℕ → List ℕ → Type 0
AddsFilesLine format old new = (line : List ℕ) × IsFilesLine format line × (new ≡ old ++ line)

-- The notes on the result of a check: the page of the findings, if it is not part of the report's
-- own page, the line of the note on files, and the line of the note of the result. Nothing follows.
pub record HasCheckNotes (request : Request) (report : Report) (note : Option (String Global))
    (text : List ℕ) : Type 0 where
  pub line : List ℕ
  pub is_line : IsFilesLine request.format line
  pub are : text ≡ (findings_beside report request.format request.paper.colour ++ line)
      ++ note_lines (is_json request.format) note

-- Standard error gets the notes on the result of a check, the last of which says how many filters
-- were not looked up, if there are such filters.
pub record GetsCheckNotes (request : Request) (gathered : Gathered) (status : ℕ)
    (old new : Option (List ℕ)) : Type 0 where
  pub report : Report
  pub is_answer : IsAnswer request gathered report status
  pub note : Option (String Global)
  pub is_note : HasNote request gathered status note
  pub text : List ℕ
  pub notes : HasCheckNotes request report note text
  pub adds : Appends old new text
