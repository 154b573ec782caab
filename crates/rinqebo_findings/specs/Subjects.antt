-- What findings are about.
use Rattle.std.specs.Prelude.{◌≡◌, ℕ, Bool, true, false, List, [], ◌∷◌, ◌++◌, Option, None, Some, option_map, string_bytes}
use Rattle.std.specs.Borrow.{Bor}
use Rattle.std.specs.Option.{option_and_then, option_copied}
use Rattle.nextest_places.specs.declared.step.Step.{Step}
use Rattle.nextest_places.specs.declared.step.Step.TheVariants as steps
use Rattle.nextest_tree.specs.Node.{as_table}
use Rattle.nextest_tree.specs.declared.fault.ElementCause.{ElementCause}
use Rattle.nextest_tree.specs.declared.fault.ElementCause.TheVariants as causes
use Rattle.rinqebo_report.specs.Codes.Codes.{code_word}
use Rattle.rinqebo_report.specs.declared.codes.code.Code.{Code}
use Rattle.rinqebo_report.specs.declared.codes.code.Code.TheVariants.{WrongKind, MissingKey, InvalidValue, OutOfRange, MaxDelayBelowDelay, RefusedKey}
use Rattle.rinqebo_request.specs.declared.files.layers.Layer.{Layer}
use Rattle.rinqebo_request.specs.declared.files.places.SpanPart.{SpanPart}
use Rattle.rinqebo_request.specs.declared.files.places.SpanPart.TheVariants as parts
use Rattle.nextest_places.specs.Spans.Paths.{PathStep}
use Rattle.nextest_places.specs.Spans.Paths as paths
use Rattle.rinqebo_report.specs.declared.finding.Finding.{Finding}
use Rattle.rinqebo_report.specs.declared.finding.FindingStep.{FindingStep}
use Rattle.rinqebo_report.specs.declared.finding.FindingStep.TheVariants as own
use Rattle.rinqebo_report.specs.declared.finding.Level.{Level}
use Rattle.rinqebo_report.specs.declared.finding.Level.TheVariants as levels
use Rattle.rinqebo_faults.specs.Paths.{shown_path}
use Rattle.rinqebo_faults.specs.Tables.{IsStray}
use Rattle.rinqebo_findings.specs.Placed.{IsOnLines, IsPlacedAt}
use Rattle.rinqebo_findings.specs.Words.{SaysDelays, SaysLack, SaysOfValue, words_of}
use Rattle.rinqebo_findings.specs.Written.{is_table, value_at}

-- a step of the path of a finding
abbrev pub step_view : FindingStep → PathStep
step_view (own.Key key) = paths.key (string_bytes key)
step_view (own.Position place) = paths.position place

-- what a finding is about: how bad it is, what it is called, and the path that leads to it
pub record Subject : Type 0 where
  pub level : Level
  pub code : List ℕ
  pub path : Option (List ℕ)

abbrev pub subject : Finding → Subject
subject f =
    record {
      level = f.level;
      code = string_bytes f.code;
      path = option_map string_bytes f.path;
    }

-- an error at a path
abbrev pub error_at : Code → List Step → Subject
error_at code path =
    record { level = levels.Error; code = code_word code; path = Some (shown_path path) }

-- the code of what is wrong with a value
abbrev pub code_of : ElementCause → Code
code_of causes.WrongKind = WrongKind
code_of (causes.Missing key) = MissingKey
code_of (causes.BadValue given expected) = InvalidValue
code_of causes.OutOfRange = OutOfRange
code_of causes.UnknownField = RefusedKey
code_of causes.Memory = OutOfRange

-- the part of a value that is at fault: its key, where that is refused
abbrev pub part_of : ElementCause → SpanPart
part_of causes.UnknownField = parts.Key
part_of cause = parts.Value

-- a finding is an error of this code at a path, and at the place of its value or its key
pub record IsErrorAt (layers : List Layer) (source : Option ℕ) (code : Code) (part : SpanPart)
    (path : List Step) (finding : Finding) : Type 0 where
  pub about : subject finding ≡ error_at code path
  pub place : IsPlacedAt part layers source path finding.place

-- A finding is an error about delays that do not agree, which a table or values of it have: it is
-- on the lines of the table or of one of them.
pub record IsDelaysError (layers : List Layer) (source : Option ℕ) (table : List Step)
    (finding : Finding) : Type 0 where
  pub rest : List Step
  pub about : subject finding ≡ error_at MaxDelayBelowDelay (table ++ rest)
  pub place : IsOnLines layers source (table ++ rest) finding.place

-- the path of a table that lacks a key, or of the key that it has in its place
abbrev pub lack_path : List Step → Option (Bor (List ℕ)) → List Step
lack_path table None = table
lack_path table (Some key) = table ++ steps.Key key ∷ []

-- the part of it that is at fault: the value of the table, or the key that it has in place of the
-- one that it lacks
abbrev pub lack_part : Option (Bor (List ℕ)) → SpanPart
lack_part None = parts.Value
lack_part (Some key) = parts.Key

-- A finding is that of a value which is refused for a cause: an error with the code of the cause,
-- at the path and the place of the value, with the words for it.
pub record IsValueFinding (layers : List Layer) (source : Option ℕ) (cause : ElementCause)
    (path : List Step) (finding : Finding) : Type 0 where
  pub error : IsErrorAt layers source (code_of cause) (part_of cause) path finding
  pub words : SaysOfValue (value_at layers source path) cause path (words_of finding)

-- A finding is that a table lacks a key: it is at the key that the table has in its place, if there
-- is one, with the words for it.
pub record IsLackFinding (layers : List Layer) (source : Option ℕ) (key : List ℕ)
    (table : List Step) (stray : Option (Bor (List ℕ))) (finding : Finding) : Type 0 where
  pub error : IsErrorAt layers source MissingKey (lack_part stray) (lack_path table stray) finding
  pub words : SaysLack layers source key table (option_copied stray) (words_of finding)

-- a key is the one that a table has in place of one that it lacks, if a fault is that it lacks one:
-- the one that the table does not know and that is nearest
abbrev pub IsStrayFor :
    List Layer → Option ℕ → ElementCause → List Step → Option (Bor (List ℕ)) → Type 0
IsStrayFor layers source (causes.Missing key) table stray =
    IsStray table (option_and_then as_table (value_at layers source table)) (string_bytes key) stray
IsStrayFor layers source cause table stray = stray ≡ None

-- A finding is that delays of a table do not agree, with the words for it.
pub record IsDelaysFinding (layers : List Layer) (source : Option ℕ) (table : List Step)
    (finding : Finding) : Type 0 where
  pub error : IsDelaysError layers source table finding
  pub words : SaysDelays layers source table (words_of finding)

-- a finding is that a value is out of range: if that is a table, its delays are
abbrev pub IsRangeFinding :
    (has_table : Bool) → List Layer → Option ℕ → List Step → Finding → Type 0
IsRangeFinding true layers source path finding = IsDelaysFinding layers source path finding
IsRangeFinding false layers source path finding =
    IsValueFinding layers source causes.OutOfRange path finding

-- a finding is that of a value which is refused for another cause than that a table lacks a key
abbrev pub IsGivenFinding : List Layer → Option ℕ → ElementCause → List Step → Finding → Type 0
IsGivenFinding layers source causes.OutOfRange path finding =
    IsRangeFinding (is_table (value_at layers source path)) layers source path finding
IsGivenFinding layers source cause path finding = IsValueFinding layers source cause path finding

-- a finding is that of a value which is refused for a cause; if that is a table which lacks a key,
-- the table may have another one in its place
abbrev pub IsElementFinding :
    List Layer → Option ℕ → ElementCause → List Step → Option (Bor (List ℕ)) → Finding →
    Type 0
IsElementFinding layers source (causes.Missing key) path stray finding =
    IsLackFinding layers source (string_bytes key) path stray finding
IsElementFinding layers source cause path stray finding =
    IsGivenFinding layers source cause path finding
