-- How comparisons of two runs end, and what a caller receives of them.
use Rattle.std.specs.Prelude.{◌≡◌, ℕ, ◌==◌, not, Bool, List, Option, None, Some, string_bytes}
use Rattle.std.specs.Str.{IsUtf8}
use Rattle.rinqebo_changes.specs.Documents.{IsDiffJson}
use Rattle.rinqebo_changes.specs.declared.diff.Diff.{Diff}
use Rattle.rinqebo_resolve.specs.Comparison.Requests.{IsRequestBetween}
use Rattle.rinqebo_diff.specs.Differences.{Differs}
use Rattle.rinqebo_diff.specs.Failing.{IsRefusedSide, LacksItsProfile, Loads, SideFails}
use Rattle.rinqebo_diff.specs.declared.loaded.SideName.{SideName}
use Rattle.rinqebo_diff.specs.declared.loaded.SideName.TheVariants as names
use Rattle.rinqebo_diff.specs.declared.request.DiffRequest.{DiffRequest}
use Rattle.rinqebo_diff.specs.declared.request.DiffSide.{DiffSide}
use Rattle.rinqebo_request.specs.declared.files.gathering.Gathered.{Gathered}
use Rattle.rinqebo_forms.specs.Runs.{RunText, run_of}
use Rattle.rinqebo_load.specs.declared.failure.Failure.{Failure}
use Rattle.rinqebo_resolve.specs.Asking.{RequestedText, AreFilesOf, requested_of}
use Rattle.rinqebo_resolve.specs.Endings.{IsReported, ReportsFailure, ending_status, ending_text}
use Rattle.rinqebo_resolve.specs.declared.ending.Ending.{Ending}
use Rattle.rinqebo_resolve.specs.declared.ending.Ending.TheVariants as ends
use Rattle.rinqebo_resolve.specs.declared.run.Run.{Run}
use Rattle.rinqebo_session.specs.declared.status.TheConstants.{DONE}

-- A text is the document of what changes, over the files that the sides of a request name.
pub record IsDocumentBetween (request : DiffRequest) (from to : Gathered) (text : List ℕ) : Type 0
  where
    pub diff : Diff
    pub differs : Differs request from to diff
    pub document : IsDiffJson diff text

-- an ending says of a side that has no result what holds of its files
abbrev pub IsCauseOn : DiffSide → Gathered → Ending → Type 0
IsCauseOn side gathered (ends.Answered text) = ⊥
IsCauseOn side gathered (ends.Refused text) = IsRefusedSide side gathered
IsCauseOn side gathered (ends.NoProfile text) = LacksItsProfile side gathered
IsCauseOn side gathered (ends.NoEngines reason) = Unit {0}
IsCauseOn side gathered (ends.NotUnderstood reason) = ⊥
IsCauseOn side gathered ends.NotText = ⊥
IsCauseOn side gathered ends.Memory = ⊥

-- A side has no result, and an ending says why: with the document of the program's failure, or a
-- reason.
pub record FailsOn (side : DiffSide) (gathered : Gathered) (ending : Ending) : Type 0 where
  pub failure : Failure
  pub fails : SideFails side gathered failure
  pub reports : ReportsFailure failure ending
  pub cause : IsCauseOn side gathered ending

-- how a request ends over the files of its sides, unless memory runs out: with the document of what
-- changes, or with why the left side has no result, or why the right one has none if the left one
-- loads
abbrev pub EndsBetween : DiffRequest → Gathered → Gathered → Option SideName → Ending → Type 0
EndsBetween request from to (Some names.From) ending = FailsOn request.from from ending
EndsBetween request from to (Some names.To) ending =
    Loads request.from from × FailsOn request.to to ending
EndsBetween request from to None (ends.Answered text) =
    IsDocumentBetween request from to (string_bytes text)
EndsBetween request from to None (ends.Refused text) = ⊥
EndsBetween request from to None (ends.NoProfile text) = ⊥
EndsBetween request from to None (ends.NoEngines reason) = ⊥
EndsBetween request from to None (ends.NotUnderstood reason) = ⊥
EndsBetween request from to None ends.NotText = ⊥
EndsBetween request from to None ends.Memory = ⊥

-- What two runs request of files ends so.
pub record EndsIn (from to : RequestedText) (with_origins : Bool) (left right : Gathered)
    (side : Option SideName) (ending : Ending) : Type 0 where
  pub request : DiffRequest
  pub is_request : IsRequestBetween from to with_origins request
  pub ends_so : EndsBetween request left right side ending

-- The comparison of two runs ends so.
pub record EndsOf (from to : RunText) (with_origins : Bool) (side : Option SideName)
    (ending : Ending) : Type 0 where
  pub left : Gathered
  pub right : Gathered
  pub are_left : AreFilesOf from left
  pub are_right : AreFilesOf to right
  pub ends_so : EndsIn (requested_of from) (requested_of to) with_origins left right side ending

-- The bytes of two requests are understood, and the comparison of their runs ends so.
pub record EndsUnderstood (from to : List ℕ) (with_origins : Bool) (side : Option SideName)
    (ending : Ending) : Type 0 where
  pub left : RunText
  pub right : RunText
  pub reads_left : run_of from ≡ Some left
  pub reads_right : run_of to ≡ Some right
  pub ends_so : EndsOf left right with_origins side ending

-- bytes are understood
abbrev pub IsUnderstood : List ℕ → Type 0
IsUnderstood request = (run : RunText) × (run_of request ≡ Some run)

-- something holds of the bytes of the left side's request, or of those of the right one's if those
-- of the left one are understood
abbrev pub HoldsOn : (List ℕ → Type 0) → List ℕ → List ℕ → Option SideName → Type 0
HoldsOn Holds from to None = ⊥
HoldsOn Holds from to (Some names.From) = Holds from
HoldsOn Holds from to (Some names.To) = IsUnderstood from × Holds to

-- how the comparison of the bytes of two requests ends, and which side has no result, unless memory
-- runs out: as that of the runs that they describe does, or the bytes of a side are not understood,
-- or are not UTF-8
abbrev pub EndsFor : List ℕ → List ℕ → Bool → Option SideName → Ending → Type 0
EndsFor from to with_origins side (ends.Answered text) =
    EndsUnderstood from to with_origins side (ends.Answered text)
EndsFor from to with_origins side (ends.Refused text) =
    EndsUnderstood from to with_origins side (ends.Refused text)
EndsFor from to with_origins side (ends.NoProfile text) =
    EndsUnderstood from to with_origins side (ends.NoProfile text)
EndsFor from to with_origins side (ends.NoEngines reason) =
    EndsUnderstood from to with_origins side (ends.NoEngines reason)
EndsFor from to with_origins side (ends.NotUnderstood reason) =
    HoldsOn (λ request. run_of request ≡ None) from to side
EndsFor from to with_origins side ends.NotText = HoldsOn (λ request. ¬ IsUtf8 request) from to side
EndsFor from to with_origins side ends.Memory = side ≡ None

-- the number of the side that has no result
abbrev pub side_number : Option SideName → ℕ
side_number None = 0
side_number (Some names.From) = 1
side_number (Some names.To) = 2

-- whether a value that is the same and comes from elsewhere is a change too, by a number
abbrev pub counts_origins : ℕ → Bool
counts_origins origins = not (origins == 0)

-- A text is the document of what changes for the bytes of two requests: they are understood, and it
-- is that document over the files that they describe.
pub record IsDiffFor (from to : List ℕ) (with_origins : Bool) (text : List ℕ) : Type 0 where
  pub left : RunText
  pub right : RunText
  pub reads_left : run_of from ≡ Some left
  pub reads_right : run_of to ≡ Some right
  pub left_files : Gathered
  pub right_files : Gathered
  pub are_left : AreFilesOf left left_files
  pub are_right : AreFilesOf right right_files
  pub request : DiffRequest
  pub is_request : IsRequestBetween (requested_of left) (requested_of right) with_origins request
  pub is_document : IsDocumentBetween request left_files right_files text

-- A comparison of the bytes of two requests is reported: it ends so, the caller receives that, and
-- the number of the side that has no result.
pub record IsCompared (from to : List ℕ) (origins : ℕ) (old new : List ℕ)
    (needed side status : ℕ) : Type 0 where
  pub name : Option SideName
  pub ending : Ending
  pub is_ending : EndsFor from to (counts_origins origins) name ending
  pub is_reported : IsReported ending old new needed status
  pub is_side : side ≡ side_number name

-- A run has the comparison of the bytes of two requests: it ended as they require, beside the
-- number of the side that has no result. With the first status each side has one, and the text is
-- the document of what changes.
pub record IsComparedRun (from to : List ℕ) (origins side : ℕ) (run : Run) : Type 0 where
  pub name : Option SideName
  pub is_ending : EndsFor from to (counts_origins origins) name run.ending
  pub is_side : side ≡ side_number name
  pub done : ending_status run.ending ≡ DONE
      → (side ≡ 0) × IsDiffFor from to (counts_origins origins) (ending_text run.ending)
