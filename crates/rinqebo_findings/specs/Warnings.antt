-- The findings of the warnings of a load.
use Rattle.std.specs.Prelude.{◌≡◌, ℕ, Bool, true, false, List, [], ◌∷◌, ◌++◌, codes, filter, map, MatchOption, Option, Some}
use Rattle.nextest_places.specs.Spans.Paths.{PathStep, path_step}
use Rattle.nextest_places.specs.Spans.Paths as paths
use Rattle.nextest_places.specs.declared.step.Step.{Step}
use Rattle.nextest_sources.specs.Sources.{Source}
use Rattle.nextest_sources.specs.Warnings.{Warning, unknown_keys, reserved_profiles, deprecated_scripts, empty_sections}
use Rattle.rinqebo_report.specs.Codes.Codes.{code_word}
use Rattle.rinqebo_report.specs.declared.codes.code.Code.{Code}
use Rattle.rinqebo_report.specs.declared.codes.code.Code.TheVariants.{EmptyScriptRule, OldScriptTable, ReservedProfile, UnknownKey}
use Rattle.rinqebo_report.specs.declared.finding.Finding.{Finding}
use Rattle.rinqebo_report.specs.declared.finding.Level.TheVariants as levels
use Rattle.rinqebo_request.specs.Files.Origins.{HasNoFile, IsFileAt}
use Rattle.rinqebo_request.specs.declared.files.layers.Layer.{Layer}
use Rattle.rinqebo_request.specs.declared.files.places.SpanPart.TheVariants as parts
use Rattle.rinqebo_faults.specs.Paths.{profile_path, shown_path}
use Rattle.rinqebo_findings.specs.Each.{AreOfEach}
use Rattle.rinqebo_findings.specs.Placed.{IsPlaceIn}
use Rattle.rinqebo_findings.specs.Subjects.{subject}
use Rattle.rinqebo_findings.specs.Words.{SaysUnknownKey, words_of}

-- A finding warns of a key at some steps of a source, by a code.
pub record WarnsAt (layers : List Layer) (source : Option ℕ) (code : Code) (steps : List Step)
    (finding : Finding) : Type 0 where
  pub about : subject finding ≡ record {
    level = levels.Warning;
    code = code_word code;
    path = Some (shown_path steps);
  }
  pub place : IsPlaceIn parts.Key layers source steps finding.place

-- A finding warns of the key at a path of a source, by a code.
pub record WarnsOf (layers : List Layer) (source : Option ℕ) (code : Code) (path : List PathStep)
    (finding : Finding) : Type 0 where
  pub steps : List Step
  pub are : map path_step steps ≡ path
  pub warns : WarnsAt layers source code steps finding

-- A finding warns of an unknown key of a source, with the words for it. No contract says which path
-- a text spells.
pub record WarnsOfKey (layers : List Layer) (source : Option ℕ) (finding : Finding) :
    Type 0 where
  pub steps : List Step
  pub warns : WarnsAt layers source UnknownKey steps finding
  pub words : SaysUnknownKey steps (words_of finding)

-- a position is that of a source among layers, if it is one of them
abbrev pub IsPositionOf : List Layer → Source → Option ℕ → Type 0
IsPositionOf layers source position =
    MatchOption position (HasNoFile layers source) (IsFileAt layers source)

-- the path of a profile
abbrev pub profile_steps : List ℕ → List PathStep
profile_steps name = paths.key (codes "profile") ∷ paths.key name ∷ []

-- findings report a warning of a source at a position
abbrev pub ReportWarningAt : List Layer → Option ℕ → Warning → List Finding → Type 0
ReportWarningAt layers position (unknown_keys source keys) findings =
    AreOfEach (λ key. WarnsOfKey layers position) keys findings
ReportWarningAt layers position (reserved_profiles source names) findings =
    AreOfEach (λ name. WarnsOf layers position ReservedProfile (profile_steps name)) names findings
ReportWarningAt layers position (deprecated_scripts source) findings =
    AreOfEach (WarnsOf layers position OldScriptTable) ((paths.key (codes "script") ∷ []) ∷ [])
    findings
ReportWarningAt layers position (empty_sections source profile count) findings =
    AreOfEach (WarnsOf layers position EmptyScriptRule)
    (profile_path profile (codes "scripts") ∷ []) findings

-- the source that a warning is about
abbrev pub source_of : Warning → Source
source_of (unknown_keys source keys) = source
source_of (reserved_profiles source names) = source
source_of (deprecated_scripts source) = source
source_of (empty_sections source profile count) = source

-- Findings report a warning: at the position of its source.
pub record ReportWarning (layers : List Layer) (warning : Warning) (findings : List Finding) :
    Type 0 where
  pub position : Option ℕ
  pub is : IsPositionOf layers (source_of warning) position
  pub reports : ReportWarningAt layers position warning findings

-- findings report warnings, one after another
abbrev pub ReportWarnings : List Layer → List Warning → List Finding → Type 0
ReportWarnings layers [] findings = findings ≡ []
ReportWarnings layers (warning ∷ warnings) findings =
    (own : List Finding) × (others : List Finding) × (findings ≡ own ++ others)
    × ReportWarning layers warning own × ReportWarnings layers warnings others

-- a warning is about other things than unknown keys
abbrev pub is_other : Warning → Bool
is_other (unknown_keys source keys) = false
is_other warning = true

-- the warnings about other things than unknown keys
abbrev pub other_warnings : List Warning → List Warning
other_warnings warnings = filter is_other warnings
