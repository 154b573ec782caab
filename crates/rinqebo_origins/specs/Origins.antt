-- Where values and rules are written, as a report shows it.
use Rattle.std.specs.Prelude.{◌≡◌, ℕ, List, [], ◌∷◌, ◌++◌, Option, None, Some, codes, map, string_bytes}
use Rattle.nextest_places.specs.declared.step.Step.{Step}
use Rattle.nextest_places.specs.declared.step.Step.TheVariants as steps
use Rattle.nextest_tables.specs.Written.{Name}
use Rattle.rinqebo_request.specs.Files.Origins.{HasNoFile, IsFileAt, IsPathPlace}
use Rattle.rinqebo_request.specs.declared.files.layers.Layer.{Layer}
use Rattle.rinqebo_report.specs.declared.origin.Origin.{Origin}
use Rattle.rinqebo_report.specs.declared.origin.Origin.TheVariants as kinds
use Rattle.rinqebo_report.specs.declared.origin.Part.{Part}
use Rattle.rinqebo_report.specs.declared.origin.Part.TheVariants as parts
use Rattle.rinqebo_report.specs.declared.origin.Written.{Written}
use Rattle.rinqebo_origins.specs.RulePlaces.{Place}

-- a step of a path: to what is at a key, or at a position
pub data PathStep : Type 0 where
  key : List ℕ → PathStep
  position : ℕ → PathStep

-- a step as code holds it
abbrev pub step_view : Step → PathStep
step_view (steps.Key name) = key name.now
step_view (steps.Position index) = position index

-- the steps within the table of a profile to its own fields, or to one of its rules
abbrev pub part_steps : Part → List PathStep
part_steps parts.Fields = []
part_steps (parts.Override index) = key (codes "overrides") ∷ position index ∷ []
part_steps (parts.Script index) = key (codes "scripts") ∷ position index ∷ []

-- the steps to the fields of a profile, or to one of its rules
abbrev pub profile_steps : Name → Part → List PathStep
profile_steps profile part = key (codes "profile") ∷ key profile ∷ part_steps part

-- the steps to a setting, by its table, if it has one, and its key in that
abbrev pub key_steps : Option (List ℕ) → List ℕ → List PathStep
key_steps None name = key name ∷ []
key_steps (Some table) name = key table ∷ key name ∷ []

-- What is written has the right place: the profile that has it, which part of the profile it is,
-- and the place of its path in the layer at a position.
pub record IsWrittenAt (layers : List Layer) (at : ℕ) (profile : Name) (part : Part)
    (rest : List PathStep) (written : Written) : Type 0 where
  pub profile_reported : string_bytes written.profile ≡ profile
  pub part_reported : written.part ≡ part
  pub path : List Step
  pub spelled : map step_view path ≡ profile_steps profile part ++ rest
  pub place_reported : IsPathPlace layers at path written.place

-- What is at some steps from a rule is written in the file of the rule's source.
pub record IsWrittenInFile (layers : List Layer) (place : Place) (rest : List PathStep)
    (written : Written) : Type 0 where
  pub at : ℕ
  pub is_file : IsFileAt layers place.source at
  pub is_written : IsWrittenAt layers at place.profile place.part rest written

-- An origin is that of what is at some steps from a rule. A rule of a source that is none of the
-- layers has none.
abbrev pub IsOriginOf : List Layer → Place → List PathStep → Origin → Type 0
IsOriginOf layers place rest (kinds.Written written) = IsWrittenInFile layers place rest written
IsOriginOf layers place rest kinds.BuiltIn = HasNoFile layers place.source
IsOriginOf layers place rest kinds.DefaultTable = ⊥
IsOriginOf layers place rest (kinds.File other) = ⊥
