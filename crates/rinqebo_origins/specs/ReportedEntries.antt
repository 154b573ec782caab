-- Leaves as they are reported.
use Rattle.std.specs.Prelude.{◌≡◌, ◌<◌, ℕ, List, Option, None, Some, string_bytes}
use Rattle.nextest_documents.specs.Entries.{Leaf, dotted}
use Rattle.nextest_documents.specs.Sections.{Region, of_profile, beside}
use Rattle.nextest_places.specs.declared.step.Step.{Step}
use Rattle.nextest_places.specs.declared.step.Step.TheVariants as steps
use Rattle.rinqebo_origins.specs.LeafValue.{IsValueOf}
use Rattle.rinqebo_report.specs.declared.origin.Origin.{Origin}
use Rattle.rinqebo_report.specs.declared.origin.Origin.TheVariants as origins
use Rattle.rinqebo_report.specs.declared.origin.Part.TheVariants.{Fields}
use Rattle.rinqebo_report.specs.declared.origin.FilePlace.{FilePlace}
use Rattle.rinqebo_report.specs.declared.origin.Written.{Written}
use Rattle.rinqebo_report.specs.declared.report.Entry.{Entry}

-- the key of a step; a position has none
abbrev pub step_key : Step → Option (List ℕ)
step_key (steps.Key key) = Some key.now
step_key (steps.Position position) = None

-- the profile that has a region, if one has it
abbrev pub profile_of : Region → Option (List ℕ)
profile_of (of_profile nearer name) = Some name
profile_of beside = None

-- A file writes a leaf at a place, under its profile.
pub record IsUnderProfile (leaf : Leaf) (place : FilePlace) (written : Written) : Type 0 where
  pub by_file : 0 < leaf.layer
  pub place_is : written.place ≡ place
  pub profile : profile_of leaf.region ≡ Some (string_bytes written.profile)
  pub part : written.part ≡ Fields

-- A file writes a leaf at a place, beside all profiles.
pub record IsBesideProfiles (leaf : Leaf) (place found : FilePlace) : Type 0 where
  pub by_file : 0 < leaf.layer
  pub place_is : found ≡ place
  pub region : profile_of leaf.region ≡ None

-- An origin is that of a leaf: the lowest layer is the table of defaults, and each other one is a
-- file.
abbrev pub IsOriginOf : Leaf → FilePlace → Origin → Type 0
IsOriginOf leaf place origins.BuiltIn = ⊥
IsOriginOf leaf place origins.DefaultTable = leaf.layer ≡ 0
IsOriginOf leaf place (origins.Written written) = IsUnderProfile leaf place written
IsOriginOf leaf place (origins.File found) = IsBesideProfiles leaf place found

-- An entry shows a leaf whose layer has it at a place: its key, its value, what writes it, and
-- whether it is hidden.
pub record IsEntryOf (leaf : Leaf) (place : FilePlace) (entry : Entry) : Type 0 where
  pub key : string_bytes entry.key ≡ dotted leaf.path
  pub value : IsValueOf leaf.value entry.value
  pub origin : IsOriginOf leaf place entry.origin
  pub hidden : entry.is_hidden ≡ leaf.hidden
