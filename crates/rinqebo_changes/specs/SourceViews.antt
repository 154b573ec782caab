-- Where a value comes from, without what may differ between the files of two sides: paths, lines
-- and how values are kept.
use Rattle.std.specs.Prelude.{ℕ, List, Option, option_map, map, slice_get, string_bytes, if◌then◌else◌}
use Rattle.rinqebo_report.specs.declared.origin.Origin.{Origin}
use Rattle.rinqebo_report.specs.declared.origin.Origin.TheVariants as origins
use Rattle.rinqebo_report.specs.declared.origin.Part.{Part}
use Rattle.rinqebo_report.specs.declared.origin.Source.{Source}
use Rattle.rinqebo_report.specs.declared.origin.SourceKind.{SourceKind}
use Rattle.rinqebo_report.specs.declared.origin.SourceKind.TheVariants as kinds
use Rattle.rinqebo_changes.specs.OriginViews.{written_view}
use Rattle.rinqebo_changes.specs.declared.change.SideRow.{SideRow}

-- An owner of a source: nextest has the defaults, and a tool, an organisation or the repository has
-- a file.
pub data Owner : Type 0 where
  of_nextest : Owner
  of_tool : List ℕ → Owner
  of_organisation : Owner
  of_repository : Owner

-- the owner of a source, whether a user named its file or it was found
abbrev pub owner_of : SourceKind → Owner
owner_of kinds.Default = of_nextest
owner_of (kinds.Tool name) = of_tool (string_bytes name)
owner_of kinds.Organisation = of_organisation
owner_of kinds.Explicit = of_repository
owner_of kinds.Discovered = of_repository

-- the owner of the source at a place of a side, if there is one
abbrev pub owner_at : List Source → ℕ → Option Owner
owner_at sources place = option_map (λ source. owner_of source.kind) (slice_get sources place)

-- An origin: nothing that is written, the defaults, a part of a profile in a file of an owner, or a
-- file of an owner.
pub data OwnedOrigin : Type 0 where
  built_in : OwnedOrigin
  default_table : OwnedOrigin
  written : Option Owner → List ℕ × Part → OwnedOrigin
  beside : Option Owner → OwnedOrigin

-- an origin of a side, by the sources of the side
abbrev pub owned_view : List Source → Origin → OwnedOrigin
owned_view sources origins.BuiltIn = built_in
owned_view sources origins.DefaultTable = default_table
owned_view sources (origins.Written w) = written (owner_at sources w.place.source) (written_view w)
owned_view sources (origins.File place) = beside (owner_at sources place.source)

-- Where the value of a row comes from: a list, which marks the test as ignored, or origins.
pub data RowSource : Type 0 where
  from_list : RowSource
  from_origins : List OwnedOrigin → RowSource

-- where the value of a row of a side comes from
abbrev pub source_view : List Source → SideRow → RowSource
source_view sources side =
    if side.is_ignored then from_list
    else from_origins (map (owned_view sources) side.row.origins.items)
