-- The files of two sides, as a reader gives them.
use Rattle.std.specs.Prelude.{◌≡◌, ℕ, List, string_bytes}
use Rattle.std.specs.Option.{ForSome}
use Rattle.nextest_sources.specs.Sources.{Outcome}
use Rattle.rinqebo_request.specs.Files.Gathering.{AreFilesFor, HasGatherCause}
use Rattle.rinqebo_request.specs.declared.files.gathering.Gathered.{Gathered}
use Rattle.rinqebo_request.specs.declared.files.gathering.GatherFault.{GatherFault}
use Rattle.rinqebo_diff.specs.declared.request.DiffRequest.{DiffRequest}
use Rattle.rinqebo_diff.specs.declared.request.DiffSide.{DiffSide}

-- Files are those that a side names: each is what a reader gives for its path, and the root is the
-- one that an option names, if one does.
pub record AreSideFiles (gives : List ℕ → Outcome → Type 0) (side : DiffSide) (input : Outcome)
    (gathered : Gathered) : Type 0 where
  pub root : ForSome side.request.files.root
      (λ named. string_bytes gathered.paths.workspace_root ≡ named.now)
  pub files : AreFilesFor gives side.request input gathered

-- A fault has a cause in the files of the first side that can't be gathered: in those of the left
-- side, or in those of the right side behind the files of the left one.
pub data HasSideCause (gives : List ℕ → Outcome → Type 0) (request : DiffRequest) (input : Outcome)
    (fault : GatherFault) : Type 0 where
  of_left : HasGatherCause gives request.from.request input fault
      → HasSideCause gives request input fault
  of_right : (from : Gathered) → AreSideFiles gives request.from input from
      → HasGatherCause gives request.to.request input fault
      → HasSideCause gives request input fault
