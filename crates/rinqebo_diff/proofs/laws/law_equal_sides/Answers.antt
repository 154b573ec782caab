use Rattle.rinqebo_diff.proofs.EqualSides.{no_test_changes, nothing_changes, nothing_comes}
use Rattle.rinqebo_diff.proofs.SidesOfFiles.{sources_files}
use Rattle.rinqebo_diff.proofs.laws.law_equal_sides.Goals as goal

pub returns : goal.returns
returns c = record {
  tests = no_test_changes;
  whole = nothing_changes;
  origins = λ request files side diff is_side modes once is.
      nothing_comes request side diff (sources_files request.from files side is_side) modes once is;
}
