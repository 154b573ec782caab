use Rattle.rinqebo_diff.proofs.SidesOfFiles.{sources_files}
use Rattle.rinqebo_diff.proofs.SwappedSides.{sides_swapped}
use Rattle.rinqebo_diff.proofs.TurnedSides as turned
use Rattle.rinqebo_diff.proofs.laws.law_swapped_sides.Goals as goal

pub returns : goal.returns
returns c = record {
  tests = sides_swapped;
  alone = turned.alone_turned;
  run = turned.run_turned;
  changed = λ request left right diff other plain once also is are.
      turned.changed_turned request left right diff other once also is are plain;
  status = turned.status_turned;
  origins = λ request from to left right diff other is_left is_right once also is are.
      turned.alike_turned request left right diff other once also is are
      (sources_files request.from from left is_left) (sources_files request.to to right is_right);
  alike_status = λ request from to left right diff other is_left is_right once also is are.
      turned.alike_status request left right diff other once also is are
      (sources_files request.from from left is_left) (sources_files request.to to right is_right);
}
