use Rattle.std.proofs.Common.{false}
use Rattle.rinqebo_faults.specs.Edits.{names_view}
use Rattle.rinqebo_faults.proofs.MarkSets.{none_in}
use Rattle.rinqebo_faults.proofs.left_out.Names.new.Goals as goal

pub returns : goal.returns
unfolding names_view
returns c = λ i. record {
  any = false;
  named = λ name. none_in c.new.result c.new.ensures.empty name i;
}
