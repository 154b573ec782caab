use Rattle.std.proofs.Common.{string_bytes}
use Rattle.rinqebo_faults.specs.Edits.{edits_view}
use Rattle.rinqebo_faults.proofs.MarkSets.{none_at, none_in}
use Rattle.rinqebo_faults.proofs.edits.Edits.new.Goals as goal

pub returns : goal.returns
unfolding edits_view
returns c = λ i. record {
  removed = λ name. none_in c.new.result c.new.ensures.empty name i;
  replaced = λ mark. none_at (λ text. text.now) c.new-2.result c.new-2.ensures.empty mark i;
  added = λ mark. none_at string_bytes c.new-3.result c.new-3.ensures.empty mark i;
  left_out = c.new-4.ensures i;
}
