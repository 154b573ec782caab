use Rattle.rinqebo_results.proofs.leaves.shown_entries.Goals as goal

pub returns : goal.returns
returns c = record {
  counted = c.in_ok-counted.counted.items;
  in_force = c.in_ok-entries.entries.items;
  spelled = c.in_ok-spelled.spelled.items;
  are = c.in_ok-append.ensures.items;
  counted_shown = c.in_ok-counted.ensures;
  is_in_force = c.in_ok-entries.ensures;
  spelled_out = c.in_ok-spelled.ensures;
}
