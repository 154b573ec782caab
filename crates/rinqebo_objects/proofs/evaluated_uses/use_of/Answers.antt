use Rattle.rinqebo_objects.proofs.evaluated_uses.use_of.Goals as goal

pub returns : goal.returns
returns g c = record {
  wrapper = c.run_wrapper_of-run_wrapper.ensures;
  enabled = c.in_ok-setup.ensures;
}
