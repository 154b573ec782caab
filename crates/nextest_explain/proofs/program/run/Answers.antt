use Rattle.std.proofs.Common.{refl}
use Rattle.nextest_explain.proofs.program.run.Goals as goal

pub returns : goal.returns
returns g c = record {
  command = c.in_ok-command.command;
  is_command = c.in_ok-command.ensures;
  places_asked = refl;
  files = _;
  are_files = c.in_ok-sources.ensures.files;
  are_rows = c.in_ok-rows.ensures c.in_ok-sources.ensures.root;
}
