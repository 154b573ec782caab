use Rattle.std.proofs.Common.{false, arith}
use Rattle.std.proofs.lemmas.Fmt.{hex_byte}
use Rattle.std.proofs.lemmas.Grind.{common_steps}
use Rattle.rinqebo_report.proofs.toml_text.add_control.Goals as goal

pub returns : goal.returns
returns c = grind (arith, common_steps, hex_byte false c.args.c c.requires)
