-- Each part by itself.
use Rattle.std.proofs.Common.{rules, arith}
use Rattle.std.proofs.lemmas.Grind.{common_steps}
use Rattle.nextest_elements.proofs.duration.split_run.Goals as goal

pub returns : goal.returns
returns c = record { joined = search rules; alike = search rules; longest = grind (arith, common_steps) }
