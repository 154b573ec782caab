use Rattle.std.proofs.Common.{codes}
use Rattle.rinqebo_report.proofs.Prefixes.{stripped}
use Rattle.rinqebo_load.proofs.printed_host.host_of_line.Goals as goal

pub returns : goal.returns
returns c = stripped (codes "host: ") c.args.line.now c.strip_prefix.result c.strip_prefix.ensures.cases
