use Rattle.rinqebo_report.proofs.Prefixes.{stripped}
use Rattle.rinqebo_report.proofs.origin_text.after_prefix.Goals as goal

pub returns : goal.returns
returns c =
    stripped c.args.prefix.now c.args.text.now c.strip_prefix.result c.strip_prefix.ensures.cases
