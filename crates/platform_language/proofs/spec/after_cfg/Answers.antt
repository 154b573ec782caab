use Rattle.std.proofs.Common.{codes}
use Rattle.platform_language.proofs.Prefixes.{stripped}
use Rattle.platform_language.proofs.spec.after_cfg.Goals as goal

pub returns : goal.returns
returns c = stripped (codes "cfg(") c.args.text.now c.strip_prefix.result c.strip_prefix.ensures.cases
