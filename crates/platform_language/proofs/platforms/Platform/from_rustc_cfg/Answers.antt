-- No text writes two lists of lines.
use Rattle.std.specs.Str.Lines.{lines}
use Rattle.platform_language.proofs.platforms.CfgLineLemmas.{only_lines}
use Rattle.platform_language.proofs.platforms.Platform.from_rustc_cfg.Goals as goal

pub returns-in_err-lines-clause-only : goal.returns-in_err-lines-clause-only
returns-in_err-lines-clause-only c = only_lines (lines c.args.text.now)

pub returns-then-not-has_value-clause-only : goal.returns-then-not-has_value-clause-only
returns-then-not-has_value-clause-only c = only_lines (lines c.args.text.now)

pub returns-in_err-platform_of-clause-only : goal.returns-in_err-platform_of-clause-only
returns-in_err-platform_of-clause-only c = only_lines (lines c.args.text.now)

pub returns-clause-only : goal.returns-clause-only
returns-clause-only c = only_lines (lines c.args.text.now)
