use Rattle.std.proofs.Common.{ap, sym, ◌∙◌}
use Rattle.nextest_sources.specs.Causes.{both_script_keys}
use Rattle.nextest_sources.specs.Sources.{source_view}
use Rattle.nextest_rules.specs.Steps.{if_true}
use Rattle.nextest_rules.proofs.Telling.{told_at}
use Rattle.nextest_rules.proofs.script_kinds.check_script_keys.Goals as goal

pub returns : goal.returns
returns c =
    told_at (source_view c.args.source.now) _ both_script_keys c.at.result
    (ap (if_true both_script_keys) (sym c.has_both_keys.ensures ∙ c.if-not-has_both_keys.false)) c.at.ensures
