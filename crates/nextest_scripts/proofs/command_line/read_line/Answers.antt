use Rattle.std.proofs.Common.{◌∙◌}
use Rattle.nextest_scripts.specs.CommandLine.{line_expected}
use Rattle.nextest_scripts.proofs.CommandLines.{line_empty, line_open, line_read}
use Rattle.nextest_scripts.proofs.command_line.read_line.Goals as goal

pub returns-in-Some-clause-reads : goal.returns-in-Some-clause-reads
returns-in-Some-clause-reads c = line_read _ _ _ _ (rw c.in-Some.ensures at c.in-Ok.ensures.words)

pub returns-in-None-clause-reads : goal.returns-in-None-clause-reads
unfolding line_expected
returns-in-None-clause-reads c f told =
    line_empty _ _ (rw c.in-None.ensures at c.in-Ok.ensures.words) ∙ c.bad_value.ensures f told

pub returns-in-Err-Unclosed-clause-reads : goal.returns-in-Err-Unclosed-clause-reads
unfolding line_expected
returns-in-Err-Unclosed-clause-reads c f told =
    line_open _ _ (c.in-Err-Unclosed.ensures.unclosed (cc))
    ∙ c.bad_value-in-Err-Unclosed.ensures f told
