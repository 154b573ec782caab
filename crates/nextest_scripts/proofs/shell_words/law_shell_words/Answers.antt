use Rattle.nextest_scripts.proofs.ShellSplits.{splits_as_read, splits_read}
use Rattle.nextest_scripts.proofs.shell_words.law_shell_words.Goals as goal

pub returns : goal.returns
returns c text words = (splits_as_read text words, λ splits. splits_read splits)
