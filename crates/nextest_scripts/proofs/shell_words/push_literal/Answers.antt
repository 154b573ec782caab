use Rattle.std.proofs.lemmas.Str.{IsUtf8-string_bytes}
use Rattle.nextest_scripts.proofs.ShellSteps.{chars_pushed}
use Rattle.nextest_scripts.proofs.shell_words.push_literal.Goals as goal

pub returns : goal.returns
returns c = rw c.in_ok-push.ensures.bytes (chars_pushed _ c.args.c (IsUtf8-string_bytes c.args.word.now) c.ranges.c.0)
