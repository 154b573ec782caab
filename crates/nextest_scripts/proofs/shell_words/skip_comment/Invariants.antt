use Rattle.std.proofs.Common.{◌≡◌, ◌≤◌, length}
use denote.Text.{Utf8}
use denote.Shadow.{shadow}
use Rattle.std.specs.Str.{chars}
use Rattle.nextest_scripts.specs.ShellReading.{words_from_comment}
use Rattle.nextest_scripts.proofs.shell_words.skip_comment.Given as goal

abbrev pub invariant-loop-first : goal.invariant-loop-first
invariant-loop-first l = record {
  text : shadow (Utf8 l.rest);
  same : words_from_comment (chars l.fn.text) ≡ words_from_comment (chars l.rest);
  within : length (chars l.rest) ≤ length (chars l.fn.text);
}

abbrev pub decreases-loop-first : goal.decreases-loop-first
decreases-loop-first l = length (chars l.rest)
