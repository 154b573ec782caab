use Rattle.std.proofs.Common.{◌≡◌, ◌++◌, None, length, option_map}
use denote.Text.{Utf8}
use denote.Shadow.{shadow}
use Rattle.std.specs.Str.{chars}
use Rattle.nextest_scripts.specs.ShellReading.{words_from}
use Rattle.nextest_scripts.specs.ShellWords.{texts_of}
use Rattle.nextest_scripts.proofs.shell_words.split_shell_words.Given as goal

abbrev pub invariant-loop-first : goal.invariant-loop-first
invariant-loop-first l = record {
  text : shadow (Utf8 l.rest);
  same : words_from None (chars l.fn.text)
      ≡ option_map (λ others. texts_of l.words ++ others) (words_from None (chars l.rest));
}

abbrev pub decreases-loop-first : goal.decreases-loop-first
decreases-loop-first l = length (chars l.rest)
