use Rattle.std.proofs.Common.{◌≡◌, ◌≤◌, ◌∷◌, [], Some, length}
use denote.Text.{Utf8}
use denote.Shadow.{shadow}
use Rattle.std.specs.Prelude.{string_bytes}
use Rattle.std.specs.Str.{chars}
use Rattle.nextest_scripts.specs.ShellReading.{words_from}
use Rattle.nextest_scripts.proofs.shell_words.read_word.Given as goal

abbrev pub invariant-loop-next : goal.invariant-loop-next
invariant-loop-next l = record {
  text : shadow (Utf8 l.rest);
  same : words_from (Some []) (l.fn.first ∷ chars l.fn.text)
      ≡ words_from (Some (chars (string_bytes l.word))) (chars l.rest);
  within : length (chars l.rest) ≤ length (chars l.fn.text);
}

abbrev pub decreases-loop-next : goal.decreases-loop-next
decreases-loop-next l = length (chars l.rest)
