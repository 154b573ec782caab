use Rattle.std.proofs.Common.{◌≡◌, ◌≤◌, length}
use denote.Text.{Utf8}
use denote.Shadow.{shadow}
use Rattle.filter_language.specs.Texts.{skipped}
use Rattle.filter_language.proofs.reading.texts.skip_blanks.Given as goal

abbrev pub invariant-loop-behind : goal.invariant-loop-behind
invariant-loop-behind l = record {
  utf8 : shadow (Utf8 l.rest);
  left : length l.rest ≤ length l.text;
  same : skipped l.text ≡ skipped l.rest;
}

abbrev pub decreases-loop-behind : goal.decreases-loop-behind
decreases-loop-behind l = length l.rest
