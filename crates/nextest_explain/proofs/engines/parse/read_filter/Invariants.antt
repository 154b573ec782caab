use Rattle.std.proofs.Common.{◌≡◌, length}
use denote.Text.{Utf8}
use denote.Shadow.{shadow}
use Rattle.nextest_explain.specs.Engines.FilterTexts.{pieces, parts_so_far, filter_after, filter_in}
use Rattle.nextest_explain.proofs.engines.parse.read_filter.Given as goal

abbrev pub invariant-loop-piece : goal.invariant-loop-piece
invariant-loop-piece l = record {
  utf8 : shadow (Utf8 l.rest);
  means : filter_in l.text ≡ filter_after (parts_so_far l.read) (pieces l.rest);
}

abbrev pub decreases-loop-piece : goal.decreases-loop-piece
decreases-loop-piece l = length l.rest
