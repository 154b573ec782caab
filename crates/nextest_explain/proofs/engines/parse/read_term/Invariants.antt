use Rattle.std.proofs.Common.{◌≡◌, ◌+◌, ◌≤◌, length, option_map}
use denote.Text.{Utf8}
use denote.Shadow.{shadow}
use Rattle.nextest_explain.specs.Engines.FilterTexts.{term_in, more_nots}
use Rattle.nextest_explain.proofs.engines.parse.read_term.Given as goal

abbrev pub invariant-loop-behind : goal.invariant-loop-behind
invariant-loop-behind l = record {
  utf8 : shadow (Utf8 l.rest);
  short : l.negations + length l.rest ≤ length l.piece;
  means : term_in l.piece ≡ option_map (more_nots l.negations) (term_in l.rest);
}

abbrev pub decreases-loop-behind : goal.decreases-loop-behind
decreases-loop-behind l = length l.rest
