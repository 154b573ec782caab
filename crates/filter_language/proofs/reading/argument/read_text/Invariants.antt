use Rattle.std.proofs.Common.{◌≤◌, length, string_bytes}
use denote.Text.{Utf8}
use denote.Shadow.{shadow}
use Rattle.filter_language.specs.Arguments.{text_turn, body_in}
use Rattle.filter_language.proofs.Turns.{ReadsOn}
use Rattle.filter_language.proofs.reading.argument.read_text.Given as goal

abbrev pub invariant-pieces : goal.invariant-pieces
invariant-pieces l = record {
  utf8 : shadow (Utf8 l.rest);
  left : length l.rest ≤ length l.start;
  whole : ReadsOn text_turn (string_bytes l.text) l.rest (body_in text_turn l.start);
}

abbrev pub decreases-pieces : goal.decreases-pieces
decreases-pieces l = length l.rest
