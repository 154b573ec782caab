use Rattle.std.proofs.Common.{◌≡◌, length}
use denote.Text.{Utf8}
use denote.Shadow.{shadow}
use Rattle.platform_language.specs.Reading.{reading_view, read_on, read_body}
use Rattle.platform_language.proofs.reading.read_body.Given as goal

abbrev pub invariant-loop-left : goal.invariant-loop-left
invariant-loop-left l = record {
  utf8 : shadow (Utf8 l.rest);
  means : read_body l.body ≡ read_on (length l.body) l.left (reading_view l.reader) l.rest;
}

abbrev pub decreases-loop-left : goal.decreases-loop-left
decreases-loop-left l = l.left
