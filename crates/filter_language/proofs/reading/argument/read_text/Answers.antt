use Rattle.std.proofs.Common.{string_bytes, arith}
use Rattle.filter_language.specs.Arguments.{text_turn}
use Rattle.filter_language.proofs.Turns.{begins}
use Rattle.filter_language.proofs.reading.argument.read_text.Goals as goal

pub pieces-init : goal.pieces-init
pieces-init c = record {
  utf8 = c.utf8.start;
  left = omega arith;
  whole = begins text_turn (string_bytes c.new-text.result) c.args.start.now c.new-text.ensures.bytes;
}
