use Rattle.std.proofs.Common.{◌∙◌, sym}
use Rattle.nextest_places.proofs.spans.Escapes.{escape_stops, gap_stops}
use Rattle.nextest_places.proofs.spans.piece.escape_piece.Goals as goal

pub returns-then-cuts_line-clause-rest : goal.returns-then-cuts_line-clause-rest
returns-then-cuts_line-clause-rest c =
    λ p e. c.skip_blank.ensures.rest ∙ gap_stops c.args.is_multi c.args.text.now (sym c.cuts_line.ensures ∙ c.if-cuts_line.true) p e

pub skip-requires-clause-there : goal.skip-requires-clause-there
skip-requires-clause-there c =
    (escape_stops c.args.is_multi c.args.text.now c.escape_len.result c.first.result c.requires (sym c.cuts_line.ensures ∙ c.if-cuts_line.false)
    c.first.ensures c.escape_len.ensures).0

pub skip-requires-clause-ascii : goal.skip-requires-clause-ascii
skip-requires-clause-ascii c =
    (escape_stops c.args.is_multi c.args.text.now c.escape_len.result c.first.result c.requires (sym c.cuts_line.ensures ∙ c.if-cuts_line.false)
    c.first.ensures c.escape_len.ensures).1

pub returns-clause-rest : goal.returns-clause-rest
returns-clause-rest c =
    λ p e. c.skip.ensures.rest
    ∙ (escape_stops c.args.is_multi c.args.text.now c.escape_len.result c.first.result c.requires (sym c.cuts_line.ensures ∙ c.if-cuts_line.false)
    c.first.ensures c.escape_len.ensures).2 p e

pub returns-then-cuts_line-clause-utf8 : goal.returns-then-cuts_line-clause-utf8
returns-then-cuts_line-clause-utf8 c = c.skip_blank.utf8

pub returns-clause-utf8 : goal.returns-clause-utf8
returns-clause-utf8 c = c.skip.utf8
