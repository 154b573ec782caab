use Rattle.std.proofs.Common.{◌≡◌, ◌∙◌, ◌+◌, [], ap, arith, drop, length, subst, sym, zero-add}
use Rattle.std.specs.Char.{len_utf8}
use Rattle.std.specs.Str.{IsCharBoundary}
use Rattle.std.proofs.lemmas.List.{nil_from_length}
use Rattle.std.proofs.lemmas.Str.{IsCharBoundary-past_char}
use Rattle.toml_parser.specs.Strings.{escape}
use Rattle.nextest_places.specs.Spans.Offsets.{ReadsOn, cuts_line}
use Rattle.nextest_places.proofs.spans.PositionTurns.{closing}
use Rattle.nextest_places.proofs.spans.Escapes.{char_piece, escape_first, escape_piece, escape_turn, no_content}
use Rattle.nextest_places.proofs.spans.piece.next_piece.Goals as goal

pub returns-then-closes : goal.returns-then-closes
returns-then-closes c =
    λ bytes on. closing c.args.quotes.delim c.args.quotes.is_multi c.args.content.now bytes c.requires.delim (sym c.closes.ensures ∙ c.if-closes.true) on

pub skip-requires-clause-there : goal.skip-requires-clause-there
skip-requires-clause-there c =
    omega (arith, escape_first c.args.quotes.delim c.args.content.now (sym c.starts_escape.ensures ∙ c.if-starts_escape.true))

pub skip-requires-clause-ascii : goal.skip-requires-clause-ascii
skip-requires-clause-ascii c =
    omega (arith, escape_first c.args.quotes.delim c.args.content.now (sym c.starts_escape.ensures ∙ c.if-starts_escape.true))

pub escape_piece-requires : goal.escape_piece-requires
escape_piece-requires c =
    let (bytes, on) = c.requires.content in
    let (p, found, left) =
    escape_turn c.args.quotes.delim c.args.quotes.is_multi c.args.content.now bytes (sym c.starts_escape.ensures ∙ c.if-starts_escape.true) on in
    (p, ap (escape c.args.quotes.is_multi) c.skip.ensures.rest ∙ found)

pub returns-then-starts_escape : goal.returns-then-starts_escape
returns-then-starts_escape c =
    λ bytes on. escape_piece c.args.quotes.delim c.args.quotes.is_multi c.args.content.now bytes c.escape_piece.result.is_gap c.escape_piece.result.rest.now
    (sym c.starts_escape.ensures ∙ c.if-starts_escape.true) on
    (c.escape_piece.ensures.gap ∙ ap (cuts_line c.args.quotes.is_multi) c.skip.ensures.rest)
    (λ p e. c.escape_piece.ensures.rest p (ap (escape c.args.quotes.is_multi) c.skip.ensures.rest ∙ e)) c.escape_piece.ensures.utf8

pub returns-in_err-c : goal.returns-in_err-c
returns-in_err-c c =
    λ bytes on.
    let size : length c.args.content.now ≡ 0 = ap length (sym c.chars.ensures.rest) ∙ c.in_err-c.ensures.steps.0.0 in
    let none : c.args.content.now ≡ [] = nil_from_length c.args.content.now size in
    absurd (no_content c.args.quotes.delim c.args.quotes.is_multi bytes c.requires.delim
    (subst (λ xs. ReadsOn c.args.quotes.delim c.args.quotes.is_multi xs bytes) none on))

pub range_from-requires : goal.range_from-requires
range_from-requires c =
    let past : IsCharBoundary c.args.content.now (0 + len_utf8 c.in_ok-c.c) =
    IsCharBoundary-past_char c.args.content.now _ 0 c.in_ok-c.c (omega arith) c.utf8.content (sym c.chars.ensures.rest ∙ c.in_ok-c.ensures.steps.0) in
    λ more. subst (IsCharBoundary c.args.content.now) (zero-add (len_utf8 c.in_ok-c.c) ∙ sym c.len_utf8-len.ensures.value) past

pub returns : goal.returns
returns c =
    λ bytes on. char_piece c.args.quotes.delim c.args.quotes.is_multi c.args.content.now bytes c.in_ok-c.c c.range_from.result.now _
    (sym c.chars.ensures.rest ∙ c.in_ok-c.ensures.steps.0)
    (c.range_from.ensures.value ∙ ap (λ n. drop n c.args.content.now) c.len_utf8-len.ensures.value)
    c.requires.delim (sym c.closes.ensures ∙ c.if-closes.false) (sym c.starts_escape.ensures ∙ c.if-starts_escape.false) on c.range_from.utf8
