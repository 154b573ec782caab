use Rattle.std.proofs.Common.{◌≡◌, ◌∙◌, ◌+◌, [], IsUtf8, ap, refl, rules, subst, sym}
use Rattle.toml_parser.specs.Reading.{path_view}
use Rattle.nextest_places.proofs.Sections.{rest_utf8}
use Rattle.nextest_places.specs.Entries.{kind_in}
use Rattle.nextest_places.specs.Pieces.{IsClosed}
use Rattle.nextest_places.proofs.Walking.{at_start, not_empty, over_blank, over_entry, piece_rest, piece_room, piece_shorter, walked}
use Rattle.nextest_places.proofs.walk.entries_of.Goals as goal

pub pieces-init : goal.pieces-init
pieces-init c = (
  search rules,
  refl,
  rw (c.new-entries.ensures.items, c.new-section.ensures.items)
      (at_start c.args.text.now c.requires),
)

pub returns-in_default : goal.returns-in_default
returns-in_default c =
    walked c.args.text.now c.pieces.low c.pieces.entries.items (path_view c.pieces.section.items) c.pieces.invariant.2

pub returns-in_default-checked_add : goal.returns-in_default-checked_add
returns-in_default-checked_add c =
    walked c.args.text.now c.pieces.low c.pieces.entries.items (path_view c.pieces.section.items) c.pieces.invariant.2

pub returns-then-not-is_closed : goal.returns-then-not-is_closed
returns-then-not-is_closed c =
    walked c.args.text.now c.pieces.low c.pieces.entries.items (path_view c.pieces.section.items) c.pieces.invariant.2

pub returns : goal.returns
returns c =
    walked c.args.text.now c.pieces.low c.pieces.entries.items (path_view c.pieces.section.items) c.pieces.invariant.2

pub pieces-smaller-in_ok-push : goal.pieces-smaller-in_ok-push
pieces-smaller-in_ok-push c =
    let text = c.args.text.now in
    let rest = c.pieces.rest.now in
    let low = c.pieces.low in
    let piece = c.in-Some.piece in
    let entries = c.pieces.entries.items in
    let section = path_view c.pieces.section.items in
    let piece_is = rw c.in-Some.is at c.in_ok-piece.ensures in
    let some : rest ≡ [] → ⊥ = not_empty rest (sym c.is_empty.ensures ∙ c.if-not-is_empty.true) in
    let room = piece_room text rest low piece c.pieces.invariant.1 piece_is some c.pieces.invariant.2.within in
    let closed : IsClosed rest piece.rest.now = rw c.if-not-is_closed.false at c.is_closed.ensures in
    piece_shorter text rest low piece entries section c.pieces.invariant.1 piece_is some room closed

pub pieces-smaller : goal.pieces-smaller
pieces-smaller c =
    let text = c.args.text.now in
    let rest = c.pieces.rest.now in
    let low = c.pieces.low in
    let piece = c.in-Some.piece in
    let entries = c.pieces.entries.items in
    let section = path_view c.pieces.section.items in
    let piece_is = rw c.in-Some.is at c.in_ok-piece.ensures in
    let some : rest ≡ [] → ⊥ = not_empty rest (sym c.is_empty.ensures ∙ c.if-not-is_empty.true) in
    let room = piece_room text rest low piece c.pieces.invariant.1 piece_is some c.pieces.invariant.2.within in
    let closed : IsClosed rest piece.rest.now = rw c.if-not-is_closed.false at c.is_closed.ensures in
    piece_shorter text rest low piece entries section c.pieces.invariant.1 piece_is some room closed

pub pieces-preserved-in_ok-push : goal.pieces-preserved-in_ok-push
pieces-preserved-in_ok-push c =
    let text = c.args.text.now in
    let rest = c.pieces.rest.now in
    let low = c.pieces.low in
    let piece = c.in-Some.piece in
    let entries = c.pieces.entries.items in
    let section = path_view c.pieces.section.items in
    let piece_is = rw c.in-Some.is at c.in_ok-piece.ensures in
    let some : rest ≡ [] → ⊥ = not_empty rest (sym c.is_empty.ensures ∙ c.if-not-is_empty.true) in
    let room = piece_room text rest low piece c.pieces.invariant.1 piece_is some c.pieces.invariant.2.within in
    let closed : IsClosed rest piece.rest.now = rw c.if-not-is_closed.false at c.is_closed.ensures in
    let further = piece_rest text rest low piece entries section c.pieces.invariant.1 piece_is some room closed in
    let made = c.in_ok-entry.ensures in
    let place = rw c.in-Some-checked_add.ensures.1 at made.lines in
    rw (c.in-Some-checked_add.ensures.1, c.in_ok-push.ensures.items, made.section) (
      subst IsUtf8 (sym further) (rest_utf8 text (low + piece.count) c.utf8.text),
      further,
      over_entry text rest low piece entries section c.pieces.invariant.1 piece_is some room closed c.pieces.invariant.2
          c.in-Some-definition.definition c.in-Some-definition.is c.in_ok-entry.entry
          (made.kind
          ∙ ap (kind_in c.in-Some-definition.definition.is_header) c.begins_element-is_element.ensures)
          made.parts place,
    )

pub pieces-preserved : goal.pieces-preserved
pieces-preserved c =
    let text = c.args.text.now in
    let rest = c.pieces.rest.now in
    let low = c.pieces.low in
    let piece = c.in-Some.piece in
    let entries = c.pieces.entries.items in
    let section = path_view c.pieces.section.items in
    let piece_is = rw c.in-Some.is at c.in_ok-piece.ensures in
    let some : rest ≡ [] → ⊥ = not_empty rest (sym c.is_empty.ensures ∙ c.if-not-is_empty.true) in
    let room = piece_room text rest low piece c.pieces.invariant.1 piece_is some c.pieces.invariant.2.within in
    let closed : IsClosed rest piece.rest.now = rw c.if-not-is_closed.false at c.is_closed.ensures in
    let further = piece_rest text rest low piece entries section c.pieces.invariant.1 piece_is some room closed in
    rw c.in-Some-checked_add.ensures.1 (
      subst IsUtf8 (sym further) (rest_utf8 text (low + piece.count) c.utf8.text),
      further,
      over_blank text rest low piece entries section c.pieces.invariant.1 piece_is some room closed c.pieces.invariant.2
          c.in_default-definition.is,
    )
