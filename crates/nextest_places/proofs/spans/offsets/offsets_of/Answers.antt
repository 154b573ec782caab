use Rattle.std.proofs.Common.{◌≡◌, ℕ, List, Bool, true, false, rules, subst}
use Rattle.nextest_places.specs.Spans.Offsets.{IsString, ReadsOn}
use Rattle.nextest_places.specs.Spans.Pieces.{IsPiece}
use Rattle.nextest_places.proofs.spans.PositionWalk.{walk_char, walk_end, walk_gap, walk_less, walk_start}
use Rattle.nextest_places.proofs.spans.offsets.offsets_of.Goals.{then-not-piece+in_ok-push, else-not-piece}
use Rattle.nextest_places.proofs.spans.offsets.offsets_of.Goals as goal

pub pieces-init : goal.pieces-init
pieces-init c =
    let yes_is : c.in_ok-is_string.field-0 ≡ true = search rules in
    let is : IsString c.args.token.now = c.in_ok-is_string.ensures.0 yes_is in
    rw c.new-offsets.ensures.items (walk_start c.args.token.now c.content_of-rest.result.now is c.content_of-rest.ensures c.content_of-rest.utf8)

pub next_piece-requires-text-content : goal.next_piece-requires-text-content
next_piece-requires-text-content c = λ _. c.pieces.invariant.utf8

pub pieces-smaller : goal.pieces-smaller
pieces-smaller c =
    walk_less c.args.token.now c.pieces.offsets.items c.pieces.rest.now c.in-Some.piece.rest.now c.first.result c.is_multi.result c.in-Some.piece.is_gap
    c.first.ensures c.is_multi.ensures c.pieces.invariant c.in-Some.ensures

pub pieces-preserved : goal.pieces-preserved
pieces-preserved c =
    let says = λ (gap : Bool) (is : c.in-Some.piece.is_gap ≡ gap).
    subst (λ g. (bytes : List ℕ) → ReadsOn c.first.result c.is_multi.result c.pieces.rest.now bytes
    → IsPiece c.first.result c.is_multi.result c.pieces.rest.now bytes g c.in-Some.piece.rest.now) is c.in-Some.ensures in
    elim c.if-not-piece.branch [
      | then-not-piece+in_ok-push w ↦
          let none : c.in-Some.piece.is_gap ≡ false = search rules in
          rw (w.offsets-is, w.in_ok-push.ensures.items)
          (walk_char c.args.token.now c.pieces.offsets.items c.pieces.rest.now c.in-Some.piece.rest.now c.first.result c.is_multi.result
          c.first.ensures c.is_multi.ensures c.pieces.invariant (says false none))
      | else-not-piece w ↦
          let gap : c.in-Some.piece.is_gap ≡ true = search rules in
          rw w.offsets-is
          (walk_gap c.args.token.now c.pieces.offsets.items c.pieces.rest.now c.in-Some.piece.rest.now c.first.result c.is_multi.result
          c.first.ensures c.is_multi.ensures c.pieces.invariant (says true gap))
    ]

pub returns : goal.returns
returns c =
    rw c.in_ok-push-2.ensures.items
    (walk_end c.args.token.now c.pieces.offsets.items c.pieces.rest.now c.first.result c.is_multi.result c.first.ensures c.is_multi.ensures
    c.pieces.invariant c.in_default.ensures)
