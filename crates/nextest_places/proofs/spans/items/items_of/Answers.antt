use Rattle.std.proofs.Common.{◌≡◌, ◌∙◌, length, subst, arith}
use Rattle.nextest_places.specs.Spans.Nesting.{Nests}
use Rattle.nextest_places.specs.Spans.Tokens.{IsTaken}
use Rattle.nextest_places.specs.Spans.Turns.{IsTurn}
use Rattle.nextest_places.proofs.spans.Turned.{reads_begun, reads_closed, reads_end, reads_passed, reads_skipped, reads_start}
use Rattle.nextest_places.proofs.spans.items.items_of.Goals as goal

pub tokens-init : goal.tokens-init
tokens-init c =
    rw c.new-items.ensures.items
    (reads_start c.args.text.now c.new-reader.result c.utf8.text c.new-reader.ensures.held c.new-reader.ensures.none.0 c.new-reader.ensures.none.1
    c.new-reader.ensures.none.2 c.new-state.result.nest.items c.new-state.ensures)

pub tokens-preserved-in-None : goal.tokens-preserved-in-None
tokens-preserved-in-None c =
    reads_skipped c.args.text.now c.tokens.rest.now c.in_ok-token.behind.now c.tokens.items.items c.tokens.reader c.tokens.state.nest.items
    c.next_token.new.state.nest.items c.tokens.invariant
    (subst (λ t. IsTaken c.args.text.now c.tokens.rest.now t c.in_ok-token.behind.now) c.in-None.is c.in_ok-token.ensures.taken)
    (subst (λ t. Nests t c.tokens.state.nest.items c.next_token.new.state.nest.items) c.in-None.is c.in_ok-token.ensures.nests)

pub tokens-preserved-in-Nothing : goal.tokens-preserved-in-Nothing
tokens-preserved-in-Nothing c =
    reads_passed c.args.text.now c.tokens.rest.now c.in_ok-token.behind.now c.tokens.items.items c.in-Some.token c.tokens.reader c.turn.new.self c.len.result
    c.is_header.result c.tokens.state.nest.items c.next_token.new.state.nest.items c.tokens.invariant
    (subst (λ t. IsTaken c.args.text.now c.tokens.rest.now t c.in_ok-token.behind.now) c.in-Some.is c.in_ok-token.ensures.taken)
    (subst (IsTurn c.tokens.reader c.turn.new.self c.len.result c.is_header.result c.in-Some.token.kind) c.in-Nothing.is c.in_ok-turn-in-Some.ensures)
    (subst (λ t. Nests t c.tokens.state.nest.items c.next_token.new.state.nest.items) c.in-Some.is c.in_ok-token.ensures.nests)

pub tokens-preserved-in_ok-push-in-Begins : goal.tokens-preserved-in_ok-push-in-Begins
tokens-preserved-in_ok-push-in-Begins c =
    let size : c.tokens.items.len ≡ length c.tokens.items.items = omega (arith, c.tokens.items.ok.0) in
    rw c.in_ok-push-in-Begins.ensures.items
    (reads_begun c.args.text.now c.tokens.rest.now c.in_ok-token.own.now c.in_ok-token.behind.now c.tokens.items.items c.in-Some.token c.tokens.reader
    c.turn.new.self c.len.result c.is_header.result c.in-Begins.parent c.in-Begins.role c.in_ok-kind-in-Begins.kind c.tokens.state.nest.items
    c.next_token.new.state.nest.items c.tokens.invariant
    (subst (λ t. IsTaken c.args.text.now c.tokens.rest.now t c.in_ok-token.behind.now) c.in-Some.is c.in_ok-token.ensures.taken) (c.len.ensures ∙ size)
    (subst (IsTurn c.tokens.reader c.turn.new.self c.len.result c.is_header.result c.in-Some.token.kind) c.in-Begins.is c.in_ok-turn-in-Some.ensures)
    (subst (λ t. Nests t c.tokens.state.nest.items c.next_token.new.state.nest.items) c.in-Some.is c.in_ok-token.ensures.nests)
    c.in_ok-kind-in-Begins.ensures c.in_ok-token.ensures.own)

pub tokens-preserved : goal.tokens-preserved
tokens-preserved c =
    reads_closed c.args.text.now c.tokens.rest.now c.in_ok-token.behind.now c.tokens.items.items c.close.new.items.items c.in-Some.token c.tokens.reader
    c.turn.new.self c.len.result c.in-Closes.index c.is_header.result c.tokens.state.nest.items c.next_token.new.state.nest.items c.tokens.invariant
    (subst (λ t. IsTaken c.args.text.now c.tokens.rest.now t c.in_ok-token.behind.now) c.in-Some.is c.in_ok-token.ensures.taken)
    (subst (IsTurn c.tokens.reader c.turn.new.self c.len.result c.is_header.result c.in-Some.token.kind) c.in-Closes.is c.in_ok-turn-in-Some.ensures)
    (subst (λ t. Nests t c.tokens.state.nest.items c.next_token.new.state.nest.items) c.in-Some.is c.in_ok-token.ensures.nests)
    c.in_ok-close-in-Closes.ensures.keeps c.in_ok-close-in-Closes.ensures.ends

pub returns : goal.returns
returns c =
    reads_end c.args.text.now c.tokens.rest.now c.tokens.items.items c.tokens.reader c.tokens.state.nest.items c.tokens.invariant
    (grind (arith, c.is_empty.ensures, c.tokens-test.ensures, c.tokens-test.false))
