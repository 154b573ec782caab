use Rattle.std.proofs.Common.{subst}
use Rattle.nextest_places.specs.Spans.Tokens.{IsTaken}
use Rattle.nextest_places.proofs.spans.Walk.{walk_skipped, walk_token}
use Rattle.nextest_places.proofs.spans.scan.tokens_of.Goals as goal

pub tokens-preserved-in-None : goal.tokens-preserved-in-None
tokens-preserved-in-None c =
    walk_skipped c.args.text.now c.tokens.rest.now c.in_ok-token.behind.now c.tokens.tokens.items c.tokens.invariant
    (subst (λ t. IsTaken c.args.text.now c.tokens.rest.now t c.in_ok-token.behind.now) c.in-None.is c.in_ok-token.ensures.taken)

pub tokens-preserved : goal.tokens-preserved
tokens-preserved c =
    rw c.in_ok-push-in-Some.ensures.items
    (walk_token c.args.text.now c.tokens.rest.now c.in_ok-token.behind.now c.tokens.tokens.items c.in-Some.token c.tokens.invariant
    (subst (λ t. IsTaken c.args.text.now c.tokens.rest.now t c.in_ok-token.behind.now) c.in-Some.is c.in_ok-token.ensures.taken))
