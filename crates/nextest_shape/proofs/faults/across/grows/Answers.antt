use Rattle.std.proofs.Common.{ap, ◌∙◌}
use Rattle.nextest_tree.specs.Leaf.{leaf_at}
use Rattle.nextest_elements.specs.RetryPolicy.{backoff_at, grows}
use Rattle.nextest_shape.proofs.faults.across.grows.Goals as goal

pub returns-in-Some : goal.returns-in-Some
returns-in-Some c = c.is_exponential.ensures ∙ ap (λ o. grows (leaf_at backoff_at o)) c.in-Some.ensures

pub returns-in-None : goal.returns-in-None
returns-in-None c = ap (λ o. grows (leaf_at backoff_at o)) c.in-None.ensures
