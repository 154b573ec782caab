use Rattle.std.proofs.Common.{◌∷◌, [], ◌++◌, ◌∙◌, ap, inl, inr, refl, sym}
use Rattle.rinqebo_results.proofs.InForce.{asks_here}
use Rattle.rinqebo_results.proofs.in_force.with_default_in_force.Goals as goal

pub returns-in_default : goal.returns-in_default
returns-in_default c = rw c.in_default.is refl

pub returns-then-not-asks_for_default : goal.returns-then-not-asks_for_default
returns-then-not-asks_for_default c =
    rw c.in-Some.is (inr (
      sym (c.asks_for_default.ensures ∙ asks_here c.args.keys.now) ∙ c.if-not-asks_for_default.true,
      refl,
    ))

pub returns : goal.returns
returns c =
    let entry = c.in_ok-default_entry.field-0 in
    let first = c.in_ok-push.ensures.items ∙ ap (λ none. none ++ entry ∷ []) c.new-told.ensures.items in
    rw c.in-Some.is (inl (
      sym (c.asks_for_default.ensures ∙ asks_here c.args.keys.now) ∙ c.if-not-asks_for_default.false,
      record {
        entry = entry;
        is_entry = c.in_ok-default_entry.ensures;
        are = c.in_ok-append.ensures.items ∙ (λ i. first i ++ c.in_ok-rest.ensures i);
      },
    ))
