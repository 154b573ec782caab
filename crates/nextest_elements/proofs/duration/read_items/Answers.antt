-- The total and an item more are the total of what has been read then.
use Rattle.std.proofs.Common.{◌≡◌, ◌+◌, ◌∙◌, [], sym, ap}
use Rattle.std.specs.Prelude.{option_map}
use Rattle.nextest_elements.specs.DurationSteps.{TakesItem}
use Rattle.nextest_elements.proofs.Durations.{empty_length, positive_length, more_items, last_item, some_sum_of-sum_of}
use Rattle.nextest_elements.proofs.duration.read_items.Goals as goal

pub returns-then-is_empty : goal.returns-then-is_empty
returns-then-is_empty c =
    let so_far = c.loop-amount.invariant in
    let item : TakesItem c.loop-amount.rest.now c.in_ok-amount.amount c.in_ok-amount.after.now =
    c.in_ok-amount.ensures in
    let ended : c.in_ok-amount.after.now ≡ [] = empty_length _ (sym c.is_empty.ensures ∙ c.if-is_empty.true) in (
      so_far.0 + item.n,
      c.sum_of-total.ensures so_far.0 item.n so_far.1 item.amount_is,
      so_far.2 ∙ more_items so_far.0 item.n _ _ item.sum_is ∙ last_item so_far.0 item.n _ ended,
    )

pub loop-amount-preserved : goal.loop-amount-preserved
loop-amount-preserved c =
    let so_far = c.loop-amount.invariant in
    let item : TakesItem c.loop-amount.rest.now c.in_ok-amount.amount c.in_ok-amount.after.now =
    c.in_ok-amount.ensures in
    let some_left = positive_length _ (sym c.is_empty.ensures ∙ c.if-is_empty.false) in (
      so_far.0 + item.n,
      c.sum_of-total.ensures so_far.0 item.n so_far.1 item.amount_is,
      so_far.2 ∙ more_items so_far.0 item.n _ _ item.sum_is
          ∙ ap (option_map (λ m. so_far.0 + item.n + m)) (sym (some_sum_of-sum_of _ item.tight some_left)),
    )
