-- The five runs are the parts of an item.
use Rattle.std.proofs.Common.{◌∙◌, refl, sym, subst}
use Rattle.nextest_elements.proofs.Durations.{no_digits, no_unit, takes_item, positive_length, empty_length}
use Rattle.nextest_elements.specs.DurationSteps.{TakesItem}
use Rattle.nextest_elements.proofs.duration.read_item.Goals as goal

pub returns-then-is_empty : goal.returns-then-is_empty
returns-then-is_empty c = (
  refl,
  no_digits c.split_run.ensures c.split_run-2.ensures
      (empty_length _ (sym c.is_empty.ensures ∙ c.if-is_empty.true)),
)

pub returns-in_default : goal.returns-in_default
returns-in_default c = (
  refl,
  no_unit c.split_run.ensures c.split_run-2.ensures c.split_run-3.ensures c.split_run-4.ensures
      (positive_length _ (sym c.is_empty.ensures ∙ c.if-is_empty.false))
      (sym c.unit_size.ensures.size ∙ c.in_default.is),
)

pub returns : goal.returns
returns c =
    let taken = takes_item c.split_run.ensures c.split_run-2.ensures c.split_run-3.ensures
    c.split_run-4.ensures c.split_run-5.ensures
    (positive_length _ (sym c.is_empty.ensures ∙ c.if-is_empty.false))
    c.in-Some.size (sym c.unit_size.ensures.size ∙ c.in-Some.is) in
    subst (λ amount. TakesItem c.args.text.now amount c.split_run-5.result.1.now) (sym c.amount_of.ensures) taken
