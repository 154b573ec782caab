use Rattle.std.proofs.Common.{◌∙◌, ◌<◌, ◌≤◌, ◌+◌, ap, sym, subst, arith}
use Rattle.std.proofs.lemmas.List.{take_all}
use Rattle.std.specs.List.{All}
use Rattle.std.specs.Option.{option_copied}
use Rattle.rinqebo_changes.proofs.ClassLists.{first_begun, first_lower, first_same, place_of, IsFirstOf}
use Rattle.rinqebo_changes.proofs.classes.first_of.Goals as goal
use Rattle.rinqebo_changes.proofs.classes.first_of.Goals.{then-item-first, else-item-first}

pub loop-item-init : goal.loop-item-init
loop-item-init c =
    first_begun c.args.items.now c.in_ok-first.field-0.now
    (sym c.first.ensures.value ∙ ap option_copied c.in_ok-first.was)

pub loop-item-preserved : goal.loop-item-preserved
loop-item-preserved c =
    let items = c.args.items.now in
    let i = c.loop-item.item-index in
    let x = c.item-item.result in
    let first = c.loop-item.first in
    elim c.if-item-first.branch [
      | then-item-first w ↦
          let lower : place_of x < place_of first = omega arith in
          subst (IsFirstOf items (i + 1)) (sym w.first-is)
          (first_lower items i x first c.loop-item-test.true c.item-item.is lower c.loop-item.invariant)
      | else-item-first w ↦
          let lower : place_of first ≤ place_of x = omega arith in
          subst (IsFirstOf items (i + 1)) (sym w.first-is)
          (first_same items i x first c.loop-item-test.true c.item-item.is lower c.loop-item.invariant)
    ]

pub returns : goal.returns
returns c =
    let so = c.loop-item.invariant in record {
      here = so.here;
      least = subst (All (λ y. place_of c.loop-item.first ≤ place_of y))
          (take_all c.loop-item.item-index c.args.items.now c.loop-item-test.false) so.least;
      first = so.first;
    }
