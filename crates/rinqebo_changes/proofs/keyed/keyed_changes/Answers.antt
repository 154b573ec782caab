use Rattle.std.proofs.Common.{◌≡◌, ◌∙◌, [], false}
use Rattle.std.proofs.lemmas.Result.{IfOk-weaker}
use Rattle.rinqebo_changes.specs.Changes.{changed_rows, is_change}
use Rattle.rinqebo_changes.specs.Keyed.{AreKeyedChanges}
use Rattle.rinqebo_changes.proofs.keyed.keyed_changes.Goals as goal

pub returns : goal.returns
returns c =
    IfOk-weaker c.changed_rows.result
    (λ changes. changes.items ≡ changed_rows (is_change [] [] false) c.in_ok-from.from.items c.in_ok-to.to.items)
    (λ changes. AreKeyedChanges c.args.from.items c.args.to.items changes.items)
    (λ changes is. record {
      left = c.in_ok-rows.rows.left.items;
      right = c.in_ok-rows.rows.right.items;
      aligned = c.in_ok-rows.ensures;
      are_changes = is ∙ (λ i. changed_rows (is_change [] [] false) (c.in_ok-from.ensures i) (c.in_ok-to.ensures i));
    }) c.changed_rows.ensures
