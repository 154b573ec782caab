use Rattle.std.proofs.Common.{subst, sym}
use Rattle.std.proofs.lemmas.Result.{IfOk-weaker}
use Rattle.rinqebo_changes.specs.Keyed.{AreKeyedChanges}
use Rattle.rinqebo_diff.specs.Evaluated.{evaluation_of}
use Rattle.rinqebo_diff.specs.RunChanges.{AreRunChangesIf}
use Rattle.rinqebo_diff.proofs.sides.changed_run.Goals as goal

pub returns-then-not-with_run : goal.returns-then-not-with_run
returns-then-not-with_run c =
    let left = evaluation_of c.args.from.now c.args.left.now in
    let right = evaluation_of c.args.to.now c.args.right.now in
    subst (λ b. AreRunChangesIf b left right c.new.result.items) (sym c.if-not-with_run.true) c.new.ensures.items

pub returns : goal.returns
returns c =
    let left = evaluation_of c.args.from.now c.args.left.now in
    let right = evaluation_of c.args.to.now c.args.right.now in
    IfOk-weaker c.keyed_changes.result
    (λ changes. AreKeyedChanges c.in_ok-before.before.items c.in_ok-after.after.items changes.items)
    (λ changes. AreRunChangesIf c.args.with_run left right changes.items)
    (λ changes are. subst (λ b. AreRunChangesIf b left right changes.items) (sym c.if-not-with_run.false)
    (record {
      before = c.in_ok-before.before.items;
      after = c.in_ok-after.after.items;
      are_before = c.in_ok-before.ensures;
      are_after = c.in_ok-after.ensures;
      are_changes = are;
    })) c.keyed_changes.ensures
