use Rattle.std.proofs.Common.{◌-◌, ◌∙◌, sym, arith, rules}
use Rattle.nextest_tree.specs.View.{tree_view}
use Rattle.rinqebo_findings.proofs.Written.{none_at, none_below, some_at}
use Rattle.rinqebo_findings.proofs.given.highest_below.Goals as goal

pub loop-place-preserved : goal.loop-place-preserved
loop-place-preserved c =
    c.loop-place.invariant
    ∙ none_at c.args.layers.now c.args.path.now (c.loop-place.place - 1) c.loop-place.place (omega arith) (search rules)

pub returns-in-Some : goal.returns-in-Some
returns-in-Some c =
    sym (c.loop-place.invariant
    ∙ some_at c.args.layers.now c.args.path.now (c.loop-place.place - 1) c.loop-place.place
    (tree_view c.in-Some.found.now) (omega arith) (search rules))

pub returns : goal.returns
returns c =
    sym (c.loop-place.invariant ∙ none_below c.args.layers.now c.args.path.now c.loop-place.place (omega arith))
