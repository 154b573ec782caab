use Rattle.std.proofs.Common.{rules, ◌≡◌, ◌-◌, ◌+◌, suc, length, sym, ◌∙◌, arith}
use Rattle.std.proofs.lemmas.Bool.{true≢false}
use Rattle.nextest_documents.specs.Layers.{layers_view, keys_view}
use Rattle.nextest_documents.proofs.Descending.{begins, goes_on, passes, finish}
use Rattle.nextest_documents.proofs.grounds.layers_with_leaves.Goals as goal
use Rattle.nextest_documents.proofs.grounds.layers_with_leaves.Goals.{then-branch+in_ok-push, else-branch}

pub down-init : goal.down-init
down-init c =
    let ls = c.args.layers.now in
    begins ls (keys_view c.args.path.now) (length ls - 0) _ (omega arith) c.new-positions.ensures.items

pub down-preserved : goal.down-preserved
down-preserved c =
    let ls = c.args.layers.now in
    let p = keys_view c.args.path.now in
    let at = length ls - 1 - c.down.back in
    let before : length ls - c.down.back ≡ suc at = omega (arith, c.down-test.true) in
    let after : length ls - (c.down.back + 1) ≡ at = omega (arith, c.down-test.true) in
    elim c.if-branch.branch [
      | then-branch+in_ok-push w ↦
          goes_on (layers_view ls) p _ _ at c.down.positions.items c.if-branch.positions.items
          c.down.invariant before after
          (search rules) (c.in_ok-shows_leaf_below.ensures.0 w.if-branch.true)
      | else-branch w ↦
          passes (layers_view ls) p _ _ at c.down.positions.items c.if-branch.positions.items c.down.invariant
          before after
          (search rules)
          (λ shows. true≢false (sym (c.in_ok-shows_leaf_below.ensures.1 shows) ∙ w.if-branch.false))
    ]

pub returns : goal.returns
returns c =
    let ls = c.args.layers.now in
    let none : length ls - c.down.back ≡ 0 = omega (arith, c.down-test.false) in
    finish (layers_view ls) (keys_view c.args.path.now) c.down.positions.items (rw none at c.down.invariant)
