use Rattle.std.proofs.Common.{◌++◌, ◌∙◌, ap, subst}
use Rattle.nextest_places.specs.Branches.{is_entry_in, numbers_at, numbers_where}
use Rattle.nextest_places.proofs.Adding.{IsAdded, all_added, next_added}
use Rattle.nextest_places.proofs.branch.branch_of.Goals as goal

pub loop-number-init : goal.loop-number-init
loop-number-init c = λ role keys.
    ap (λ ns. ns ++ numbers_where (is_entry_in role keys) 0 c.args.entries.now) (c.empty-branch.ensures role keys)

pub loop-number-preserved : goal.loop-number-preserved
loop-number-preserved c = λ role keys.
    let item = c.index-entries-number.result in
    let old = numbers_at role keys c.loop-number.branch in
    let new = numbers_at role keys c.add.new.branch in
    let added : IsAdded (is_entry_in role keys item) c.loop-number.number old new =
    (rw c.deref.ensures.value at c.in_ok-add.ensures) role keys in
    next_added (is_entry_in role keys) c.args.entries.now c.loop-number.number item old new c.loop-number-test.true
    (subst (λ e. IsAdded (is_entry_in role keys e) c.loop-number.number old new) c.index-entries-number.is added)
    ∙ c.loop-number.invariant role keys

pub returns : goal.returns
returns c = λ role keys.
    all_added (is_entry_in role keys) c.args.entries.now c.loop-number.number
    (numbers_at role keys c.loop-number.branch) (numbers_where (is_entry_in role keys) 0 c.args.entries.now)
    c.loop-number-test.false (c.loop-number.invariant role keys)
