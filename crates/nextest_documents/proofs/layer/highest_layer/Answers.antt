use Rattle.std.proofs.Common.{◌≡◌, ◌<◌, ◌-◌, suc, length, drop, subst, sym, arith}
use Rattle.std.specs.List.{AllByRecursion}
use Rattle.nextest_documents.specs.Layers.{keys_view}
use Rattle.nextest_documents.proofs.Highest.{LosesWay, found, hidden, nowhere}
use Rattle.nextest_documents.proofs.layer.highest_layer.Goals as goal

pub returns-in-Blocked : goal.returns-in-Blocked
returns-in-Blocked c =
    let p = keys_view c.args.path.now in
    let ls = c.args.layers.now in
    let at = length ls - 1 - c.down.back in
    let within : at < length ls = omega (arith, c.down-test.true) in
    let after : length ls - c.down.back ≡ suc at = omega (arith, c.down-test.true) in
    hidden p ls at c.index-layers-position.result within c.index-layers-position.is
    (subst (λ n. AllByRecursion (LosesWay p) (drop n ls)) after c.down.invariant) (sym c.in-Blocked.ensures)

pub returns-in-Whole : goal.returns-in-Whole
returns-in-Whole c =
    let p = keys_view c.args.path.now in
    let ls = c.args.layers.now in
    let at = length ls - 1 - c.down.back in
    let within : at < length ls = omega (arith, c.down-test.true) in
    let after : length ls - c.down.back ≡ suc at = omega (arith, c.down-test.true) in
    found p ls at c.index-layers-position.result within c.index-layers-position.is
    (subst (λ n. AllByRecursion (LosesWay p) (drop n ls)) after c.down.invariant) (sym c.in-Whole.ensures)

pub returns : goal.returns
returns c =
    let p = keys_view c.args.path.now in
    let ls = c.args.layers.now in
    let none : length ls - c.down.back ≡ 0 = omega (arith, c.down-test.false) in
    nowhere p ls (subst (λ n. AllByRecursion (LosesWay p) (drop n ls)) none c.down.invariant)
