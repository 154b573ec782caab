use Rattle.std.proofs.Common.{◌++◌, ◌∷◌, [], subst, sym}
use Rattle.std.proofs.lemmas.List.{append_assoc, append-nil}
use Rattle.rinqebo_checks.specs.Rounds.{AreSome}
use Rattle.rinqebo_checks.proofs.Choosing.{none_chosen, some_with, some_without}
use Rattle.rinqebo_checks.proofs.warned.new_ones.Goals as goal

pub loop-warning-init : goal.loop-warning-init
loop-warning-init c = λ more are.
    let all = c.args.warnings.items in
    subst (λ chosen. AreSome all (chosen ++ more)) (sym c.new-chosen.ensures.items)
    (subst (λ rest. AreSome rest more) c.into_iter-warning-iterator.ensures.into_iter_gives.0 are)

pub loop-warning-preserved-then-not-branch : goal.loop-warning-preserved-then-not-branch
loop-warning-preserved-then-not-branch c = λ more are.
    c.loop-warning.invariant more
    (subst (λ rest. AreSome rest more) (sym c.in-Some.ensures.steps.0)
    (some_without c.in-Some.warning c.next.new.self.rest.items more are))

pub loop-warning-preserved : goal.loop-warning-preserved
loop-warning-preserved c = λ more are.
    let all = c.args.warnings.items in
    let warning = c.in-Some.warning in
    let chosen = c.loop-warning.chosen.items in
    subst (λ longer. AreSome all (longer ++ more)) (sym c.in_ok-push.ensures.items)
    (subst (AreSome all) (sym (append_assoc chosen (warning ∷ []) more))
    (c.loop-warning.invariant (warning ∷ more)
    (subst (λ rest. AreSome rest (warning ∷ more)) (sym c.in-Some.ensures.steps.0)
    (some_with warning c.next.new.self.rest.items more are))))

pub returns : goal.returns
returns c =
    subst (AreSome c.args.warnings.items) (append-nil c.loop-warning.chosen.items)
    (c.loop-warning.invariant [] (none_chosen c.loop-warning.warning-iterator.rest.items))
