use Rattle.std.proofs.Common.{subst, sym}
use Rattle.rinqebo_request.specs.ArgumentTable.{IsArgument}
use Rattle.rinqebo_request.proofs.Adding.{repeating}
use Rattle.rinqebo_diff.proofs.Arguments.{hidden, plain_rule, some_choice, some_modes, tools_rule}
use Rattle.rinqebo_diff.proofs.options.right_option.Goals as goal

pub returns-in-text-2 : goal.returns-in-text-2
returns-in-text-2 c = (
  some_modes,
  some_choice,
  subst (λ rule. IsArgument rule c.action.result) (sym (tools_rule some_modes c.args.name.now c.in-text-2.is))
      (repeating _ _ _ (hidden _ _ _ _ c.option.ensures c.hide-one.ensures) c.action.ensures),
)

pub returns-in_default : goal.returns-in_default
returns-in_default c = (
  some_modes,
  some_choice,
  subst (λ rule. IsArgument rule c.hide-one.result)
      (sym (plain_rule some_modes c.args.name.now c.in_default.not-text c.in_default.not-text-2))
      (hidden _ _ _ _ c.option.ensures c.hide-one.ensures),
)
