use Rattle.std.proofs.Common.{◌≡◌, ap, ◌∙◌}
use Rattle.nextest_elements.specs.Owner.{is_same_owner, owner_of_name}
use Rattle.nextest_elements.specs.OwnerView.{owner_view}
use Rattle.nextest_rules.proofs.ill_named.may_define.Goals as goal

pub returns : goal.returns
returns c =
    c.eq.ensures ∙ ap (λ o. is_same_owner o (owner_view c.owner-2.result)) c.owner.ensures
    ∙ ap (λ o. is_same_owner (owner_of_name c.args.name.now) o) c.owner-2.ensures
