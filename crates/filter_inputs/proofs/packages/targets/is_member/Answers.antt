use Rattle.std.proofs.Common.{◌∙◌}
use Rattle.std.specs.Str.{bytes_eq}
use Rattle.filter_inputs.proofs.packages.Tests.{any_seen}
use Rattle.filter_inputs.proofs.packages.targets.is_member.Goals as goal

pub returns : goal.returns
returns c =
    c.has_id.ensures
    ∙ any_seen (λ member. bytes_eq member c.args.id.now) (λ member. member.now) c.args.members.now
