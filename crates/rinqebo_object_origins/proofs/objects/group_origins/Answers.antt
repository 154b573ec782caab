use Rattle.std.proofs.Common.{◌∙◌, subst}
use Rattle.rinqebo_object_origins.specs.ObjectOrigins.{AreOriginsBeside, group_path}
use Rattle.rinqebo_object_origins.proofs.objects.group_origins.Goals as goal

pub returns : goal.returns
returns c = record {
  named = c.in_ok-from_str.ensures.ok ∙ c.as_str-name.ensures;
  origins = subst (λ name. AreOriginsBeside c.args.layers.now (group_path name) c.in_ok-origins.origins.items)
      c.as_str-name.ensures c.in_ok-origins.ensures;
}
