use Rattle.std.proofs.Common.{◌∙◌, ap}
use Rattle.rinqebo_request.specs.Files.RuleTables.{rule_in}
use Rattle.rinqebo_origins.proofs.rule_places.RulePlace.table.Goals as goal

pub returns : goal.returns
returns c =
    let rule = c.args.self.now in
    let position = c.place_of-place.result in (
      position,
      c.place_of-place.ensures,
      c.rule_at.ensures
          ∙ ap (λ list. rule_in c.args.layers.now position rule.profile.now list rule.index) c.list.ensures,
    )
