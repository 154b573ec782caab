use Rattle.std.proofs.Common.{◌∙◌, ap, refl}
use Rattle.std.specs.Prelude.{codes}
use Rattle.rinqebo_faults.specs.Spellings.{without_unit}
use Rattle.rinqebo_faults.proofs.Suffixes.{without_is}
use Rattle.rinqebo_faults.proofs.spellings.without_unit.Goals as goal

pub returns : goal.returns
unfolding without_unit
returns c =
    ap (λ r. r.now) c.unwrap_or.ensures
    ∙ without_is (codes "s") c.args.text.now c.strip_suffix.result c.args.text refl
    c.strip_suffix.ensures.cases
