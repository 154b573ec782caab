use Rattle.std.proofs.Common.{Some, refl, ap, ◌∙◌}
use Rattle.nextest_tree.specs.Key.{key_text}
use Rattle.nextest_tree.specs.Schema.{missing}
use Rattle.nextest_shape.proofs.faults.listing.add_missing.Goals as goal

pub returns : goal.returns
returns c =
    let k = key_text c.args.key in
    c.in_ok-add_at.ensures (Some (missing k)) (record {
      cause = missing k;
      seen = ap (λ t. Some (missing t)) (c.in_ok-from_str.ensures.ok ∙ c.text.ensures);
      meant = refl;
    })
