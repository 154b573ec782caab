use Rattle.std.proofs.Common.{refl, rules}
use Rattle.rinqebo_request.proofs.Choosing.{texts_or}
use Rattle.rinqebo_request.proofs.NamedKeys.{both}
use Rattle.rinqebo_request.proofs.rows.named_rows.Goals as goal

pub returns : goal.returns
returns c =
    both c.args.mode _ _ _ _ _ _ _ (search rules) c.in_ok-add_all.ensures.0 c.in_ok-add_all-2.ensures.0
    (texts_or c.values.result _ c.unwrap_or.result _ refl c.unwrap_or.ensures c.values.ensures)
    (texts_or c.values-2.result _ c.unwrap_or-2.result _ refl c.unwrap_or-2.ensures c.values-2.ensures) c.in_ok-add_all.ensures.1
    c.in_ok-add_all-2.ensures.1
