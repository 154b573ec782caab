use Rattle.std.proofs.Common.{◌∙◌, ap, map, refl}
use Rattle.std.proofs.lemmas.Result.{IfOk-weaker}
use Rattle.rinqebo_request.proofs.Choosing.{texts_or}
use Rattle.rinqebo_request.proofs.words.leaf_keys.Goals as goal

pub returns : goal.returns
returns c =
    IfOk-weaker c.from_slice.result _ _
    (λ keys are. ap (map (λ key. key.now)) are ∙ texts_or c.values.result _ c.unwrap_or.result _ refl c.unwrap_or.ensures c.values.ensures)
    c.from_slice.ensures.items
