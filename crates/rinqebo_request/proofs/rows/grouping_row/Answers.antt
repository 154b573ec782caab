use Rattle.std.proofs.Common.{◌∙◌, sym}
use Rattle.std.proofs.lemmas.Result.{IfOk-weaker}
use Rattle.rinqebo_request.proofs.rows.grouping_row.Goals as goal

pub returns : goal.returns
returns c =
    IfOk-weaker c.one_row.result _ _ (λ _ row. (sym c.is_empty.ensures ∙ c.if-not-is_empty.false, row)) c.one_row.ensures
