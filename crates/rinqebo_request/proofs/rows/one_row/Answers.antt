use Rattle.std.proofs.Common.{◌∙◌, Some, ap, false, inl, inr, sym, true}
use Rattle.rinqebo_request.proofs.NamedKeys.{rows_with}
use Rattle.rinqebo_request.proofs.rows.one_row.Goals as goal

pub returns : goal.returns
returns c =
    inr (
      c.in_ok-setting.setting,
      c.in_ok-setting.ensures.ok,
      ap (λ settings. Some (rows_with false settings)) c.in_ok-from_slice.ensures.items,
    )

pub returns-then-eq : goal.returns-then-eq
returns-then-eq c = inl (sym c.eq.ensures ∙ c.if-eq.true, ap (λ settings. Some (rows_with true settings)) c.new.ensures.items)
