use Rattle.std.proofs.Common.{List, Some, ap, true}
use Rattle.nextest_elements.specs.Settings.{settings}
use Rattle.nextest_elements.specs.declared.setting.Setting.{Setting}
use Rattle.rinqebo_request.proofs.NamedKeys.{rows_with}
use Rattle.rinqebo_request.proofs.rows.all_rows.Goals as goal

pub returns : goal.returns
unfolding settings
returns c = ap (λ (more : List Setting). Some (rows_with true more)) c.in_ok-from_slice.ensures.items
