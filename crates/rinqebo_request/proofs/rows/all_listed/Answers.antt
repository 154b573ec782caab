use Rattle.std.proofs.Common.{◌∙◌, sym}
use Rattle.rinqebo_request.proofs.Choosing.{none_of}
use Rattle.rinqebo_request.proofs.rows.all_listed.Goals as goal

pub returns : goal.returns
returns c = (
  sym c.is_empty.ensures ∙ c.if-not-is_empty.false,
  none_of c.args.by (sym c.is_some.ensures ∙ c.if-is_some.false),
  c.in_ok-all_rows.ensures,
)
