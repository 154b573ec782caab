use Rattle.std.proofs.Common.{◌∙◌, Some, ap, sym}
use Rattle.rinqebo_request.specs.Lines.{line_of}
use Rattle.rinqebo_request.specs.Rows.{is_no_row, keys_of}
use Rattle.rinqebo_request.proofs.NamedKeys.{all_of_none, no_keys, some_keys}
use Rattle.rinqebo_request.proofs.rows.explained_rows.Goals as goal

pub returns-then-is_empty : goal.returns-then-is_empty
returns-then-is_empty c =
    let keys = keys_of (line_of c.args.matches.now) in
    let none = no_keys c.args.mode keys c.in_ok-named.ensures.1
    (ap is_no_row (sym c.in_ok-named.ensures.0) ∙ sym c.is_empty.ensures ∙ c.if-is_empty.true) in
    record {
      known = c.in_ok-named.ensures.1;
      are = c.in_ok-all_rows.ensures ∙ ap Some (all_of_none c.args.mode keys none);
    }

pub returns : goal.returns
returns c =
    let keys = keys_of (line_of c.args.matches.now) in
    record {
      known = c.in_ok-named.ensures.1;
      are = c.requested.ensures ∙ ap Some (c.in_ok-named.ensures.0
          ∙ some_keys c.args.mode keys (ap is_no_row (sym c.in_ok-named.ensures.0) ∙ sym c.is_empty.ensures ∙ c.if-is_empty.false));
    }
