use Rattle.std.proofs.Common.{◌≡◌, ◌∙◌, None, Some, ap, codes, false, if◌then◌else◌, option_map, subst, sym, true}
use Rattle.std.proofs.lemmas.Result.{IfOk-weaker}
use Rattle.rinqebo_request.specs.Lines.{IsFlag, line_of, value_at}
use Rattle.rinqebo_request.specs.Rows.{AreRowsBy, Rows, is_no_row, keys_of}
use Rattle.rinqebo_request.proofs.NamedKeys.{listed_keys, no_keys}
use Rattle.rinqebo_request.proofs.rows.listed_rows.Goals as goal

pub returns-then-is_on : goal.returns-then-is_on
returns-then-is_on c =
    let line = line_of c.args.matches.now in
    let named = c.in_ok-named.ensures in
    IfOk-weaker c.all_listed.result _ _
    (λ rows is. (
      true,
      subst (IsFlag (codes "all") line) c.if-is_on.true c.is_on.ensures,
      (
        sym c.value-by.ensures ∙ ap (option_map (λ text. text.now)) is.1,
        no_keys c.args.mode (keys_of line) named.1 (ap is_no_row (sym named.0) ∙ is.0),
        is.2,
      ),
    ))
    c.all_listed.ensures

pub returns-in-Some : goal.returns-in-Some
returns-in-Some c =
    let line = line_of c.args.matches.now in
    let named = c.in_ok-named.ensures in
    let by : Some c.in-Some.key.now ≡ value_at (codes "by") line =
    sym (ap (option_map (λ text. text.now)) c.in-Some.is) ∙ c.value-by.ensures in
    IfOk-weaker c.grouping_row.result _ _
    (λ rows is. (
      false,
      subst (IsFlag (codes "all") line) c.if-is_on.false c.is_on.ensures,
      subst (λ by. AreRowsBy c.args.mode false by (keys_of line) rows) by
          (no_keys c.args.mode (keys_of line) named.1 (ap is_no_row (sym named.0) ∙ is.0), is.1),
    ))
    c.grouping_row.ensures

pub returns-in-None : goal.returns-in-None
returns-in-None c =
    let line = line_of c.args.matches.now in
    let named = c.in_ok-named.ensures in
    let by : None ≡ value_at (codes "by") line =
    sym (ap (option_map (λ text. text.now)) c.in-None.is) ∙ c.value-by.ensures in (
      false,
      subst (IsFlag (codes "all") line) c.if-is_on.false c.is_on.ensures,
      subst (λ by. AreRowsBy c.args.mode false by (keys_of line) c.named_or_decided.result) by
          (listed_keys c.args.mode (keys_of line) c.named_or_decided.result named.1
          (c.named_or_decided.ensures ∙ ap (λ (rows : Rows). if is_no_row rows then None else Some rows) named.0)),
    )
