use Rattle.std.proofs.Common.{◌∙◌, inl, sym}
use Rattle.rinqebo_request.specs.NamedView.{named_view}
use Rattle.rinqebo_request.proofs.NamedKeys.{with_named, with_runs}
use Rattle.rinqebo_request.proofs.rows.NamedRows.add.Goals as goal

pub returns-then-eq : goal.returns-then-eq
returns-then-eq c =
    let is = sym c.eq.ensures ∙ c.if-eq.true in (with_runs c.args.mode (named_view c.args.self.now) c.args.key.now is, inl is)

pub returns : goal.returns
returns c =
    with_named c.args.mode (named_view c.args.self.now) c.args.key.now c.in_ok-settings.settings.items c.as_slice.result.now _
    (sym c.eq.ensures ∙ c.if-eq.false) c.in_ok-settings.ensures.ok c.as_slice.ensures.value c.in_ok-extend_from_slice.ensures.items
