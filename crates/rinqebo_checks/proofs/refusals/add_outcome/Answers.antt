use Rattle.std.proofs.Common.{◌∷◌, [], subst}
use Rattle.std.specs.Prelude.{OnOk}
use Rattle.rinqebo_findings.specs.Later.{AddsLater}
use Rattle.rinqebo_checks.specs.Refusals.{unreadable}
use Rattle.rinqebo_checks.proofs.refusals.add_outcome.Goals as goal

pub returns-in-Failed : goal.returns-in-Failed
returns-in-Failed c =
    let source = c.args.refused.now.source in
    rw c.in-Failed.is (subst
    (λ reason. OnOk c.add_whole-in-Failed.result (AddsLater source.layers.now source.position (unreadable reason ∷ [])
    c.args.findings.now.items c.add_whole-in-Failed.new.findings.items))
    c.as_str.ensures.value c.add_whole-in-Failed.ensures)
