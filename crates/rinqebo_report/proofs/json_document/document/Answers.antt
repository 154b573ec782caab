-- A document is what its members are.
use Rattle.std.proofs.Common.{ap, ap₂, codes, ◌∙◌}
use Rattle.serde_json.proofs.Views.{view-Object}
use Rattle.serde_json.specs.Data.{object, put}
use Rattle.rinqebo_report.proofs.json_document.document.Goals as goal

pub returns : goal.returns
returns c =
    view-Object c.put.new.map
    ∙ ap object (c.in_ok-put.ensures.ok
    ∙ ap₂ (λ request members. put (codes "request") request members) c.in_ok-request.ensures c.in_ok-members.ensures)
