use Rattle.std.proofs.Common.{◌∙◌, ap, codes, map, string_bytes}
use Rattle.std.specs.List.{join_by}
use Rattle.rinqebo_origins.specs.Origins.{step_view}
use Rattle.rinqebo_origins.specs.SpelledLeaves.{step_text}
use Rattle.rinqebo_origins.proofs.Results.{ok_same}
use Rattle.rinqebo_origins.proofs.Spelling.{joined_alike}
use Rattle.rinqebo_origins.proofs.spelled_report.steps_text.Goals as goal

pub returns : goal.returns
returns c =
    ok_same string_bytes c.join.result _ _
    (ap (join_by string_bytes (codes ".")) c.deref.ensures.value
    ∙ joined_alike string_bytes step_text (codes ".") c.in_ok-texts.texts.items (map step_view c.args.steps.now)
    c.in_ok-texts.ensures)
    c.join.ensures.ok
