use Rattle.std.proofs.Common.{◌∙◌, ◌==◌, ap, length, not, sym}
use Rattle.std.proofs.lemmas.List.{length-map}
use Rattle.nextest_rules.specs.View.{script_rule_view}
use Rattle.nextest_scripts.specs.ScriptId.{script_text}
use Rattle.rinqebo_rules.proofs.setup_rules.names_setup.Goals as goal

pub returns : goal.returns
returns g c =
    ap not (c.is_empty.ensures ∙ ap (λ k. k == 0) (sym (length-map c.setup.result.now script_text))
    ∙ ap (λ ids. length ids == 0)
    (c.setup.ensures ∙ ap (λ r. (script_rule_view r.now).writes.scripts.setup) c.rule.ensures))
