use Rattle.std.proofs.Common.{◌∙◌}
use Rattle.nextest_scripts.specs.ScriptId.{script_text}
use Rattle.nextest_settings.proofs.AtName.{some_of}
use Rattle.nextest_settings.proofs.index.names_wrapper.Goals as goal

pub returns-in-Run : goal.returns-in-Run
returns-in-Run g c = rw c.in-Run.is
    (c.is_some.ensures ∙ some_of (λ id. script_text id.now) c.run_wrapper.result _ c.run_wrapper.ensures)

pub returns-in-List : goal.returns-in-List
returns-in-List g c = rw c.in-List.is
    (c.is_some-in-List.ensures ∙ some_of (λ id. script_text id.now) c.list_wrapper.result _ c.list_wrapper.ensures)
