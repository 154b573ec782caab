use Rattle.std.proofs.Common.{◌∷◌, ap, sym, append_assoc}
use Rattle.nextest_documents.specs.Text.{tree_of}
use Rattle.nextest_rules.specs.Steps.{definition_steps}
use Rattle.nextest_sources.specs.Steps.{check}
use Rattle.nextest_load.specs.OwnSteps.{parent_step, compile_step, named_steps}
use Rattle.nextest_load.specs.Steps.{document_cause, own_steps}
use Rattle.nextest_load.specs.Trees.{own_file, own_tree}
use Rattle.nextest_load.proofs.laws.law_own_steps.Goals as goal

pub returns : goal.returns
returns g c engines features below s =
    ap (λ steps. check s.source (document_cause (tree_of s.text)) ∷ steps)
    (sym (append_assoc (own_steps s.source (own_tree s))
    (definition_steps features s.source (own_file s))
    (parent_step below s ∷ compile_step engines s ∷ named_steps engines below s)))
