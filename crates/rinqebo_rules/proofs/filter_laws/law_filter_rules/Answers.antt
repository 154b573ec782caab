use Rattle.nextest_settings.specs.Engines.{meets_by}
use Rattle.rinqebo_rules.proofs.FilterChoice.{choice, first_decides}
use Rattle.rinqebo_rules.proofs.filter_laws.law_filter_rules.Goals as goal

pub returns-clause-choice : goal.returns-clause-choice
returns-clause-choice g c = λ platforms overrides. choice (meets_by g.S.Specs) platforms overrides

pub returns-clause-verdict : goal.returns-clause-verdict
returns-clause-verdict g c = λ rules n is. first_decides rules n is
