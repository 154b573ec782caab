-- Findings.
use Rattle.std.specs.Prelude.{◌≡◌, [], None, String}
use Rattle.std.specs.declared.alloc.Global.{Global}
use Rattle.rinqebo_report.specs.declared.finding.Finding.{Finding}
use Rattle.rinqebo_report.specs.declared.finding.HelpPlace.TheVariants.{Below}
use Rattle.rinqebo_report.specs.declared.finding.Level.{Level}

-- A finding has a level, a code and a message, and nothing else.
pub record IsBare (l : Level) (c m : String Global) (finding : Finding) : Type 0 where
  pub level : finding.level ≡ l
  pub code : finding.code ≡ c
  pub upstream : finding.upstream ≡ None
  pub place : finding.place ≡ None
  pub column : finding.column ≡ None
  pub path : finding.path ≡ None
  pub steps : finding.steps.items ≡ []
  pub message : finding.message ≡ m
  pub lines : finding.lines.items ≡ []
  pub expression : finding.expression ≡ None
  pub expected : finding.expected ≡ None
  pub notes : finding.notes.items ≡ []
  pub help : finding.help ≡ None
  pub help_place : finding.help_place ≡ Below
