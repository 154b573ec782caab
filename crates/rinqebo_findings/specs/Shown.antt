-- Findings as a report has them.
use Rattle.std.specs.Prelude.{◌≡◌, ℕ, List, Option, String, map}
use Rattle.std.specs.List.Sorted.{IsPermutation, IsSortedByKey}
use Rattle.std.specs.declared.alloc.Global.{Global}
use Rattle.rinqebo_report.specs.declared.finding.Finding.{Finding}
use Rattle.rinqebo_report.specs.declared.finding.FindingStep.{FindingStep}
use Rattle.rinqebo_report.specs.declared.finding.HelpPlace.{HelpPlace}
use Rattle.rinqebo_report.specs.declared.finding.Level.{Level}
use Rattle.rinqebo_report.specs.declared.finding.RefusedExpression.{RefusedExpression}
use Rattle.rinqebo_report.specs.declared.origin.FilePlace.{FilePlace}
use Rattle.rinqebo_faults.specs.Order.{spot_cmp, spot_of}

-- what a finding says: all that it has, but the lines that show it
pub record Facts : Type 0 where
  pub level : Level
  pub code : String Global
  pub upstream : Option (String Global)
  pub place : Option FilePlace
  pub column : Option ℕ
  pub path : Option (String Global)
  pub steps : List FindingStep
  pub message : String Global
  pub expression : Option RefusedExpression
  pub expected : Option (String Global)
  pub notes : List (String Global)
  pub help : Option (String Global)
  pub help_place : HelpPlace

-- the facts of a finding
abbrev pub facts : Finding → Facts
facts f =
    record {
      level = f.level;
      code = f.code;
      upstream = f.upstream;
      place = f.place;
      column = f.column;
      path = f.path;
      steps = f.steps.items;
      message = f.message;
      expression = f.expression;
      expected = f.expected;
      notes = f.notes.items;
      help = f.help;
      help_place = f.help_place;
    }

-- A report shows findings: each of those that are found, once, in the order of files, lines and
-- columns; only the lines that show them may be others.
pub record AreReported (found shown : List Finding) : Type 0 where
  pub ordered : List Finding
  pub each_once : IsPermutation found ordered
  pub in_order : IsSortedByKey spot_of spot_cmp ordered
  pub as_found : map facts shown ≡ map facts ordered
