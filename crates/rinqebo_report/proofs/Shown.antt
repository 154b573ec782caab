-- The findings that a page shows.
use Rattle.std.proofs.Common.{◌≡◌, ◌≤◌, List, length, take, sym}
use Rattle.std.proofs.lemmas.List.{take_all}
use Rattle.rinqebo_report.specs.declared.finding.Finding.{Finding}

-- a hundred at most are all of them
pub few_are_all : (findings : List Finding) → length findings ≤ 100 → findings ≡ take 100 findings
few_are_all findings few = sym (take_all 100 findings few)
