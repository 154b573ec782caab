use Rattle.std.proofs.Common.{◌≡◌, ◌++◌, flat_map, take, string_bytes}
use Rattle.rinqebo_changes.specs.GithubPage.{run_notice}
use Rattle.rinqebo_changes.proofs.github_page.add_runs.Given as goal

abbrev pub invariant-loop-row : goal.invariant-loop-row
invariant-loop-row l =
    string_bytes l.out
    ≡ string_bytes l.initial.out ++ flat_map (run_notice l.workspace l.diff) (take l.row-index l.diff.run.items)
