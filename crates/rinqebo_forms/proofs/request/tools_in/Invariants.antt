use Rattle.std.proofs.Common.{◌≡◌, Some, map, take}
use Rattle.serde_json.specs.View.{view}
use Rattle.nextest_sources.specs.Sources.{tool_file_view}
use Rattle.rinqebo_forms.specs.Requests.{tool_in}
use Rattle.rinqebo_forms.proofs.request.tools_in.Given as goal

-- these are the files in the values so far
abbrev pub invariant-loop-place : goal.invariant-loop-place
invariant-loop-place l =
    map Some (map tool_file_view l.tools.items) ≡ map (λ v. tool_in (view v)) (take l.place l.values)
