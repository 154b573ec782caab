use Rattle.std.proofs.Common.{take}
use Rattle.std.specs.List.{AllZip}
use Rattle.rinqebo_request.specs.Requests.{IsToolNamed}
use Rattle.rinqebo_request.proofs.words.tool_files.Given as goal

-- the files so far are those of the values so far
abbrev pub invariant-loop-value : goal.invariant-loop-value
invariant-loop-value l = AllZip (λ value file. IsToolNamed value.now file) (take l.value-index l.values) l.tools.items
