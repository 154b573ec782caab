use Rattle.std.proofs.Common.{take}
use Rattle.nextest_sources.specs.Sources.{source_view}
use Rattle.rinqebo_request.specs.Files.Origins.{HasNoFile}
use Rattle.rinqebo_request.proofs.files.layers.place_of.Given as goal

-- no layer so far is the file
abbrev pub invariant-loop-place : goal.invariant-loop-place
invariant-loop-place l = HasNoFile (take l.place l.layers) (source_view l.source)
