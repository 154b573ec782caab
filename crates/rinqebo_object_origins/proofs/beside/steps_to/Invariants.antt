use Rattle.std.proofs.Common.{◌≡◌, map, take}
use Rattle.nextest_documents.specs.Layers.{keys_view}
use Rattle.rinqebo_origins.specs.Origins.{key, step_view}
use Rattle.rinqebo_object_origins.proofs.beside.steps_to.Given as goal

-- the steps so far
abbrev pub invariant-loop-name : goal.invariant-loop-name
invariant-loop-name l = map step_view l.steps.items ≡ map key (keys_view (take l.name-index l.path))
