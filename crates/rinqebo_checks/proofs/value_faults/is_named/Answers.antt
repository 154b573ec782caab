use Rattle.std.proofs.Common.{◌≡◌, ◌∙◌, true, ap}
use Rattle.std.specs.Str.{bytes_eq}
use Rattle.std.proofs.lemmas.Slice.Eq.{bytes_eq-Decides}
use Rattle.nextest_places.specs.Spans.Paths.{path_step}
use Rattle.nextest_places.specs.Spans.Paths as paths
use Rattle.rinqebo_checks.proofs.value_faults.is_named.Goals as goal

pub returns-in-Key : goal.returns-in-Key
returns-in-Key c =
    λ same.
    let equal : bytes_eq c.in-Key.name.now c.args.key.now ≡ true = cc in
    ap path_step c.in-Key.is ∙ ap paths.key ((bytes_eq-Decides c.in-Key.name.now c.args.key.now).0 equal)
