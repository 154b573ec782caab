use Rattle.std.proofs.Common.{◌∙◌, ap, map, sym}
use Rattle.nextest_places.specs.Spans.Paths.{path_step}
use Rattle.rinqebo_checks.proofs.value_faults.is_refused_key.Goals as goal

pub returns-in-UnknownField : goal.returns-in-UnknownField
returns-in-UnknownField c =
    λ same. record {
      refused = c.in-UnknownField.is;
      at_key = ap (map path_step) (sym c.deref.ensures.value) ∙ c.is_key_in.ensures same;
    }
