-- How a text that is not a spec is refused.
use Rattle.std.proofs.Common.{◌≡◌, List, ℕ, Err, ap, sym, ◌∙◌, subst}
use Rattle.std.specs.Result.{result_map_both}
use Rattle.nextest_engines.specs.Engines.{PointsInto, refusal_view}
use Rattle.nextest_engines.specs.declared.refusal.Refusal.{Refusal}
use Rattle.platform_language.specs.declared.fault.TargetSpecFault.{TargetSpecFault}
use Rattle.platform_language.specs.Expressions.{Spec}
use Rattle.platform_language.specs.Refusals.{fault_refusal, spec_read}
use Rattle.platform_language.specs.Texts.{spec_in, LiesIn}

-- What is refused, is refused for its first fault.
pub read_err : (text : List ℕ) (fault : TargetSpecFault) (refusal : Refusal) → spec_in text ≡ Err fault
    → refusal_view refusal ≡ fault_refusal fault → spec_read text ≡ Err (refusal_view refusal)
read_err text fault refusal e says =
    ap (result_map_both (λ (s : Spec). s) fault_refusal) e ∙ ap Err (sym says)

-- The span of a fault that lies in a text lies in it.
pub points_into : (text : List ℕ) (fault : TargetSpecFault) (refusal : Refusal) → LiesIn text fault
    → refusal_view refusal ≡ fault_refusal fault → PointsInto text (refusal_view refusal)
points_into text fault refusal lies says = subst (PointsInto text) (sym says) (lies.0, lies.1)
