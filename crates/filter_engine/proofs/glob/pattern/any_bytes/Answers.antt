use Rattle.std.proofs.Common.{true, None, sym, subst}
use Rattle.regex_hir.specs.Meaning.{meaning}
use Rattle.regex_hir.proofs.MeaningLemmas.{meaning-Repetition}
use Rattle.filter_engine.specs.Patterns.{Means}
use Rattle.filter_engine.specs.declared.glob.part.GlobPart.TheVariants.{AnyByte}
use Rattle.filter_engine.proofs.GlobPatterns.{any_bytes_means}
use Rattle.filter_engine.proofs.glob.pattern.any_bytes.Goals as goal

pub returns : goal.returns
returns c =
    rw (meaning-Repetition 0 None true c.in_ok-new.field-0)
    (any_bytes_means (meaning c.in_ok-new.field-0.value)
    (subst (λ h. Means AnyByte (meaning h)) (sym c.in_ok-new.ensures.ok) c.in_ok-any_byte.ensures))
