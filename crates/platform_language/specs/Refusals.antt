-- How a text that is not a spec is refused: by its first fault.
use Rattle.std.specs.Prelude.{List, ℕ, Some, Result}
use Rattle.std.specs.Result.{result_map_both}
use Rattle.nextest_engines.specs.Engines.{SpanText, RefusalText}
use Rattle.platform_language.specs.declared.fault.TargetSpecFault.{TargetSpecFault}
use Rattle.platform_language.specs.Expressions.{Spec}
use Rattle.platform_language.specs.Messages.{label_of, message}
use Rattle.platform_language.specs.Texts.{spec_in}

-- The bytes of a fault, and what is wrong with them.
abbrev pub fault_span : TargetSpecFault → SpanText
fault_span fault = record {
  start = fault.span.start;
  end = fault.span.end;
  label = label_of fault.kind fault.expected;
}

-- The refusal that says what a fault is, and where.
abbrev pub fault_refusal : TargetSpecFault → RefusalText
fault_refusal fault = record { message = message fault; span = Some (fault_span fault) }

-- What a text says, or the refusal for its first fault.
abbrev pub spec_read : List ℕ → Result Spec RefusalText
spec_read text = result_map_both (λ spec. spec) fault_refusal (spec_in text)
