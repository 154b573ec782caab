-- How a text that is not a filter is refused: by its first fault.
use Rattle.std.specs.Prelude.{◌+◌, Some}
use Rattle.filter_language.specs.declared.fault.FiltersetFault.{FiltersetFault}
use Rattle.filter_language.specs.Messages.{label, message}
use Rattle.nextest_engines.specs.Engines.{SpanText, RefusalText}

-- The bytes of a fault, and what is wrong with them.
abbrev pub fault_span : FiltersetFault → SpanText
fault_span fault = record {
  start = fault.span.start;
  end = fault.span.start + fault.span.length;
  label = label fault.kind;
}

-- The refusal that says what a fault is, and where.
abbrev pub fault_refusal : FiltersetFault → RefusalText
fault_refusal fault = record { message = message fault; span = Some (fault_span fault) }
