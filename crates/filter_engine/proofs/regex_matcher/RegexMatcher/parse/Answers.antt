use Rattle.std.proofs.Common.{◌<◌, sym, ap, ◌∙◌, subst, map, ltb-true}
use Rattle.std.specs.Prelude.{option_map, string_bytes}
use Rattle.regex_syntax.specs.Verdict.{Reads, Refuses}
use Rattle.filter_engine.specs.RegexSizes.{most_states, regex_size}
use Rattle.filter_engine.proofs.RegexTexts.{is_read, machine_read, not_read}
use Rattle.filter_engine.proofs.regex_matcher.RegexMatcher.parse.Goals as goal

pub returns-in_default : goal.returns-in_default
returns-in_default c = record {
  text = tt;
  written = tt;
  small = tt;
  large = λ clash. absurd (cc);
  malformed = λ _.
      not_read c.args.text.now c.in-Err.error.kind
      (subst (λ config. Refuses config c.args.text.now c.in-Err.error.kind) c.default.ensures c.in-Err.ensures.err)
      c.in_default.not-OutOfMemory;
}

pub invariant_of-result : goal.invariant_of-result
invariant_of-result c =
    let names = map (option_map string_bytes) c.in-Ok.parsed.names.items in
    rw c.in_ok-text.ensures.ok
    (machine_read c.args.text.now c.in-Ok.parsed.hir names c.in_ok-machine.machine.nfa
    (subst (λ config. Reads config c.args.text.now c.in-Ok.parsed.hir names) c.default.ensures c.in-Ok.ensures.ok)
    c.in_ok-machine.ensures)

pub returns-clause-written : goal.returns-clause-written
returns-clause-written c =
    let names = map (option_map string_bytes) c.in-Ok.parsed.names.items in
    is_read c.args.text.now c.in-Ok.parsed.hir names
    (subst (λ config. Reads config c.args.text.now c.in-Ok.parsed.hir names) c.default.ensures c.in-Ok.ensures.ok)

pub returns-then-is_too_large-clause-large : goal.returns-then-is_too_large-clause-large
returns-then-is_too_large-clause-large c = λ _.
    let names = map (option_map string_bytes) c.in-Ok.parsed.names.items in (
      is_read c.args.text.now c.in-Ok.parsed.hir names
          (subst (λ config. Reads config c.args.text.now c.in-Ok.parsed.hir names) c.default.ensures c.in-Ok.ensures.ok),
      subst (λ size. most_states < size) (c.in_ok-size.ensures ∙ ap regex_size c.as_bytes.ensures.value)
          (ltb-true _ _ (sym c.is_too_large.ensures ∙ c.if-is_too_large.true)),
    )
