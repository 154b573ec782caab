use Rattle.std.proofs.Common.{◌≡◌, ◌∙◌, ◌==◌, None, ap, eqb-true, length, rules, sym, true}
use Rattle.std.specs.Prelude.{string_bytes}
use Rattle.std.proofs.lemmas.Bool.{false≢true}
use Rattle.std.proofs.lemmas.Str.{IsUtf8-string_bytes}
use Rattle.toml_parser.specs.Strings.{quoted, starts_string}
use Rattle.nextest_places.proofs.spans.PositionWalk.{string_more, string_none, string_read}
use Rattle.nextest_places.proofs.spans.offsets.is_string.Goals.{in-Ok, in-Err-At, in-Err-OutOfMemory}
use Rattle.nextest_places.proofs.spans.offsets.is_string.Goals as goal

pub returns : goal.returns
returns c =
    let token = c.args.token.now in
    let opens : starts_string token ≡ true = search rules in
    elim c.match-quoted.branch [
      | in-Ok w ↦
          let bytes = string_bytes w.in-Ok.field-0-0 in
          rw w.result-is (
            λ is. string_read token bytes w.in-Ok.rest.now (IsUtf8-string_bytes w.in-Ok.field-0-0) opens w.in-Ok.ensures.value
                (eqb-true (length w.in-Ok.rest.now) 0 (sym w.is_empty.ensures ∙ is)),
            λ is. w.is_empty.ensures ∙ ap (λ n. n == 0) (string_more token bytes w.in-Ok.rest.now w.in-Ok.ensures.value is),
          )
      | in-Err-At w ↦
          let at = w.in-Err-At.field-0-is in
          let none : quoted token ≡ None = w.in-Err-At.ensures.value (λ e. absurd (cc (e, at))) in
          rw w.result-is (λ is. absurd (false≢true is), λ is. absurd (string_none token none is))
      | in-Err-OutOfMemory w ↦ rw w.result-is tt
    ]
