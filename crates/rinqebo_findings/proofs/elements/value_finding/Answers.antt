use Rattle.std.proofs.Common.{◌∙◌, ap, option_map, string_bytes, subst}
use Rattle.rinqebo_faults.specs.Elements.{IsAdvice, wanted, wrong_element}
use Rattle.rinqebo_findings.specs.Placed.{IsPlacedAt}
use Rattle.rinqebo_findings.specs.Subjects.{error_at}
use Rattle.rinqebo_findings.specs.Words.{Words}
use Rattle.rinqebo_findings.proofs.elements.value_finding.Goals as goal

pub returns : goal.returns
returns c =
    let source = c.args.refused.now.source in
    let cause = c.args.cause.now in
    let path = c.args.path.now in
    let given = c.value_at-given.ensures in
    let alone = c.in_ok-found.ensures.words in
    record {
      error = record {
        about = c.in_ok-found.ensures.about ∙ ap (λ code. error_at code path) c.element_code-code.ensures;
        place = subst (λ part. IsPlacedAt part source.layers.now source.position path c.in_ok-found.found.place)
            c.wrong_part.ensures c.in_ok-found.ensures.place;
      };
      words = record {
        message = ap (λ (words : Words). words.message) alone ∙ c.as_str.ensures.value ∙ c.in_ok-wrong.ensures
            ∙ ap (λ v. wrong_element v cause path) given;
        expected = c.in_ok-expected.ensures ∙ ap (λ v. wanted v cause path) given;
        notes = c.in_ok-notes.ensures;
        help = subst (λ v. IsAdvice v cause path (option_map string_bytes c.in_ok-help.help)) given c.in_ok-help.ensures;
        help_place = ap (λ (words : Words). words.help_place) alone;
      };
    }
