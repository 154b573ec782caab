use Rattle.std.proofs.Common.{◌∙◌, None, Some, ap, inl, inr, refl, sym}
use Rattle.rinqebo_findings.specs.Words.{raise_to, with_note, words_of}
use Rattle.rinqebo_findings.specs.Written.{text_at}
use Rattle.rinqebo_findings.proofs.Values.{delays_above, delays_said}
use Rattle.rinqebo_findings.proofs.delays.delays_finding.Goals as goal

pub returns-in_default : goal.returns-in_default
returns-in_default c =
    let source = c.args.refused.now.source in
    let last_is = c.as_slice-longest.ensures.value ∙ c.in_ok-last_path.ensures in
    let first_is = c.as_slice-first.ensures.value ∙ c.in_ok-first_path.ensures in
    record {
      error = c.in_ok-table_finding.ensures.error;
      words = delays_said source.layers.now source.position c.args.path.now c.as_slice-longest.result.now
          c.as_slice-first.result.now _ _ (words_of c.in_ok-table_finding.field-0) None
          (text_at source.layers.now source.position c.as_slice-first.result.now) None last_is refl first_is refl
          (sym c.in_default.ensures) refl refl c.in_ok-table_finding.ensures.words;
    }

pub returns-in_default-text_of : goal.returns-in_default-text_of
returns-in_default-text_of c =
    let source = c.args.refused.now.source in
    let last_is = c.as_slice-longest.ensures.value ∙ c.in_ok-last_path.ensures in
    let first_is = c.as_slice-first.ensures.value ∙ c.in_ok-first_path.ensures in
    record {
      error = c.in_ok-table_finding-2.ensures.error;
      words = delays_said source.layers.now source.position c.args.path.now c.as_slice-longest.result.now
          c.as_slice-first.result.now _ _ (words_of c.in_ok-table_finding-2.field-0) (Some c.in-Some.most.now) None None
          last_is refl first_is refl (sym c.in-Some.ensures) (sym c.in_default-text_of.ensures) refl
          c.in_ok-table_finding-2.ensures.words;
    }

pub returns-then-writes : goal.returns-then-writes
returns-then-writes c =
    let source = c.args.refused.now.source in
    let last_is = c.as_slice-longest.ensures.value ∙ c.in_ok-last_path.ensures in
    let first_is = c.as_slice-first.ensures.value ∙ c.in_ok-first_path.ensures in
    let said = c.in_ok-delay_finding.ensures.words in
    record {
      error = delays_above source.layers.now source.position c.args.path.now _ _ c.in_ok-delay_finding.field-0
          last_is c.in_ok-delay_finding.ensures.error;
      words = delays_said source.layers.now source.position c.args.path.now c.as_slice-longest.result.now
          c.as_slice-first.result.now _ _ (words_of c.in_ok-delay_finding.field-0) (Some c.in-Some.most.now)
          (Some c.in-Some-text_of.least.now) said.0 last_is refl first_is refl (sym c.in-Some.ensures)
          (sym c.in-Some-text_of.ensures) (inl said.1)
          (said.2
          ∙ ap (λ wrong. with_note (raise_to wrong c.in-Some-text_of.least.now) said.0) (c.as_str.ensures.value ∙ c.in_ok-wrong.ensures.ok));
    }

pub returns : goal.returns
returns c =
    let source = c.args.refused.now.source in
    let last_is = c.as_slice-longest.ensures.value ∙ c.in_ok-last_path.ensures in
    let first_is = c.as_slice-first.ensures.value ∙ c.in_ok-first_path.ensures in
    let said = c.in_ok-delay_finding-2.ensures.words in
    record {
      error = delays_above source.layers.now source.position c.args.path.now _ _ c.in_ok-delay_finding-2.field-0
          first_is c.in_ok-delay_finding-2.ensures.error;
      words = delays_said source.layers.now source.position c.args.path.now c.as_slice-longest.result.now
          c.as_slice-first.result.now _ _ (words_of c.in_ok-delay_finding-2.field-0) (Some c.in-Some.most.now)
          (Some c.in-Some-text_of.least.now) said.0 last_is refl first_is refl (sym c.in-Some.ensures)
          (sym c.in-Some-text_of.ensures) (inr said.1)
          (said.2
          ∙ ap (λ wrong. with_note (raise_to wrong c.in-Some-text_of.least.now) said.0)
          (c.as_str-else-writes.ensures.value ∙ c.in_ok-wrong.ensures.ok));
    }
