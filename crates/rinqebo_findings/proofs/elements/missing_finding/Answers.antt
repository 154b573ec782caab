use Rattle.std.proofs.Common.{◌∙◌, subst}
use Rattle.rinqebo_report.specs.declared.codes.code.Code.TheVariants.{MissingKey}
use Rattle.rinqebo_request.specs.declared.files.places.SpanPart.TheVariants as parts
use Rattle.rinqebo_findings.specs.Subjects.{IsErrorAt}
use Rattle.rinqebo_findings.proofs.elements.missing_finding.Goals as goal

pub returns-in_ok-lack_finding-in-Some : goal.returns-in_ok-lack_finding-in-Some
returns-in_ok-lack_finding-in-Some c =
    let source = c.args.refused.now.source in
    rw c.in-Some.is (record {
      error = subst
          (λ path. IsErrorAt source.layers.now source.position MissingKey parts.Key path c.in_ok-lack_finding-in-Some.field-0)
          (c.deref.ensures.value ∙ c.in_ok-at-in-Some.ensures) c.in_ok-lack_finding-in-Some.ensures.error;
      words = c.in_ok-lack_finding-in-Some.ensures.words;
    })

pub returns-in_ok-lack_finding-in-None : goal.returns-in_ok-lack_finding-in-None
returns-in_ok-lack_finding-in-None c =
    rw c.in-None.is (record {
      error = c.in_ok-lack_finding-in-None.ensures.error;
      words = c.in_ok-lack_finding-in-None.ensures.words;
    })
