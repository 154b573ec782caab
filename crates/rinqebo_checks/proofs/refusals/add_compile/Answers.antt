use Rattle.std.proofs.Common.{arith}
use Rattle.rinqebo_findings.specs.Compile.{refused_texts, section_fault}
use Rattle.rinqebo_findings.specs.Later.{document_at}
use Rattle.rinqebo_checks.proofs.Compiling.{texts_none}
use Rattle.rinqebo_checks.proofs.refusals.add_compile.Goals as goal

pub returns : goal.returns
returns c =
    let layers = c.args.refused.now.source.layers.now in
    let position = c.args.refused.now.source.position in
    let error = c.args.error.now in
    texts_none layers position (refused_texts (document_at layers position) error) (section_fault error)
    c.args.findings.now.items c.add_refused_texts.new.findings.items _
    (omega (arith, c.args.findings.now.ok.0, c.add_refused_texts.new.findings.ok.0))
    c.in_ok-add_refused_texts.ensures c.in_ok-add_section.ensures
