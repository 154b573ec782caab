use Rattle.std.proofs.Common.{◌≡◌, ◌∙◌, ap, sym, append_assoc}
use Rattle.nextest_config.proofs.SpelledTexts.{spelled_as}
use Rattle.nextest_sources.specs.Sources.{source_view, owner_of_source}
use Rattle.nextest_elements.specs.Owner.{nobody, a_tool, the_organisation}
use Rattle.nextest_elements.specs.OwnerView.{owner_view}
use Rattle.nextest_explain.proofs.lines.where_text.Goals as goal

pub returns-in-Tool : goal.returns-in-Tool
returns-in-Tool c =
    let owner : owner_of_source (source_view c.args.source.now).kind ≡ a_tool c.in-Tool.tool.now =
    sym (ap owner_of_source c.kind.ensures) ∙ sym c.owner.ensures ∙ ap owner_view c.in-Tool.is in
    rw (owner, ← c.path-path.ensures) (spelled_as c.format.result _ _ (simp append_assoc) c.format.ensures.ok)

pub returns-in-Nobody : goal.returns-in-Nobody
returns-in-Nobody c =
    let owner : owner_of_source (source_view c.args.source.now).kind ≡ nobody =
    sym (ap owner_of_source c.kind.ensures) ∙ sym c.owner.ensures ∙ ap owner_view c.in-Nobody.is in
    rw (owner, ← c.path-path.ensures) c.to_string.ensures.ok

pub returns-in-Organisation : goal.returns-in-Organisation
returns-in-Organisation c =
    let owner : owner_of_source (source_view c.args.source.now).kind ≡ the_organisation =
    sym (ap owner_of_source c.kind.ensures) ∙ sym c.owner.ensures ∙ ap owner_view c.in-Organisation.is in
    rw (owner, ← c.path-path.ensures) c.format-in-Organisation.ensures.ok
