use Rattle.std.proofs.Common.{IfNone, IfSome, subst}
use Rattle.nextest_elements.specs.Identifier.{IsToolIdentifier, HasToolParts}
use Rattle.nextest_elements.proofs.Identifiers.{unsplit_is_no_tool, split_is_parts}
use Rattle.nextest_elements.proofs.identifier.ConfigIdentifier.tool_components.Goals as goal

pub returns-clause-none : goal.returns-clause-none
returns-clause-none c =
    subst (λ text. IfNone c.split_tool.result (¬ IsToolIdentifier text)) c.as_str.ensures.text
    (unsplit_is_no_tool c.as_str.result.now c.split_tool.result c.split_tool.ensures.none)

pub returns-clause-parts : goal.returns-clause-parts
returns-clause-parts c =
    subst (λ text. IfSome c.split_tool.result (λ parts. HasToolParts text parts.0.now parts.1.now))
    c.as_str.ensures.text
    (split_is_parts c.as_str.result.now c.split_tool.result c.as_str.ensures.valid c.split_tool.ensures.prefix
    c.split_tool.ensures.tool c.split_tool.ensures.name)
