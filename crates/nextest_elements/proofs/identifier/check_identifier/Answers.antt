use Rattle.std.proofs.Common.{sym, ◌∙◌}
use Rattle.nextest_elements.proofs.Identifiers.{flaws_of_organisation_form, flaws_of_tool_form}
use Rattle.nextest_elements.proofs.identifier.check_identifier.Goals as goal

pub returns-then-has_tool_prefix-clause-flaw : goal.returns-then-has_tool_prefix-clause-flaw
returns-then-has_tool_prefix-clause-flaw c =
    flaws_of_tool_form c.args.text.now c.check_tool_form.result
    (sym c.has_tool_prefix.ensures ∙ c.if-has_tool_prefix.true) c.check_tool_form.ensures.verdict
    c.check_tool_form.ensures.cause

pub returns-then-has_organisation_prefix-clause-flaw : goal.returns-then-has_organisation_prefix-clause-flaw
returns-then-has_organisation_prefix-clause-flaw c =
    flaws_of_organisation_form c.args.text.now c.check_organisation_form.result
    (sym c.has_organisation_prefix.ensures ∙ c.if-has_organisation_prefix.true)
    c.check_organisation_form.ensures.verdict c.check_organisation_form.ensures.cause
