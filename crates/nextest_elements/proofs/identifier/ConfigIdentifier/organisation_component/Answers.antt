use Rattle.std.proofs.Common.{IfNone, IfSome, subst}
use Rattle.nextest_elements.specs.Identifier.{IsOrganisationIdentifier, HasOrganisationPart}
use Rattle.nextest_elements.proofs.Identifiers.{unsplit_is_no_organisation, split_is_name}
use Rattle.nextest_elements.proofs.identifier.ConfigIdentifier.organisation_component.Goals as goal

pub returns-clause-none : goal.returns-clause-none
returns-clause-none c =
    subst (λ text. IfNone c.split_organisation.result (¬ IsOrganisationIdentifier text)) c.as_str.ensures.text
    (unsplit_is_no_organisation c.as_str.result.now c.split_organisation.result c.split_organisation.ensures.none)

pub returns-clause-name : goal.returns-clause-name
returns-clause-name c =
    subst (λ text. IfSome c.split_organisation.result (λ name. HasOrganisationPart text name.now)) c.as_str.ensures.text
    (split_is_name c.as_str.result.now c.split_organisation.result c.as_str.ensures.valid
    c.split_organisation.ensures.prefix c.split_organisation.ensures.name)
