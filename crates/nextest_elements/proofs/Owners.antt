-- Who owns a name, by the parts of identifiers.
use Rattle.std.proofs.Common.{◌≡◌, ◌↔◌, ℕ, List, Option, Some, None, refl, ap, subst}
use Rattle.nextest_elements.specs.Identifier.{HasOrganisationPart, HasToolParts, IsOrganisationIdentifier, IsToolIdentifier, Form, plain, of_organisation, of_tool, form_of}
use Rattle.nextest_elements.specs.Owner.{nobody, the_organisation, a_tool, owner_of_form, owner_of_name}
use Rattle.nextest_elements.proofs.Identifiers.{form_to, form_from}

-- ---- tools

to_tool : (name tool : List ℕ) (form : Option Form) → form_of name ≡ form → owner_of_form form ≡ a_tool tool
    → (part : List ℕ) × HasToolParts name tool part
to_tool name tool None is h = cc
to_tool name tool (Some plain) is h = cc
to_tool name tool (Some (of_organisation part)) is h = cc
to_tool name tool (Some (of_tool t part)) is h =
    let same : t ≡ tool = cc in
    (part, subst (λ x. HasToolParts name x part) same (form_to name (of_tool t part) is))

-- a tool owns its identifiers
pub owner_of_parts : (name tool part : List ℕ) → HasToolParts name tool part → owner_of_name name ≡ a_tool tool
owner_of_parts name tool part parts = ap owner_of_form (form_from name (of_tool tool part) parts)

-- and no other name
pub owned_by_tool : (name tool : List ℕ)
    → (owner_of_name name ≡ a_tool tool) ↔ ((part : List ℕ) × HasToolParts name tool part)
owned_by_tool name tool = (to_tool name tool (form_of name) refl, λ found. owner_of_parts name tool found.0 found.1)

-- ---- the organisation

to_organisation : (name : List ℕ) (form : Option Form) → form_of name ≡ form
    → owner_of_form form ≡ the_organisation → IsOrganisationIdentifier name
to_organisation name None is h = cc
to_organisation name (Some plain) is h = cc
to_organisation name (Some (of_organisation part)) is h = (part, form_to name (of_organisation part) is)
to_organisation name (Some (of_tool t part)) is h = cc

-- the organisation owns its identifiers
pub owner_of_part : (name part : List ℕ) → HasOrganisationPart name part → owner_of_name name ≡ the_organisation
owner_of_part name part has = ap owner_of_form (form_from name (of_organisation part) has)

-- and no other name
pub owned_by_organisation : (name : List ℕ) → (owner_of_name name ≡ the_organisation) ↔ IsOrganisationIdentifier name
owned_by_organisation name = (to_organisation name (form_of name) refl, λ found. owner_of_part name found.0 found.1)

-- ---- nobody

to_nobody : (name : List ℕ) (form : Option Form) → form_of name ≡ form → ¬ IsToolIdentifier name
    → ¬ IsOrganisationIdentifier name → owner_of_form form ≡ nobody
to_nobody name None is no_tool no_organisation = refl
to_nobody name (Some plain) is no_tool no_organisation = refl
to_nobody name (Some (of_organisation part)) is no_tool no_organisation =
    absurd (no_organisation (part, form_to name (of_organisation part) is))
to_nobody name (Some (of_tool t part)) is no_tool no_organisation =
    absurd (no_tool (t, part, form_to name (of_tool t part) is))

no_tool_of_nobody : (name : List ℕ) → owner_of_name name ≡ nobody → ¬ IsToolIdentifier name
no_tool_of_nobody name h tool =
    let owned : owner_of_name name ≡ a_tool tool.0 = owner_of_parts name tool.0 tool.1 tool.2 in cc

no_organisation_of_nobody : (name : List ℕ) → owner_of_name name ≡ nobody → ¬ IsOrganisationIdentifier name
no_organisation_of_nobody name h found =
    let owned : owner_of_name name ≡ the_organisation = owner_of_part name found.0 found.1 in cc

-- nobody owns the other names
pub owned_by_nobody : (name : List ℕ)
    → (owner_of_name name ≡ nobody) ↔ ((¬ IsToolIdentifier name) × (¬ IsOrganisationIdentifier name))
owned_by_nobody name = (
  λ h. (no_tool_of_nobody name h, no_organisation_of_nobody name h),
  λ none. to_nobody name (form_of name) refl none.0 none.1,
)
