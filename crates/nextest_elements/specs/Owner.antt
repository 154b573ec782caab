-- Who owns a name.
use Rattle.std.specs.Prelude.{ℕ, List, Bool, true, false, Option, Some, None}
use Rattle.std.specs.Str.{bytes_eq}
use Rattle.nextest_elements.specs.Identifier.{Form, of_organisation, of_tool, form_of}

-- Who owns a name, and so may define it: nobody, the organisation, or a tool.
pub data Owner : Type 0 where
  nobody : Owner
  the_organisation : Owner
  a_tool : (tool : List ℕ) → Owner

-- The owner of a form, if there is one: the organisation and a tool own their identifiers.
abbrev pub owner_of_form : Option Form → Owner
owner_of_form (Some (of_organisation name)) = the_organisation
owner_of_form (Some (of_tool tool name)) = a_tool tool
owner_of_form _ = nobody

-- The owner of a name.
abbrev pub owner_of_name : List ℕ → Owner
owner_of_name text = owner_of_form (form_of text)

-- Whether two owners are the same.
abbrev pub is_same_owner : Owner → Owner → Bool
is_same_owner nobody nobody = true
is_same_owner the_organisation the_organisation = true
is_same_owner (a_tool s) (a_tool t) = bytes_eq s t
is_same_owner _ _ = false

-- The tool that an owner is, if it is one.
abbrev pub tool_of_owner : Owner → Option (List ℕ)
tool_of_owner (a_tool tool) = Some tool
tool_of_owner _ = None

-- Whether an owner is the organisation.
abbrev pub is_the_organisation : Owner → Bool
is_the_organisation the_organisation = true
is_the_organisation _ = false

-- What an owner is, whichever tool it is.
pub data OwnerClass : Type 0 where
  no_owner : OwnerClass
  organisation_owner : OwnerClass
  some_tool : OwnerClass

-- The class of an owner.
abbrev pub owner_class : Owner → OwnerClass
owner_class nobody = no_owner
owner_class the_organisation = organisation_owner
owner_class (a_tool tool) = some_tool
