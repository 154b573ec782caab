-- Which texts are identifiers.
use Rattle.std.specs.Prelude.{◌≡◌, ℕ, ◌==◌, Bool, false, ◌||◌, ◌&&◌, IsTrue, IsFalse, Contains, List, [], ◌∷◌, ◌++◌, ◌⊎◌, All, Option, Some, None, is_some, codes, drop, nat_eq, encode_utf8_all, if◌then◌else◌}
use Rattle.std.specs.List.{list_all, starts_with, before_first, after_first}
use Rattle.std.specs.Option.{option_or}
use Rattle.std.specs.Str.{all_scalars, chars, is_utf8}
use Rattle.unicode_ident.specs.Ident.{is_xid_start, is_xid_continue}
use Rattle.nextest_elements.specs.declared.identifier.InvalidIdentifier.{InvalidIdentifier}
use Rattle.nextest_elements.specs.declared.identifier.InvalidIdentifier.TheVariants as causes

-- After its first character a part has XID_Continue characters and hyphens.
abbrev pub ContinuesPart : ℕ → Type 0
ContinuesPart character = IsTrue (is_xid_continue character) ⊎ (character ≡ 45)

-- A part is an XID_Start character, and then characters that continue a part.
pub record IsPart (text : List ℕ) : Type 0 where
  pub first : ℕ
  pub others : List ℕ
  pub are_characters : IsTrue (all_scalars (first ∷ others))
  pub spell : text ≡ encode_utf8_all (first ∷ others)
  pub starts : IsTrue (is_xid_start first)
  pub continue : All ContinuesPart others

-- The text is `@tool:`, the name of the tool, a colon and a name, and both names are parts.
pub record HasToolParts (text tool name : List ℕ) : Type 0 where
  pub spelled : text ≡ codes "@tool:" ++ tool ++ codes ":" ++ name
  pub tool_is_part : IsPart tool
  pub name_is_part : IsPart name

-- The text is an identifier of some tool.
abbrev pub IsToolIdentifier : List ℕ → Type 0
IsToolIdentifier text = (tool : List ℕ) × (name : List ℕ) × HasToolParts text tool name

-- The text is `@org:` and a name, and the name is a part.
pub record HasOrganisationPart (text name : List ℕ) : Type 0 where
  pub spelled : text ≡ codes "@org:" ++ name
  pub name_is_part : IsPart name

-- The text is an identifier of the organisation.
abbrev pub IsOrganisationIdentifier : List ℕ → Type 0
IsOrganisationIdentifier text = (name : List ℕ) × HasOrganisationPart text name

-- The form of an identifier: a plain name, a name of the organisation, or a tool and a name.
pub data Form : Type 0 where
  plain : Form
  of_organisation : (name : List ℕ) → Form
  of_tool : (tool name : List ℕ) → Form

-- A text has a form: it is a part, or it has the parts of an identifier of the organisation or of
-- a tool.
abbrev pub HasForm : List ℕ → Form → Type 0
HasForm text plain = IsPart text
HasForm text (of_organisation name) = HasOrganisationPart text name
HasForm text (of_tool tool name) = HasToolParts text tool name

-- An identifier is a text that has some form.
abbrev pub IsIdentifier : List ℕ → Type 0
IsIdentifier text = (form : Form) × HasForm text form

-- The characters begin with an XID_Start character, and the others continue a part.
abbrev pub are_part_characters : List ℕ → Bool
are_part_characters [] = false
are_part_characters (first ∷ others) = is_xid_start first
    && list_all (λ character. is_xid_continue character || character == 45) others

-- Whether a text is a part.
unfoldable pub is_part : List ℕ → Bool
is_part text = is_utf8 text && are_part_characters (chars text)

-- What is between the six bytes of `@tool:` and the first colon that follows them.
abbrev pub tool_of : List ℕ → List ℕ
tool_of text = before_first (λ byte. byte == 58) (drop 6 text)

-- What is after the first colon that follows the six bytes of `@tool:`.
abbrev pub name_of : List ℕ → List ℕ
name_of text = after_first (λ byte. byte == 58) (drop 6 text)

-- Whether a text begins as the identifiers of tools do.
abbrev pub has_tool_prefix : List ℕ → Bool
has_tool_prefix text = starts_with nat_eq text (codes "@tool:")

-- Whether a text has the prefix of tools, and parts around the first colon that follows it.
abbrev pub has_tool_form : List ℕ → Bool
has_tool_form text = has_tool_prefix text && (is_part (tool_of text) && is_part (name_of text))

-- What is after the five bytes of `@org:`.
abbrev pub organisation_name_of : List ℕ → List ℕ
organisation_name_of text = drop 5 text

-- Whether a text begins as the identifiers of the organisation do.
abbrev pub has_organisation_prefix : List ℕ → Bool
has_organisation_prefix text = starts_with nat_eq text (codes "@org:")

-- Whether a text has the prefix of the organisation, and a part after it.
abbrev pub has_organisation_form : List ℕ → Bool
has_organisation_form text = has_organisation_prefix text && is_part (organisation_name_of text)

-- The plain form, if a text is a part.
abbrev pub plain_form : List ℕ → Option Form
plain_form text = if is_part text then Some plain else None

-- The form of a tool's identifier, if a text is one.
abbrev pub tool_form : List ℕ → Option Form
tool_form text = if has_tool_form text then Some (of_tool (tool_of text) (name_of text)) else None

-- The form of an identifier of the organisation, if a text is one.
abbrev pub organisation_form : List ℕ → Option Form
organisation_form text =
    if has_organisation_form text then Some (of_organisation (organisation_name_of text)) else None

-- The form of a text, if it is an identifier.
unfoldable pub form_of : List ℕ → Option Form
form_of text = option_or (plain_form text) (option_or (organisation_form text) (tool_form text))

-- Whether a text is an identifier.
unfoldable pub is_identifier : List ℕ → Bool
is_identifier text = is_some (form_of text)

-- The first character of the text is not a XID_Start character.
pub record StartsBadly (text : List ℕ) : Type 0 where
  pub first : ℕ
  pub others : List ℕ
  pub spelled : chars text ≡ first ∷ others
  pub no_start : IsFalse (is_xid_start first)

-- After the first character of the text some character does not continue a part.
pub record HasBadCharacter (text : List ℕ) : Type 0 where
  pub first : ℕ
  pub others : List ℕ
  pub character : ℕ
  pub spelled : chars text ≡ first ∷ others
  pub stands : Contains others character
  pub no_continue : ¬ ContinuesPart character

-- What keeps a text from being a part: it is empty, it starts badly, or it has a bad character.
abbrev pub HasPartFlaw : List ℕ → InvalidIdentifier → Type 0
HasPartFlaw text causes.Empty = text ≡ []
HasPartFlaw text causes.BadStart = StartsBadly text
HasPartFlaw text causes.BadCharacter = HasBadCharacter text
HasPartFlaw text causes.BadToolForm = ⊥
HasPartFlaw text causes.BadOrganisationForm = ⊥
HasPartFlaw text causes.Memory = ⊥

-- Whether a text begins as the identifiers of an owner do.
abbrev pub has_owner_prefix : List ℕ → Bool
has_owner_prefix text = has_tool_prefix text || has_organisation_prefix text

-- What keeps a text from being an identifier: with the prefix of tools, that it is not a tool's
-- identifier, with that of the organisation, that it is none of the organisation, and without a
-- prefix a flaw of a part.
abbrev pub HasFlaw : List ℕ → InvalidIdentifier → Type 0
HasFlaw text causes.BadToolForm = IsTrue (has_tool_prefix text) × (¬ IsToolIdentifier text)
HasFlaw text causes.BadOrganisationForm =
    IsTrue (has_organisation_prefix text) × (¬ IsOrganisationIdentifier text)
HasFlaw text cause = IsFalse (has_owner_prefix text) × HasPartFlaw text cause
