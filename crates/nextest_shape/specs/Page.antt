-- The JSON schema that says a form.
use Rattle.std.specs.Prelude.{ℕ, ℤ, List, [], ◌∷◌, ◌++◌, map, true, false, Option, Some, None, codes}
use Rattle.serde_json.specs.Data.{Data, boolean, number, string, array, object, unsigned, Members, no_members, member, put}
use Rattle.serde_json.specs.Find.{of_integer}
use Rattle.serde_json.specs.View.{items_of}
use Rattle.nextest_tree.specs.Key.{key_text}
use Rattle.nextest_shape.specs.declared.shape.Pattern.{Pattern}
use Rattle.nextest_shape.specs.declared.shape.Pattern.TheVariants as patterns
use Rattle.nextest_shape.specs.About.{about_text}
use Rattle.nextest_shape.specs.Form.{TextForm, any_text, one_of, of_pattern, Form, anything, a_truth, a_number, a_text, an_array, a_table, a_map, either, FieldForms, no_fields, a_field, Forms, no_forms, or_form}

-- ---- expressions

-- The regular expression of a duration: `0`, or numbers with units, with spaces before, between
-- and after them.
unfoldable pub duration_expression : List ℕ
duration_expression =
    codes "^(0|( *[0-9]+ *(ns|nsec|nanos|us|usec|\\u00b5s|ms|msec|millis"
    ++ codes "|s|sec|secs|second|seconds|m|min|mins|minute|minutes|h|hr|hrs|hour|hours"
    ++ codes "|d|day|days|w|wk|wks|week|weeks|M|month|months|y|yr|yrs|year|years))+ *)$"

-- The regular expression of a part of an identifier, which may have any character beyond ASCII.
abbrev pub part_expression : List ℕ
part_expression =
    codes "[^\\x00-\\x40\\x5b-\\x60\\x7b-\\x7f]"
    ++ codes "[^\\x00-\\x2c\\x2e\\x2f\\x3a-\\x40\\x5b-\\x5e\\x60\\x7b-\\x7f]*"

-- The regular expression of a part, with the prefix of a tool or of the organisation or without.
abbrev pub owned_expression : List ℕ
owned_expression = codes "((@tool:" ++ part_expression ++ codes ":)|@org:)?" ++ part_expression

-- The regular expression of an identifier.
unfoldable pub identifier_expression : List ℕ
identifier_expression = codes "^" ++ owned_expression ++ codes "$"

-- The regular expression of a group: `@global`, or an identifier.
unfoldable pub group_expression : List ℕ
group_expression = codes "^(@global|" ++ owned_expression ++ codes ")$"

-- The regular expression that each text of a pattern matches: a line has something that is no
-- space, tab or line feed, and a key of an environment variable does not begin with `NEXTEST`.
abbrev pub expression_of : Pattern → List ℕ
expression_of patterns.Duration = duration_expression
expression_of patterns.Identifier = identifier_expression
expression_of patterns.TestGroup = group_expression
expression_of patterns.CommandLine = codes "[^ \\t\\n]"
expression_of patterns.EnvironmentKey = codes "^(?!NEXTEST)[A-Za-z_][A-Za-z0-9_]*$"

-- ---- the schema of a form

-- the members of a schema for values of this type
abbrev pub typed : List ℕ → Members
typed name = member (codes "type") (string name) no_members

-- a list of texts
abbrev pub texts_data : List (List ℕ) → Data
texts_data texts = array (items_of (map string texts))

-- the members of the schema of texts
abbrev pub text_members : TextForm → Members
text_members any_text = typed (codes "string")
text_members (one_of words) = member (codes "enum") (texts_data words) (typed (codes "string"))
text_members (of_pattern pattern) =
    member (codes "pattern") (string (expression_of pattern)) (typed (codes "string"))

-- members, with a bound under a name, if there is one
abbrev pub with_bound : List ℕ → Option ℤ → Members → Members
with_bound name None members = members
with_bound name (Some bound) members = put name (number (of_integer bound)) members

-- the members of the schema of numbers
abbrev pub number_members : (least greatest : Option ℤ) → Members
number_members least greatest =
    with_bound (codes "maximum") greatest
    (with_bound (codes "minimum") least (typed (codes "integer")))

-- the members of the schema of arrays
abbrev pub array_members : (least : ℕ) → Data → Members
array_members least items =
    member (codes "items") items
    (member (codes "minItems") (number (unsigned least)) (typed (codes "array")))

-- the members of the schema of tables that have these properties and no others
abbrev pub table_members : Members → (required : Data) → Members
table_members properties required =
    member (codes "additionalProperties") (boolean false)
    (member (codes "properties") (object properties)
    (member (codes "required") required
    (typed (codes "object"))))

-- the members of the schema of tables that have these properties, and others of this schema
abbrev pub map_members : (names others : Data) → Members → (required : Data) → Members
map_members names others properties required =
    member (codes "additionalProperties") others
    (member (codes "properties") (object properties)
    (member (codes "propertyNames") names
    (member (codes "required") required
    (typed (codes "object")))))

-- the keys of the fields that a file has to write
abbrev pub required_keys : FieldForms → List (List ℕ)
required_keys no_fields = []
required_keys (a_field k true f fs) = key_text k ∷ required_keys fs
required_keys (a_field k false f fs) = required_keys fs

-- the members of a schema, with what a key is for
abbrev pub described : List ℕ → Members → Members
described about members = put (codes "description") (string about) members

abbrev mutual
  -- The members of the schema that says a form.
  pub schema_members : Form → Members
  schema_members anything = no_members
  schema_members a_truth = typed (codes "boolean")
  schema_members (a_number least greatest) = number_members least greatest
  schema_members (a_text form) = text_members form
  schema_members (an_array least f) = array_members least (object (schema_members f))
  schema_members (a_table fs) =
      table_members (with_properties fs no_members) (texts_data (required_keys fs))
  schema_members (a_map names fs f) =
      map_members (object (text_members names)) (object (schema_members f))
      (with_properties fs no_members) (texts_data (required_keys fs))
  schema_members (either fs) = member (codes "anyOf") (array (items_of (schemas_of fs))) no_members

  -- Properties, with one for each field at its key, which says what the key is for.
  pub with_properties : FieldForms → Members → Members
  with_properties no_fields properties = properties
  with_properties (a_field k is_required f fs) properties =
      with_properties fs
      (put (key_text k) (object (described (about_text k) (schema_members f))) properties)

  -- The schemas of several forms.
  pub schemas_of : Forms → List Data
  schemas_of no_forms = []
  schemas_of (or_form f fs) = object (schema_members f) ∷ schemas_of fs

-- the members of a schema, with which version of JSON schemas it is written in, and its title
abbrev pub titled : Members → Members
titled members =
    put (codes "title") (string (codes "Configuration of cargo-nextest"))
    (put (codes "$schema") (string (codes "http://json-schema.org/draft-07/schema#")) members)

-- the JSON schema of a form, as a document of its own
abbrev pub schema_data : Form → Data
schema_data f = object (titled (schema_members f))
