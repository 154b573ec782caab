-- Which values are valid by a JSON schema of draft 7, keyword by keyword, in the words of its
-- specification: for the keywords that a schema of a configuration file has, in the forms in which
-- it has them. By a schema that has another keyword no value is valid here. Which texts match a
-- regular expression is a parameter. Nothing here speaks of the shape of a file.
use Rattle.std.specs.Prelude.{◌≡◌, ◌⊎◌, ◌≤◌, ◌+◌, ℕ, ℤ, pos, int_lt, Bool, true, false, IsTrue, IsFalse, IfSome, IsSome, List, [], ◌∷◌, Option, Some, if◌then◌else◌, codes}
use Rattle.std.specs.Str.{bytes_eq}
use Rattle.serde_json.specs.Data.{Num, unsigned, negative, Data, boolean, number, string, array, object, Items, no_items, item, Members, no_members, member}
use Rattle.serde_json.specs.Find.{get_member}
use Rattle.nextest_tree.specs.Node.{Node, table, text, int, bool, opaque, Nodes, no_nodes, node, Entries, get}
use Rattle.nextest_tree.specs.Node as nodes
use Rattle.nextest_tree.specs.Schema.{is_one_of}

-- which texts match which regular expressions
abbrev pub Matcher : Type 0
Matcher = (expression s : List ℕ) → Bool

-- ---- keywords

-- The keywords, by what each is about.
pub data Keyword : Type 0 where
  on_type : Keyword
  on_enum : Keyword
  on_pattern : Keyword
  on_minimum : Keyword
  on_maximum : Keyword
  on_items : Keyword
  on_min_items : Keyword
  on_required : Keyword
  on_properties : Keyword
  on_additional_properties : Keyword
  on_property_names : Keyword
  on_any_of : Keyword
  -- `$schema`, `title` and `description`, which require nothing of a value
  an_annotation : Keyword
  -- any other, of which nothing is said here
  unknown_keyword : Keyword

-- each keyword with its name
abbrev pub named_keywords : List (List ℕ × Keyword)
named_keywords =
    (codes "type", on_type) ∷ (codes "enum", on_enum) ∷ (codes "pattern", on_pattern)
    ∷ (codes "minimum", on_minimum) ∷ (codes "maximum", on_maximum)
    ∷ (codes "items", on_items) ∷ (codes "minItems", on_min_items)
    ∷ (codes "required", on_required) ∷ (codes "properties", on_properties)
    ∷ (codes "additionalProperties", on_additional_properties)
    ∷ (codes "propertyNames", on_property_names) ∷ (codes "anyOf", on_any_of)
    ∷ (codes "$schema", an_annotation) ∷ (codes "title", an_annotation)
    ∷ (codes "description", an_annotation) ∷ []

-- the keyword of this name among some
abbrev pub keyword_among : List (List ℕ × Keyword) → List ℕ → Keyword
keyword_among [] name = unknown_keyword
keyword_among (k ∷ ks) name = if bytes_eq k.0 name then k.1 else keyword_among ks name

-- the keyword of this name
abbrev pub keyword_of : List ℕ → Keyword
keyword_of name = keyword_among named_keywords name

-- ---- values

-- The names of the types that a value is of: an integer is of two. Floats and dates are leaves
-- without a value here, and of no type.
abbrev pub types_of : Node → List (List ℕ)
types_of (table es) = codes "object" ∷ []
types_of (nodes.array ns) = codes "array" ∷ []
types_of (text s) = codes "string" ∷ []
types_of (int z) = codes "integer" ∷ codes "number" ∷ []
types_of (bool b) = codes "boolean" ∷ []
types_of opaque = []

-- A keyword about texts requires nothing of other values.
abbrev pub IfText : (List ℕ → Type 0) → Node → Type 0
IfText P (text s) = P s
IfText P _ = Unit {0}

-- A keyword about numbers requires nothing of other values. A leaf without a value may be a float,
-- and does not meet it.
abbrev pub IfNumber : (ℤ → Type 0) → Node → Type 0
IfNumber P (int z) = P z
IfNumber P opaque = ⊥
IfNumber P _ = Unit {0}

-- A keyword about arrays requires nothing of other values.
abbrev pub IfArray : (Nodes → Type 0) → Node → Type 0
IfArray P (nodes.array ns) = P ns
IfArray P _ = Unit {0}

-- A keyword about objects requires nothing of other values.
abbrev pub IfObject : (Entries → Type 0) → Node → Type 0
IfObject P (table es) = P es
IfObject P _ = Unit {0}

-- how many items there are
abbrev pub count : Nodes → ℕ
count no_nodes = 0
count (node n ns) = count ns + 1

-- Each item meets the condition.
abbrev pub EachItem : (Node → Type 0) → Nodes → Type 0
EachItem P no_nodes = Unit {0}
EachItem P (node n ns) = P n × EachItem P ns

-- The name and the value of each property of the object meet the condition.
abbrev pub EachProperty : (List ℕ → Node → Type 0) → Entries → Type 0
EachProperty P es = (name : List ℕ) → (value : Node) → get name es ≡ Some value → P name value

-- ---- what a keyword requires

-- The items of an array are texts, each the name of a property of the object.
abbrev pub AreThere : Items → Entries → Type 0
AreThere (item (string name) names) es = IsSome (get name es) × AreThere names es
AreThere (item _ names) es = ⊥
AreThere no_items es = Unit {0}

-- The value is equal to one of JSON, which is no array and no object.
abbrev pub IsEqualTo : Data → Node → Type 0
IsEqualTo (string s) (text t) = t ≡ s
IsEqualTo (boolean b) (bool c) = c ≡ b
IsEqualTo (number (unsigned n)) (int z) = z ≡ pos n
IsEqualTo (number (negative i)) (int z) = z ≡ i
IsEqualTo _ v = ⊥

-- The value is equal to an item of an array.
abbrev pub IsAmong : Items → Node → Type 0
IsAmong no_items v = ⊥
IsAmong (item d ds) v = IsEqualTo d v ⊎ IsAmong ds v

-- The number is not below a bound, which is an integer.
abbrev pub IsNotBelow : Num → ℤ → Type 0
IsNotBelow (unsigned n) z = IsFalse (int_lt z (pos n))
IsNotBelow (negative bound) z = IsFalse (int_lt z bound)
IsNotBelow _ z = ⊥

-- The number is not above a bound, which is an integer.
abbrev pub IsNotAbove : Num → ℤ → Type 0
IsNotAbove (unsigned n) z = IsFalse (int_lt (pos n) z)
IsNotAbove (negative bound) z = IsFalse (int_lt bound z)
IsNotAbove _ z = ⊥

-- the names of the members
abbrev pub member_names : Members → List (List ℕ)
member_names no_members = []
member_names (member name d ms) = name ∷ member_names ms

-- the names of the members of an object
abbrev pub names_in : Option Data → List (List ℕ)
names_in (Some (object properties)) = member_names properties
names_in _ = []

-- the names that a schema has under `properties`, which its `additionalProperties` leaves out
abbrev pub property_names : Members → List (List ℕ)
property_names schema = names_in (get_member (codes "properties") schema)

-- What a keyword of a schema requires of a value `v`. The keyword has `d` in the schema, and the
-- schema has `properties` as the names of its properties. If `d` is itself a schema, `Whole` says
-- which values are valid by it. If it is an array of schemas, `One` says which values are valid by
-- one of them. If it is an object of schemas, `Named` says of which objects the properties are
-- valid by the schemas under their names.
abbrev pub Requires :
    Matcher → (properties : List (List ℕ)) → Keyword → Data → (Whole One : Node → Type 0)
    → (Named : Entries → Type 0) → Node → Type 0
Requires matches properties on_type (string name) Whole One Named v =
    IsTrue (is_one_of (types_of v) name)
Requires matches properties on_enum (array values) Whole One Named v = IsAmong values v
Requires matches properties on_pattern (string e) Whole One Named v =
    IfText (λ s. IsTrue (matches e s)) v
Requires matches properties on_minimum (number bound) Whole One Named v =
    IfNumber (IsNotBelow bound) v
Requires matches properties on_maximum (number bound) Whole One Named v =
    IfNumber (IsNotAbove bound) v
Requires matches properties on_items d Whole One Named v = IfArray (EachItem Whole) v
Requires matches properties on_min_items (number (unsigned least)) Whole One Named v =
    IfArray (λ ns. least ≤ count ns) v
Requires matches properties on_required (array names) Whole One Named v =
    IfObject (AreThere names) v
Requires matches properties on_properties (object ms) Whole One Named v = IfObject Named v
Requires matches properties on_additional_properties d Whole One Named v =
    IfObject (EachProperty (λ name value. IsFalse (is_one_of properties name) → Whole value)) v
Requires matches properties on_property_names d Whole One Named v =
    IfObject (EachProperty (λ name value. Whole (text name))) v
Requires matches properties on_any_of (array schemas) Whole One Named v = One v
Requires matches properties an_annotation d Whole One Named v = Unit {0}
Requires matches properties _ d Whole One Named v = ⊥

-- ---- validity

abbrev mutual
  -- The value is valid by the schema: by `true` each value is, by `false` none, and by an object
  -- those that meet each of its keywords. Nothing else is a schema.
  pub Validates : Matcher → Data → Node → Type 0
  Validates matches (boolean true) v = Unit {0}
  Validates matches (boolean false) v = ⊥
  Validates matches (object schema) v = MeetsEach matches (property_names schema) schema v
  Validates matches _ v = ⊥

  -- The value meets each of these keywords of a schema.
  pub MeetsEach : Matcher → (properties : List (List ℕ)) → Members → Node → Type 0
  MeetsEach matches properties no_members v = Unit {0}
  MeetsEach matches properties (member name d ms) v =
      Requires matches properties (keyword_of name) d
      (Validates matches d) (ValidatesOne matches d) (ValidatesNamed matches d) v
      × MeetsEach matches properties ms v

  -- The value is valid by one schema of an array.
  pub ValidatesOne : Matcher → Data → Node → Type 0
  ValidatesOne matches (array schemas) v = ValidatesSome matches schemas v
  ValidatesOne matches _ v = ⊥

  -- The value is valid by one of these schemas.
  pub ValidatesSome : Matcher → Items → Node → Type 0
  ValidatesSome matches no_items v = ⊥
  ValidatesSome matches (item schema schemas) v =
      Validates matches schema v ⊎ ValidatesSome matches schemas v

  -- The properties under the names of an object of schemas are valid by the schemas there.
  pub ValidatesNamed : Matcher → Data → Entries → Type 0
  ValidatesNamed matches (object schemas) es = ValidatesEach matches schemas es
  ValidatesNamed matches _ es = ⊥

  -- The properties under these names, where there are some, are valid by the schemas there.
  pub ValidatesEach : Matcher → Members → Entries → Type 0
  ValidatesEach matches no_members es = Unit {0}
  ValidatesEach matches (member name schema schemas) es =
      IfSome (get name es) (Validates matches schema) × ValidatesEach matches schemas es
