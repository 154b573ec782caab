-- Parts of a JSON value.
use Rattle.std.specs.Prelude.{ℕ, List, [], ◌∷◌, Bool, false, is_some, if◌then◌else◌, Option, None, Some, option_and_then, option_map}
use Rattle.serde_json.specs.Data.{Data, null, boolean, number, string, array, object, Items, no_items, item}
use Rattle.serde_json.specs.Find.{get, as_array, as_bool, as_null, as_object, as_str}
use Rattle.filter_inputs.specs.declared.fields.kind.Kind.{Kind}
use Rattle.filter_inputs.specs.declared.fields.kind.Kind.TheVariants as kinds
use Rattle.filter_inputs.specs.declared.fields.kind.Wanted.{Wanted}
use Rattle.filter_inputs.specs.declared.fields.kind.Wanted.TheVariants as wants

-- the kind of a value
abbrev pub kind_of : Data → Kind
kind_of null = kinds.Null
kind_of (boolean b) = kinds.Boolean
kind_of (number n) = kinds.Number
kind_of (string s) = kinds.Text
kind_of (array ds) = kinds.List
kind_of (object ms) = kinds.Object

-- the items of an array, in order
abbrev pub listed : Items → List Data
listed no_items = []
listed (item d ds) = d ∷ listed ds

-- the values of an array, in order
abbrev pub a_list : Data → Option (List Data)
a_list value = option_map listed (as_array value)

-- a value, if it is an object
abbrev pub an_object : Data → Option Data
an_object value = option_map (λ _. value) (as_object value)

-- what a reading returns for a value, or `None` if the value is `null`
abbrev pub unless_null : {A : Type 0} → (Data → Option A) → Data → Option (Option A)
unless_null reading value =
    if is_some (as_null value) then Some None else option_map Some (reading value)

-- a string, or `None` if the value is `null`
abbrev pub optional_text : Data → Option (Option (List ℕ))
optional_text = unless_null as_str

-- an object, or `None` if the value is `null`
abbrev pub optional_object : Data → Option (Option Data)
optional_object = unless_null an_object

-- whether there is a value, and it is of the type that is wanted
abbrev pub fits : Wanted → Option Data → Bool
fits wanted None = false
fits wants.Null (Some value) = is_some (as_null value)
fits wants.Flag (Some value) = is_some (as_bool value)
fits wants.Text (Some value) = is_some (as_str value)
fits wants.TextOrNull (Some value) = is_some (optional_text value)
fits wants.List (Some value) = is_some (as_array value)
fits wants.Object (Some value) = is_some (as_object value)
fits wants.ObjectOrNull (Some value) = is_some (optional_object value)

-- what a reading returns for the value at a key
abbrev pub under : {A : Type 0} → (Data → Option A) → List ℕ → Data → Option A
under reading key value = option_and_then reading (get key value)
