-- What the shape of a file wants at a path.
use Rattle.std.specs.Prelude.{ℕ, List, [], ◌∷◌, map, Option, None, Some, unwrap_or, if◌then◌else◌}
use Rattle.std.specs.Option.{option_and_then}
use Rattle.std.specs.Str.{bytes_eq}
use Rattle.nextest_places.specs.declared.step.Step.{Step}
use Rattle.nextest_places.specs.declared.step.Step.TheVariants as steps
use Rattle.nextest_shape.specs.Form.{Form, an_array, a_table, a_map, either, FieldForms, no_fields, a_field, Forms, no_forms, or_form}
use Rattle.nextest_shape.specs.FileForm.{file_form}
use Rattle.nextest_tree.specs.Key.{key_text}

-- the key of a step to a key
abbrev pub key_of : Step → Option (List ℕ)
key_of (steps.Key key) = Some key.now
key_of (steps.Position place) = None

-- what is wanted at the key of a field
abbrev pub field_at : FieldForms → List ℕ → Option Form
field_at no_fields key = None
field_at (a_field k is_required form fs) key =
    if bytes_eq (key_text k) key then Some form else field_at fs key

-- what is wanted at a name of a map: at the key of a field what the field wants
abbrev pub name_at : FieldForms → Form → List ℕ → Option Form
name_at fs values key = Some (unwrap_or (field_at fs key) values)

-- what one form wants at a key or a name, or at a position, below it; an array wants the same
-- everywhere
abbrev pub below_one : Form → Option (List ℕ) → Option Form
below_one (an_array least items) key = Some items
below_one (a_table fs) key = option_and_then (field_at fs) key
below_one (a_map names fs values) key = option_and_then (name_at fs values) key
below_one _ key = None

-- the first that there is
abbrev pub first_form : Option Form → Option Form → Option Form
first_form (Some form) other = Some form
first_form None other = other

-- what the first of several forms wants that has something there
abbrev pub below_first : Forms → Option (List ℕ) → Option Form
below_first no_forms key = None
below_first (or_form form forms) key = first_form (below_one form key) (below_first forms key)

-- what is wanted at a key or a name, or at a position, below a form
abbrev pub form_below : Form → Option (List ℕ) → Option Form
form_below (either forms) key = below_first forms key
form_below form key = below_one form key

-- what a form wants at a path below it, of which these are the keys: a position has none
abbrev pub form_at : List (Option (List ℕ)) → Form → Option Form
form_at [] form = Some form
form_at (key ∷ path) form = option_and_then (form_at path) (form_below form key)

-- what a file wants at a path
abbrev pub wanted_at : List Step → Option Form
wanted_at path = form_at (map key_of path) file_form
