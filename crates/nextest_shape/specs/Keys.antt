-- The keys that the table at a path knows.
use Rattle.std.specs.Prelude.{ℕ, List, [], ◌∷◌, map, Option, Some, None, unwrap_or, if◌then◌else◌}
use Rattle.std.specs.Str.{bytes_eq}
use Rattle.nextest_tree.specs.Key.{key_text}
use Rattle.nextest_shape.specs.Form.{Form, an_array, a_table, a_map, either, FieldForms, no_fields, a_field, Forms, no_forms, or_form, field_keys}

-- the texts of the keys of fields
abbrev pub key_texts : FieldForms → List (List ℕ)
key_texts fs = map key_text (field_keys fs)

-- texts, or others where there are none
abbrev pub or_others : List (List ℕ) → List (List ℕ) → List (List ℕ)
or_others [] others = others
or_others (t ∷ ts) others = t ∷ ts

abbrev mutual
  -- The keys that a form has for the table at a path, whose parts are keys, names and positions: a
  -- position means any item, and of several forms the first with keys there has them.
  pub keys_at : Form → List (List ℕ) → List (List ℕ)
  keys_at (a_table fs) [] = key_texts fs
  keys_at (a_table fs) (part ∷ path) = unwrap_or (field_keys_at fs part path) []
  keys_at (a_map names fs f) [] = key_texts fs
  keys_at (a_map names fs f) (part ∷ path) = unwrap_or (field_keys_at fs part path) (keys_at f path)
  keys_at (an_array least f) (part ∷ path) = keys_at f path
  keys_at (either fs) path = first_keys_at fs path
  keys_at _ path = []

  -- The keys at a path from a field on, if there is a field of this key.
  pub field_keys_at : FieldForms → List ℕ → List (List ℕ) → Option (List (List ℕ))
  field_keys_at no_fields part path = None
  field_keys_at (a_field k is_required f fs) part path =
      if bytes_eq (key_text k) part then Some (keys_at f path) else field_keys_at fs part path

  -- The keys at a path of the first form that has some.
  pub first_keys_at : Forms → List (List ℕ) → List (List ℕ)
  first_keys_at no_forms path = []
  first_keys_at (or_form f fs) path = or_others (keys_at f path) (first_keys_at fs path)
