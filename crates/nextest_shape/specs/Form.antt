-- What may be at a place of a file, as data.
use Rattle.std.specs.Prelude.{ℕ, ℤ, List, [], ◌∷◌, Bool, Option}
use Rattle.nextest_tree.specs.declared.key.Key.{Key}
use Rattle.nextest_shape.specs.declared.shape.Pattern.{Pattern}

-- Which texts may be at a place: any, one of some words, or those of a pattern.
pub data TextForm : Type 0 where
  any_text : TextForm
  one_of : (words : List (List ℕ)) → TextForm
  of_pattern : Pattern → TextForm

mutual
  -- What may be at a place.
  pub data Form : Type 0 where
    -- anything at all
    anything : Form
    -- a truth value
    a_truth : Form
    -- a whole number from the least to the greatest one, where there is one
    a_number : (least greatest : Option ℤ) → Form
    -- a text
    a_text : TextForm → Form
    -- an array with at least so many items, each of one form
    an_array : (least : ℕ) → Form → Form
    -- a table with these fields and no other keys
    a_table : FieldForms → Form
    -- a table with values of one form under names, but for those that are fields
    a_map : (names : TextForm) → FieldForms → Form → Form
    -- one of several forms
    either : Forms → Form

  -- The fields of a table.
  pub data FieldForms : Type 0 where
    no_fields : FieldForms
    -- a key, whether a file has to write it, what may be there, and the fields after it
    a_field : Key → (is_required : Bool) → Form → FieldForms → FieldForms

  -- Several forms.
  pub data Forms : Type 0 where
    no_forms : Forms
    or_form : Form → Forms → Forms

-- the keys of the fields, in order
abbrev pub field_keys : FieldForms → List Key
field_keys no_fields = []
field_keys (a_field k is_required f fs) = k ∷ field_keys fs

-- some fields, and then others
abbrev pub and_fields : FieldForms → FieldForms → FieldForms
and_fields no_fields gs = gs
and_fields (a_field k is_required f fs) gs = a_field k is_required f (and_fields fs gs)
