-- The form that a `Shape` means.
use Rattle.std.specs.Prelude.{List, [], ◌∷◌, map}
use Rattle.nextest_shape.specs.Form.{TextForm, any_text, one_of, of_pattern, Form, anything, a_truth, a_number, a_text, an_array, a_table, a_map, either, FieldForms, no_fields, a_field, Forms, no_forms, or_form}
use Rattle.nextest_shape.specs.declared.shape.Field.{Field}
use Rattle.nextest_shape.specs.declared.shape.Shape.{Shape}
use Rattle.nextest_shape.specs.declared.shape.Shape.TheFolds.{fold-Shape}
use Rattle.nextest_shape.specs.declared.shape.Shape.TheOpen.{Shape-F}
use Rattle.nextest_shape.specs.declared.shape.TextShape.{TextShape}
use Rattle.nextest_shape.specs.declared.shape.TextShape.TheVariants as texts

-- which texts a `TextShape` means
abbrev pub text_view : TextShape → TextForm
text_view texts.Any = any_text
text_view (texts.OneOf words) = one_of (map (λ word. word.now) words.now)
text_view (texts.Of pattern) = of_pattern pattern

-- some fields, each with the form of what may be there
abbrev pub field_forms_of : List (Field Form) → FieldForms
field_forms_of [] = no_fields
field_forms_of (f ∷ fs) = a_field f.key f.is_required f.shape (field_forms_of fs)

-- some forms
abbrev pub forms_of : List Form → Forms
forms_of [] = no_forms
forms_of (f ∷ fs) = or_form f (forms_of fs)

-- one level, with each shape inside already seen as its form
abbrev pub form_step : Shape-F Form → Form
form_step Shape-F.Anything = anything
form_step Shape-F.Boolean = a_truth
form_step (Shape-F.Integer least greatest) = a_number least greatest
form_step (Shape-F.Text text) = a_text (text_view text)
form_step (Shape-F.List least items) = an_array least items.value
form_step (Shape-F.Table fields) = a_table (field_forms_of fields.items)
form_step (Shape-F.Map names fields values) =
    a_map (text_view names) (field_forms_of fields.items) values.value
form_step (Shape-F.Either shapes) = either (forms_of shapes.items)

-- the form that a shape means
abbrev pub shape_view : Shape → Form
shape_view = fold-Shape Form form_step

-- a field, with the form of its shape
abbrev pub field_view : Field Shape → Field Form
field_view f = record { key = f.key; is_required = f.is_required; shape = shape_view f.shape }

-- the fields that some fields with their shapes mean
abbrev pub fields_view : List (Field Shape) → FieldForms
fields_view fs = field_forms_of (map field_view fs)

-- the forms that some shapes mean
abbrev pub shapes_view : List Shape → Forms
shapes_view shapes = forms_of (map shape_view shapes)
