-- The schema of a form is valid of what the form accepts.
use Rattle.std.proofs.Common.{◌↔◌, ℕ, true, false, IsTrue, map, List, [], inl, inr, refl, sym, ◌∙◌, codes}
use Rattle.std.proofs.lemmas.Bool.{false≢true, and_parts}
use Rattle.serde_json.specs.Data.{string, object}
use Rattle.serde_json.specs.View.{items_of}
use Rattle.nextest_tree.specs.Key.{key_text}
use Rattle.nextest_tree.specs.Node.{Node, table, text, bool, Entries, get}
use Rattle.nextest_shape.specs.About.{about_text}
use Rattle.nextest_shape.specs.FileForm.{file_form, profiles_form, profile_form, override_form, script_rule_form, command_form, setup_script_form, wrapper_script_form}
use Rattle.nextest_shape.specs.Form.{Form, anything, a_truth, a_number, a_text, an_array, a_table, a_map, either, FieldForms, no_fields, a_field, Forms, no_forms, or_form, field_keys}
use Rattle.nextest_shape.specs.Page.{described, required_keys, schema_members, schemas_of, schema_data}
use Rattle.rinqebo_laws.specs.Matching.{IsMatched, AcceptsBy, AcceptsFieldsBy, AcceptsSomeBy, keys_differ, has_each_key_once, fields_have_each_key_once, forms_have_each_key_once}
use Rattle.rinqebo_laws.specs.Validation.{Matcher, AreThere, Validates, ValidatesSome}
use Rattle.rinqebo_laws.proofs.SchemaMembers.{FieldsAreValid, fields_valid, names_are_keys, note_same}
use Rattle.rinqebo_laws.proofs.SchemaTables.{optional_same, others_same, required_same}
use Rattle.rinqebo_laws.proofs.SchemaValues.{array_same, number_same, text_same}

-- what is at a field is valid with what the key is for
described_same : (m : Matcher) (about : List ℕ) (f : Form) (A : Node → Type 0)
    → ((v : Node) → Validates m (object (schema_members f)) v ↔ A v) → (v : Node)
    → (Validates m (object (described about (schema_members f))) v ↔ A v)
described_same m about f A same v =
    let noted = note_same m (codes "description") (string about) (schema_members f) v refl in
    (λ h. (same v).0 (noted.0 h), λ h. noted.1 ((same v).1 h))

mutual
  form_same : (m : Matcher) (f : Form) → IsTrue (has_each_key_once f) → (v : Node)
      → (Validates m (object (schema_members f)) v ↔ AcceptsBy (IsMatched m) f v)
  form_same m anything once v = (λ h. tt, λ h. tt)
  form_same m a_truth once (bool b) = (λ h. tt, λ h. (refl, tt))
  form_same m a_truth once _ = (λ h. absurd (false≢true h.0), λ h. absurd h)
  form_same m (a_number least greatest) once v = number_same m _ least greatest v
  form_same m (a_text form) once v = text_same m _ form v
  form_same m (an_array least f) once v =
      array_same m [] least (object (schema_members f)) (AcceptsBy (IsMatched m) f) (form_same m f once) v
  form_same m (a_table fs) once (table es) =
      let parts = and_parts (keys_differ fs) (fields_have_each_key_once fs) once in
      let fields = fields_same m fs parts.1 es in
      let valid = fields_valid m fs es parts.0 in
      let others = others_same _ (field_keys fs) es (λ name. names_are_keys name fs) in (
        λ h. (fields.0 (h.1.1.0, valid.0 h.1.0), others.0 h.0),
        λ h. let met = fields.1 h.0 in (others.1 h.1, (valid.1 met.1, (met.0, (refl, tt)))),
      )
  form_same m (a_table fs) once _ = (λ h. absurd (false≢true h.1.1.1.0), λ h. absurd h)
  form_same m (a_map names fs f) once (table es) =
      let parts = and_parts (keys_differ fs) _ once in
      let inside = and_parts (fields_have_each_key_once fs) (has_each_key_once f) parts.1 in
      let fields = fields_same m fs inside.0 es in
      let valid = fields_valid m fs es parts.0 in (
        λ h. (
          fields.0 (h.1.1.1.0, valid.0 h.1.0),
          λ name v there. (
            (text_same m _ names (text name)).0 (h.1.1.0 name v there),
            λ no. (form_same m f inside.1 v).0 (h.0 name v there (names_are_keys name fs ∙ no)),
          ),
        ),
        λ h. let met = fields.1 h.0 in (
          λ name v there no. (form_same m f inside.1 v).1 ((h.1 name v there).1 (sym (names_are_keys name fs) ∙ no)),
          (
            valid.1 met.1,
            (
              λ name v there. (text_same m _ names (text name)).1 (h.1 name v there).0,
              (met.0, (refl, tt)),
            ),
          ),
        ),
      )
  form_same m (a_map names fs f) once _ = (λ h. absurd (false≢true h.1.1.1.1.0), λ h. absurd h)
  form_same m (either fs) once v =
      let some = forms_same m fs once v in
      (λ h. some.0 h.0, λ h. (some.1 h, tt))

  fields_same : (m : Matcher) (fs : FieldForms) → IsTrue (fields_have_each_key_once fs) → (es : Entries)
      → ((AreThere (items_of (map string (required_keys fs))) es × FieldsAreValid m fs es)
      ↔ AcceptsFieldsBy (IsMatched m) fs es)
  fields_same m no_fields once es = (λ h. tt, λ h. (tt, tt))
  fields_same m (a_field k true f fs) once es =
      let parts = and_parts (has_each_key_once f) (fields_have_each_key_once fs) once in
      let rest = fields_same m fs parts.1 es in
      let here = required_same _ (AcceptsBy (IsMatched m) f)
      (described_same m (about_text k) f (AcceptsBy (IsMatched m) f) (form_same m f parts.0)) (get (key_text k) es) in (
        λ h. (here.0 (h.0.0, h.1.0), rest.0 (h.0.1, h.1.1)),
        λ h. let one = here.1 h.0 in let more = rest.1 h.1 in ((one.0, more.0), (one.1, more.1)),
      )
  fields_same m (a_field k false f fs) once es =
      let parts = and_parts (has_each_key_once f) (fields_have_each_key_once fs) once in
      let rest = fields_same m fs parts.1 es in
      let here = optional_same _ (AcceptsBy (IsMatched m) f)
      (described_same m (about_text k) f (AcceptsBy (IsMatched m) f) (form_same m f parts.0)) (get (key_text k) es) in (
        λ h. (here.0 h.1.0, rest.0 (h.0, h.1.1)),
        λ h. let more = rest.1 h.1 in (more.0, (here.1 h.0, more.1)),
      )

  forms_same : (m : Matcher) (fs : Forms) → IsTrue (forms_have_each_key_once fs) → (v : Node)
      → (ValidatesSome m (items_of (schemas_of fs)) v ↔ AcceptsSomeBy (IsMatched m) fs v)
  forms_same m no_forms once v = (λ h. h, λ h. h)
  forms_same m (or_form f fs) once v =
      let parts = and_parts (has_each_key_once f) (forms_have_each_key_once fs) once in
      let one = form_same m f parts.0 v in
      let more = forms_same m fs parts.1 v in (
        elim [ inl h ↦ inl (one.0 h) | inr h ↦ inr (more.0 h) ],
        elim [ inl h ↦ inl (one.1 h) | inr h ↦ inr (more.1 h) ],
      )

-- the schema of a form as a document of its own
pub every_same : (m : Matcher) (f : Form) → IsTrue (has_each_key_once f) → (v : Node)
    → (Validates m (schema_data f) v ↔ AcceptsBy (IsMatched m) f v)
every_same m f once v =
    let inner = note_same m (codes "$schema") (string (codes "http://json-schema.org/draft-07/schema#"))
    (schema_members f) v refl in
    let outer = note_same m (codes "title") (string (codes "Configuration of cargo-nextest")) _ v refl in
    let same = form_same m f once v in
    (λ h. same.0 (inner.0 (outer.0 h)), λ h. outer.1 (inner.1 (same.1 h)))

-- the shape of files has each key once
pub file_once : IsTrue (has_each_key_once file_form)
unfolding key_text file_form profiles_form profile_form override_form script_rule_form command_form
    setup_script_form wrapper_script_form
file_once = refl
