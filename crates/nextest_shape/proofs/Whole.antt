-- A schema has no number that is a float, so that its text is known.
use Rattle.std.proofs.Common.{◌≡◌, ℕ, ℤ, pos, negsuc, List, [], ◌∷◌, Bool, true, false, ◌||◌, map, Option, Some, None, Ordering, Less, Equal, Greater, codes, nat_cmp, refl}
use Rattle.std.specs.Cmp.Lexicographic.{slice_cmp}
use Rattle.std.specs.Ordering.{match_ordering}
use Rattle.nextest_tree.specs.Key.{key_text}
use Rattle.serde_json.specs.Data.{Data, string, object, number, Members, no_members, member, put}
use Rattle.serde_json.specs.Find.{of_integer}
use Rattle.serde_json.specs.View.{items_of}
use Rattle.serde_json.specs.Written.{has_float, items_have_float, members_have_float}
use Rattle.nextest_shape.specs.About.{about_text}
use Rattle.nextest_shape.specs.Form.{TextForm, any_text, one_of, of_pattern, Form, anything, a_truth, a_number, a_text, an_array, a_table, a_map, either, FieldForms, no_fields, a_field, Forms, no_forms, or_form}
use Rattle.nextest_shape.specs.Page.{typed, text_members, with_bound, described, required_keys, schema_members, with_properties, schemas_of, schema_data}

neither : (a b : Bool) → (a || b) ≡ false → (a ≡ false) × (b ≡ false)
neither true b h = absurd (cc)
neither false b h = (refl, h)

both : (a b : Bool) → a ≡ false → b ≡ false → (a || b) ≡ false
both a b h k = rw h k

put_at : (o : Ordering) (k l : List ℕ) (d e : Data) (ms : Members) → has_float d ≡ false
    → members_have_float (member l e ms) ≡ false → members_have_float (put k d ms) ≡ false
    → members_have_float
    (match_ordering o (member k d (member l e ms)) (member l d ms) (member l e (put k d ms))) ≡ false
put_at Less k l d e ms h hs more = both (has_float d) (members_have_float (member l e ms)) h hs
put_at Equal k l d e ms h hs more =
    both (has_float d) (members_have_float ms) h (neither (has_float e) (members_have_float ms) hs).1
put_at Greater k l d e ms h hs more =
    both (has_float e) (members_have_float (put k d ms)) (neither (has_float e) (members_have_float ms) hs).0 more

put_whole : (k : List ℕ) (d : Data) (ms : Members) → has_float d ≡ false → members_have_float ms ≡ false
    → members_have_float (put k d ms) ≡ false
put_whole k d no_members h hs = both (has_float d) false h refl
put_whole k d (member l e ms) h hs =
    put_at (slice_cmp nat_cmp k l) k l d e ms h hs
    (put_whole k d ms h (neither (has_float e) (members_have_float ms) hs).1)

texts_whole : (texts : List (List ℕ)) → items_have_float (items_of (map string texts)) ≡ false
texts_whole [] = refl
texts_whole (t ∷ ts) = texts_whole ts

text_whole : (form : TextForm) → members_have_float (text_members form) ≡ false
text_whole any_text = refl
text_whole (one_of words) = both (items_have_float (items_of (map string words))) false (texts_whole words) refl
text_whole (of_pattern pattern) = refl

integer_whole : (z : ℤ) → has_float (number (of_integer z)) ≡ false
integer_whole (pos n) = refl
integer_whole (negsuc n) = refl

bound_whole : (name : List ℕ) (bound : Option ℤ) (ms : Members) → members_have_float ms ≡ false
    → members_have_float (with_bound name bound ms) ≡ false
bound_whole name None ms hs = hs
bound_whole name (Some bound) ms hs = put_whole name (number (of_integer bound)) ms (integer_whole bound) hs

mutual
  members_whole : (f : Form) → members_have_float (schema_members f) ≡ false
  members_whole anything = refl
  members_whole a_truth = refl
  members_whole (a_number least greatest) =
      bound_whole (codes "maximum") greatest (with_bound (codes "minimum") least (typed (codes "integer")))
      (bound_whole (codes "minimum") least (typed (codes "integer")) refl)
  members_whole (a_text form) = text_whole form
  members_whole (an_array least f) = both (members_have_float (schema_members f)) false (members_whole f) refl
  members_whole (a_table fs) =
      both (members_have_float (with_properties fs no_members)) _ (properties_whole fs no_members refl)
      (both (items_have_float (items_of (map string (required_keys fs)))) false (texts_whole (required_keys fs)) refl)
  members_whole (a_map names fs f) =
      both (members_have_float (schema_members f)) _ (members_whole f)
      (both (members_have_float (with_properties fs no_members)) _ (properties_whole fs no_members refl)
      (both (members_have_float (text_members names)) _ (text_whole names)
      (both (items_have_float (items_of (map string (required_keys fs)))) false (texts_whole (required_keys fs)) refl)))
  members_whole (either fs) = both (items_have_float (items_of (schemas_of fs))) false (schemas_whole fs) refl

  properties_whole : (fs : FieldForms) (ms : Members) → members_have_float ms ≡ false
      → members_have_float (with_properties fs ms) ≡ false
  properties_whole no_fields ms hs = hs
  properties_whole (a_field k is_required f fs) ms hs =
      properties_whole fs _ (put_whole (key_text k) (object (described (about_text k) (schema_members f))) ms
      (put_whole (codes "description") (string (about_text k)) (schema_members f) refl (members_whole f)) hs)

  schemas_whole : (fs : Forms) → items_have_float (items_of (schemas_of fs)) ≡ false
  schemas_whole no_forms = refl
  schemas_whole (or_form f fs) =
      both (members_have_float (schema_members f)) (items_have_float (items_of (schemas_of fs))) (members_whole f)
      (schemas_whole fs)

pub schema_whole : (f : Form) → has_float (schema_data f) ≡ false
schema_whole f =
    put_whole (codes "title") _ (put (codes "$schema") _ (schema_members f)) refl
    (put_whole (codes "$schema") _ (schema_members f) refl (members_whole f))
