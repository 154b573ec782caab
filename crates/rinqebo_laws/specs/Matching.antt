-- Which nodes a form accepts for any meaning of its patterns, the meaning by their regular
-- expressions, and forms with each key once.
use Rattle.std.specs.Prelude.{◌≡◌, ◌⊎◌, ◌&&◌, ℕ, Bool, true, not, IsTrue, IsFalse, List, map, Some}
use Rattle.nextest_tree.specs.declared.key.Key.{Key}
use Rattle.nextest_tree.specs.Key.{key_text}
use Rattle.nextest_tree.specs.Node.{Node, text, Entries, get}
use Rattle.nextest_tree.specs.Schema.{is_one_of}
use Rattle.nextest_shape.specs.declared.shape.Pattern.{Pattern}
use Rattle.nextest_shape.specs.Accepts.{HasPattern, IsTruth, IsNumberIn, IsArrayOf, IsTableOf, MeetsAt, HasNoOthers}
use Rattle.nextest_shape.specs.Form.{TextForm, any_text, one_of, of_pattern, Form, anything, a_truth, a_number, a_text, an_array, a_table, a_map, either, FieldForms, no_fields, a_field, Forms, no_forms, or_form, field_keys}
use Rattle.nextest_shape.specs.Page.{expression_of}
use Rattle.rinqebo_laws.specs.Validation.{Matcher}

-- ---- patterns by their expressions

-- The text matches the expression of the pattern.
abbrev pub IsMatched : Matcher → Pattern → List ℕ → Type 0
IsMatched matches pattern s = IsTrue (matches (expression_of pattern) s)

-- Each text of a pattern matches its expression.
abbrev pub MatchesPatterns : Matcher → Type 0
MatchesPatterns matches =
    (pattern : Pattern) → (s : List ℕ) → HasPattern pattern s → IsMatched matches pattern s

-- Each text that matches the expression of a pattern is of the pattern.
abbrev pub MatchesOnlyPatterns : Matcher → Type 0
MatchesOnlyPatterns matches =
    (pattern : Pattern) → (s : List ℕ) → IsMatched matches pattern s → HasPattern pattern s

-- ---- what a form accepts

-- The text may be where these texts may, and `Has` says which texts are of a pattern.
abbrev pub AcceptsTextBy : (Has : Pattern → List ℕ → Type 0) → TextForm → List ℕ → Type 0
AcceptsTextBy Has any_text s = Unit {0}
AcceptsTextBy Has (one_of words) s = IsTrue (is_one_of words s)
AcceptsTextBy Has (of_pattern pattern) s = Has pattern s

-- The node is a text that may be there.
abbrev pub IsTextBy : (Has : Pattern → List ℕ → Type 0) → TextForm → Node → Type 0
IsTextBy Has form (text s) = AcceptsTextBy Has form s
IsTextBy Has form _ = ⊥

-- Each name that is none of the keys may be there, and what is at it meets the condition.
abbrev pub MeetOthersBy :
    (Has : Pattern → List ℕ → Type 0) → TextForm → (Node → Type 0) → List Key → Entries → Type 0
MeetOthersBy Has names P known es = (name : List ℕ) → (n : Node) → get name es ≡ Some n
    → AcceptsTextBy Has names name × (IsFalse (is_one_of (map key_text known) name) → P n)

-- This is what `Accepts` says, but that `Has` says which texts are of a pattern.
abbrev mutual
  -- The form accepts the node.
  pub AcceptsBy : (Has : Pattern → List ℕ → Type 0) → Form → Node → Type 0
  AcceptsBy Has anything n = Unit {0}
  AcceptsBy Has a_truth n = IsTruth n
  AcceptsBy Has (a_number least greatest) n = IsNumberIn least greatest n
  AcceptsBy Has (a_text form) n = IsTextBy Has form n
  AcceptsBy Has (an_array least f) n = IsArrayOf (AcceptsBy Has f) least n
  AcceptsBy Has (a_table fs) n =
      IsTableOf (λ es. AcceptsFieldsBy Has fs es × HasNoOthers (field_keys fs) es) n
  AcceptsBy Has (a_map names fs f) n =
      IsTableOf (λ es. AcceptsFieldsBy Has fs es
      × MeetOthersBy Has names (AcceptsBy Has f) (field_keys fs) es) n
  AcceptsBy Has (either fs) n = AcceptsSomeBy Has fs n

  -- Each field accepts what the table has at its key, which is there if it has to be.
  pub AcceptsFieldsBy : (Has : Pattern → List ℕ → Type 0) → FieldForms → Entries → Type 0
  AcceptsFieldsBy Has no_fields es = Unit {0}
  AcceptsFieldsBy Has (a_field k is_required f fs) es =
      MeetsAt is_required (AcceptsBy Has f) (get (key_text k) es) × AcceptsFieldsBy Has fs es

  -- One of the forms accepts the node.
  pub AcceptsSomeBy : (Has : Pattern → List ℕ → Type 0) → Forms → Node → Type 0
  AcceptsSomeBy Has no_forms n = ⊥
  AcceptsSomeBy Has (or_form f fs) n = AcceptsBy Has f n ⊎ AcceptsSomeBy Has fs n

-- ---- forms with each key once

-- the fields have different keys
abbrev pub keys_differ : FieldForms → Bool
keys_differ no_fields = true
keys_differ (a_field k is_required f fs) =
    not (is_one_of (map key_text (field_keys fs)) (key_text k)) && keys_differ fs

abbrev mutual
  -- In each table of the form the keys of the fields differ.
  pub has_each_key_once : Form → Bool
  has_each_key_once (an_array least f) = has_each_key_once f
  has_each_key_once (a_table fs) = keys_differ fs && fields_have_each_key_once fs
  has_each_key_once (a_map names fs f) =
      keys_differ fs && (fields_have_each_key_once fs && has_each_key_once f)
  has_each_key_once (either fs) = forms_have_each_key_once fs
  has_each_key_once _ = true

  -- So it is in each of the fields.
  pub fields_have_each_key_once : FieldForms → Bool
  fields_have_each_key_once no_fields = true
  fields_have_each_key_once (a_field k is_required f fs) =
      has_each_key_once f && fields_have_each_key_once fs

  -- So it is in each of the forms.
  pub forms_have_each_key_once : Forms → Bool
  forms_have_each_key_once no_forms = true
  forms_have_each_key_once (or_form f fs) = has_each_key_once f && forms_have_each_key_once fs
