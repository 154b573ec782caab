-- What a form accepts where its patterns mean what the readers mean, or more, or less.
use Rattle.std.proofs.Common.{◌-◌, ℕ, Bool, List, Option, Some, None, inl, inr}
use Rattle.nextest_tree.specs.Key.{key_text}
use Rattle.nextest_tree.specs.Node.{Node, table, array, text, Nodes, no_nodes, node, Entries, get}
use Rattle.nextest_shape.specs.declared.shape.Pattern.{Pattern}
use Rattle.nextest_shape.specs.Accepts.{HasPattern, AcceptsText, Accepts, AcceptsFields, AcceptsSome, AreItems, MeetsAt}
use Rattle.nextest_shape.specs.Form.{TextForm, any_text, one_of, of_pattern, Form, anything, a_truth, a_number, a_text, an_array, a_table, a_map, either, FieldForms, no_fields, a_field, Forms, no_forms, or_form}
use Rattle.rinqebo_laws.specs.Matching.{AcceptsTextBy, AcceptsBy, AcceptsFieldsBy, AcceptsSomeBy}

items_then : (P Q : Node → Type 0) → ((v : Node) → P v → Q v) → (least : ℕ) (ns : Nodes) → AreItems P least ns
    → AreItems Q least ns
items_then P Q then least no_nodes h = h
items_then P Q then least (node n ns) h = (then n h.0, items_then P Q then (least - 1) ns h.1)

at_then : (P Q : Node → Type 0) → ((v : Node) → P v → Q v) → (r : Bool) (o : Option Node) → MeetsAt r P o
    → MeetsAt r Q o
at_then P Q then r None h = h
at_then P Q then r (Some n) h = then n h

-- ---- from patterns that say no less than the readers

text_from : (Has : Pattern → List ℕ → Type 0) → ((p : Pattern) (s : List ℕ) → Has p s → HasPattern p s)
    → (form : TextForm) (s : List ℕ) → AcceptsTextBy Has form s → AcceptsText form s
text_from Has less any_text s h = h
text_from Has less (one_of words) s h = h
text_from Has less (of_pattern p) s h = less p s h

mutual
  pub accepts_from : (Has : Pattern → List ℕ → Type 0) → ((p : Pattern) (s : List ℕ) → Has p s → HasPattern p s)
      → (f : Form) (v : Node) → AcceptsBy Has f v → Accepts f v
  accepts_from Has less anything v h = tt
  accepts_from Has less a_truth v h = h
  accepts_from Has less (a_number least greatest) v h = h
  accepts_from Has less (a_text form) (text s) h = text_from Has less form s h
  accepts_from Has less (a_text form) _ h = absurd h
  accepts_from Has less (an_array least f) (array ns) h =
      items_then (AcceptsBy Has f) (Accepts f) (accepts_from Has less f) least ns h
  accepts_from Has less (an_array least f) _ h = absurd h
  accepts_from Has less (a_table fs) (table es) h = (fields_from Has less fs es h.0, h.1)
  accepts_from Has less (a_table fs) _ h = absurd h
  accepts_from Has less (a_map names fs f) (table es) h = (
    fields_from Has less fs es h.0,
    λ name v there. let met = h.1 name v there in
        (text_from Has less names name met.0, λ no. accepts_from Has less f v (met.1 no)),
  )
  accepts_from Has less (a_map names fs f) _ h = absurd h
  accepts_from Has less (either fs) v h = some_from Has less fs v h

  fields_from : (Has : Pattern → List ℕ → Type 0) → ((p : Pattern) (s : List ℕ) → Has p s → HasPattern p s)
      → (fs : FieldForms) (es : Entries) → AcceptsFieldsBy Has fs es → AcceptsFields fs es
  fields_from Has less no_fields es h = tt
  fields_from Has less (a_field k r f fs) es h = (
    at_then (AcceptsBy Has f) (Accepts f) (accepts_from Has less f) r (get (key_text k) es) h.0,
    fields_from Has less fs es h.1,
  )

  some_from : (Has : Pattern → List ℕ → Type 0) → ((p : Pattern) (s : List ℕ) → Has p s → HasPattern p s)
      → (fs : Forms) (v : Node) → AcceptsSomeBy Has fs v → AcceptsSome fs v
  some_from Has less no_forms v h = h
  some_from Has less (or_form f fs) v (inl h) = inl (accepts_from Has less f v h)
  some_from Has less (or_form f fs) v (inr h) = inr (some_from Has less fs v h)

-- ---- to patterns that say no more than the readers

text_to : (Has : Pattern → List ℕ → Type 0) → ((p : Pattern) (s : List ℕ) → HasPattern p s → Has p s)
    → (form : TextForm) (s : List ℕ) → AcceptsText form s → AcceptsTextBy Has form s
text_to Has more any_text s h = h
text_to Has more (one_of words) s h = h
text_to Has more (of_pattern p) s h = more p s h

mutual
  pub accepts_to : (Has : Pattern → List ℕ → Type 0) → ((p : Pattern) (s : List ℕ) → HasPattern p s → Has p s)
      → (f : Form) (v : Node) → Accepts f v → AcceptsBy Has f v
  accepts_to Has more anything v h = tt
  accepts_to Has more a_truth v h = h
  accepts_to Has more (a_number least greatest) v h = h
  accepts_to Has more (a_text form) (text s) h = text_to Has more form s h
  accepts_to Has more (a_text form) _ h = absurd h
  accepts_to Has more (an_array least f) (array ns) h =
      items_then (Accepts f) (AcceptsBy Has f) (accepts_to Has more f) least ns h
  accepts_to Has more (an_array least f) _ h = absurd h
  accepts_to Has more (a_table fs) (table es) h = (fields_to Has more fs es h.0, h.1)
  accepts_to Has more (a_table fs) _ h = absurd h
  accepts_to Has more (a_map names fs f) (table es) h = (
    fields_to Has more fs es h.0,
    λ name v there. let met = h.1 name v there in
        (text_to Has more names name met.0, λ no. accepts_to Has more f v (met.1 no)),
  )
  accepts_to Has more (a_map names fs f) _ h = absurd h
  accepts_to Has more (either fs) v h = some_to Has more fs v h

  fields_to : (Has : Pattern → List ℕ → Type 0) → ((p : Pattern) (s : List ℕ) → HasPattern p s → Has p s)
      → (fs : FieldForms) (es : Entries) → AcceptsFields fs es → AcceptsFieldsBy Has fs es
  fields_to Has more no_fields es h = tt
  fields_to Has more (a_field k r f fs) es h = (
    at_then (Accepts f) (AcceptsBy Has f) (accepts_to Has more f) r (get (key_text k) es) h.0,
    fields_to Has more fs es h.1,
  )

  some_to : (Has : Pattern → List ℕ → Type 0) → ((p : Pattern) (s : List ℕ) → HasPattern p s → Has p s)
      → (fs : Forms) (v : Node) → AcceptsSome fs v → AcceptsSomeBy Has fs v
  some_to Has more no_forms v h = h
  some_to Has more (or_form f fs) v (inl h) = inl (accepts_to Has more f v h)
  some_to Has more (or_form f fs) v (inr h) = inr (some_to Has more fs v h)
