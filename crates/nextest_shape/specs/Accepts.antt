-- Which nodes of a tree a form accepts.
use Rattle.std.specs.Prelude.{◌≡◌, ◌⊎◌, ℕ, ◌-◌, ℤ, int_lt, Bool, IsTrue, IsFalse, is_some, List, [], map, Option, Some, None, ◌||◌}
use Rattle.std.specs.Str.{bytes_eq, chars}
use Rattle.nextest_tree.specs.declared.key.Key.{Key}
use Rattle.nextest_tree.specs.Key.{key_text}
use Rattle.nextest_tree.specs.Node.{Node, table, array, text, int, bool, Nodes, no_nodes, node, Entries, get}
use Rattle.nextest_tree.specs.Schema.{is_one_of, others}
use Rattle.nextest_elements.specs.DurationFunction.{duration_of}
use Rattle.nextest_elements.specs.Identifier.{is_identifier}
use Rattle.nextest_elements.specs.TestGroup.{global_text}
use Rattle.nextest_scripts.specs.CommandLine.{words_cause}
use Rattle.nextest_scripts.specs.EnvKey.{is_env_var_key}
use Rattle.nextest_scripts.specs.ShellReading.{words_in}
use Rattle.nextest_shape.specs.declared.shape.Pattern.{Pattern}
use Rattle.nextest_shape.specs.declared.shape.Pattern.TheVariants as patterns
use Rattle.nextest_shape.specs.Form.{TextForm, any_text, one_of, of_pattern, Form, anything, a_truth, a_number, a_text, an_array, a_table, a_map, either, FieldForms, no_fields, a_field, Forms, no_forms, or_form, field_keys}

-- The text is of the pattern: a duration of any length, an identifier, a group, a line that splits
-- into a word or more, or the key of an environment variable.
abbrev pub HasPattern : Pattern → List ℕ → Type 0
HasPattern patterns.Duration s = IsTrue (is_some (duration_of s))
HasPattern patterns.Identifier s = IsTrue (is_identifier s)
HasPattern patterns.TestGroup s = IsTrue (bytes_eq s global_text || is_identifier s)
HasPattern patterns.CommandLine s = words_cause s (words_in (chars s)) ≡ None
HasPattern patterns.EnvironmentKey s = IsTrue (is_env_var_key s)

-- The text may be where these texts may.
abbrev pub AcceptsText : TextForm → List ℕ → Type 0
AcceptsText any_text s = Unit {0}
AcceptsText (one_of words) s = IsTrue (is_one_of words s)
AcceptsText (of_pattern pattern) s = HasPattern pattern s

-- The number is not below the least one, if there is one.
abbrev pub IsFrom : Option ℤ → ℤ → Type 0
IsFrom None z = Unit {0}
IsFrom (Some least) z = IsFalse (int_lt z least)

-- The number is not above the greatest one, if there is one.
abbrev pub IsUpTo : Option ℤ → ℤ → Type 0
IsUpTo None z = Unit {0}
IsUpTo (Some greatest) z = IsFalse (int_lt greatest z)

-- The node is a truth value.
abbrev pub IsTruth : Node → Type 0
IsTruth (bool b) = Unit {0}
IsTruth _ = ⊥

-- The node is a number between the two.
abbrev pub IsNumberIn : (least greatest : Option ℤ) → Node → Type 0
IsNumberIn least greatest (int z) = IsFrom least z × IsUpTo greatest z
IsNumberIn least greatest _ = ⊥

-- The node is a text that may be there.
abbrev pub IsTextIn : TextForm → Node → Type 0
IsTextIn form (text s) = AcceptsText form s
IsTextIn form _ = ⊥

-- There are at least so many items, and each meets the condition.
abbrev pub AreItems : (Node → Type 0) → ℕ → Nodes → Type 0
AreItems P least no_nodes = least ≡ 0
AreItems P least (node n ns) = P n × AreItems P (least - 1) ns

-- The node is an array of at least so many items, each of which meets the condition.
abbrev pub IsArrayOf : (Node → Type 0) → ℕ → Node → Type 0
IsArrayOf P least (array ns) = AreItems P least ns
IsArrayOf P least _ = ⊥

-- The node is a table whose entries meet the condition.
abbrev pub IsTableOf : (Entries → Type 0) → Node → Type 0
IsTableOf P (table es) = P es
IsTableOf P _ = ⊥

-- What is at a key meets the condition, and something is there if it has to be.
abbrev pub MeetsAt : (is_required : Bool) → (Node → Type 0) → Option Node → Type 0
MeetsAt is_required P None = IsFalse is_required
MeetsAt is_required P (Some n) = P n

-- The table has no key but these.
abbrev pub HasNoOthers : List Key → Entries → Type 0
HasNoOthers known es = others known es ≡ []

-- Each name that is none of the keys may be there, and what is at it meets the condition.
abbrev pub MeetOthers : TextForm → (Node → Type 0) → List Key → Entries → Type 0
MeetOthers names P known es = (name : List ℕ) → (n : Node) → get name es ≡ Some n
    → AcceptsText names name × (IsFalse (is_one_of (map key_text known) name) → P n)

abbrev mutual
  -- The form accepts the node.
  pub Accepts : Form → Node → Type 0
  Accepts anything n = Unit {0}
  Accepts a_truth n = IsTruth n
  Accepts (a_number least greatest) n = IsNumberIn least greatest n
  Accepts (a_text form) n = IsTextIn form n
  Accepts (an_array least f) n = IsArrayOf (Accepts f) least n
  Accepts (a_table fs) n = IsTableOf (λ es. AcceptsFields fs es × HasNoOthers (field_keys fs) es) n
  Accepts (a_map names fs f) n =
      IsTableOf (λ es. AcceptsFields fs es × MeetOthers names (Accepts f) (field_keys fs) es) n
  Accepts (either fs) n = AcceptsSome fs n

  -- Each field accepts what the table has at its key, which is there if it has to be.
  pub AcceptsFields : FieldForms → Entries → Type 0
  AcceptsFields no_fields es = Unit {0}
  AcceptsFields (a_field k is_required f fs) es =
      MeetsAt is_required (Accepts f) (get (key_text k) es) × AcceptsFields fs es

  -- One of the forms accepts the node.
  pub AcceptsSome : Forms → Node → Type 0
  AcceptsSome no_forms n = ⊥
  AcceptsSome (or_form f fs) n = Accepts f n ⊎ AcceptsSome fs n
