-- What a leaf spells, or why it is refused: one function for each kind of leaf.
use Rattle.std.specs.Prelude.{◌≡◌, ℕ, List, map, Bool, Option, Some, None, Result, Ok, Err, ok_or, unwrap_or, String, string_bytes}
use denote.Ref.{Bor}
use Rattle.std.specs.declared.alloc.Global.{Global}
use Rattle.std.specs.Result.{result_ok}
use Rattle.std.specs.Map.{lookup}
use Rattle.std.specs.Str.{bytes_eq}
use Rattle.nextest_tree.specs.Node.{Node, text, bool}
use Rattle.nextest_tree.specs.Schema.{FaultCause, wrong_kind, bad_value, Schema, leaf}

-- a leaf is refused with the cause that its function gives
abbrev pub cause_of : {X : Type 0} → Result X FaultCause → Option FaultCause
cause_of (Ok x) = None
cause_of (Err c) = Some c

-- the schema of a leaf
abbrev pub value : {X : Type 0} → (Node → Result X FaultCause) → Schema
value read = leaf (λ n. cause_of (read n))

-- the node spells the value
abbrev pub Spells : {X : Type 0} → (Node → Result X FaultCause) → Node → X → Type 0
Spells read n x = read n ≡ Ok x

-- the value of a field that may be absent
abbrev pub leaf_at : {X : Type 0} → (Node → Result X FaultCause) → Option Node → Option X
leaf_at read None = None
leaf_at read (Some n) = result_ok (read n)

-- the value of a field, and the given one where the field is absent
abbrev pub leaf_or : {X : Type 0} → X → (Node → Result X FaultCause) → Option Node → X
leaf_or d read o = unwrap_or (leaf_at read o) d

-- the text that a node is
abbrev pub text_at : Node → Result (List ℕ) FaultCause
text_at (text s) = Ok s
text_at _ = Err wrong_kind

-- a text
unfoldable pub a_text : Schema
a_text = value text_at

-- the node is this text
abbrev pub IsText : Node → String Global → Type 0
IsText n s = text_at n ≡ Ok (string_bytes s)

-- the truth value that a node is
abbrev pub bool_at : Node → Result Bool FaultCause
bool_at (bool b) = Ok b
bool_at _ = Err wrong_kind

-- a truth value
unfoldable pub a_bool : Schema
a_bool = value bool_at

-- the names of a slice and what they mean, as plain lists
abbrev pub name_pairs : {X : Type 0} → List (Bor (List ℕ) × X) → List (List ℕ × X)
name_pairs names = map (λ p. (p.0.now, p.1)) names

-- what one of these names means; a refusal says what was expected
abbrev pub name_at : {X : Type 0} → List (List ℕ × X) → List ℕ → Node → Result X FaultCause
name_at names expected (text s) = ok_or (lookup (bytes_eq s) names) (bad_value s expected)
name_at names expected _ = Err wrong_kind

-- a map whose keys are any texts refuses none
abbrev pub any_key : List ℕ → Option FaultCause
any_key k = None
