-- What an expression of a document defines, where the worth of values is not looked at.
use Rattle.std.specs.Prelude.{ℕ, zero, suc, Bool, true, false, ◌==◌, ◌&&◌, if◌then◌else◌, List, [], ◌∷◌, ◌++◌, length, drop, slice_index, Option, Some, None, option_and_then, option_map}
use Rattle.toml.specs.Parse.{after_byte, after_element, atom, header_key, key_equals, read_map}
use Rattle.toml_parser.specs.Lexical.{Read, first, left_brace, left_bracket, right_brace, right_bracket, skip_blank}
use Rattle.toml_parser.specs.Strings.{Key, recursion_limit}

infixl 10 ◌>>=◌
abbrev ◌>>=◌ : {A B : Type 0} → Option A → (A → Option B) → Option B
o >>= f = option_and_then f o

-- what follows a string, a number, a truth value, a date or a time
abbrev pub after_atom : List ℕ → Option (List ℕ)
after_atom text = option_map (λ read. read.1) (atom text)

module _ (after : List ℕ → Option (List ℕ)) where
  -- what follows the rest of an array, of at most n elements
  unfoldable pub after_items : ℕ → List ℕ → Option (List ℕ)
  after_items zero text = None
  after_items (suc n) text =
      let start = skip_blank text in
      if first start == right_bracket then Some (drop 1 start)
      else after start >>= (λ rest. after_element right_bracket rest >>= after_items n)

  -- what follows the rest of an inline table, of at most n pairs
  unfoldable pub after_members : ℕ → List ℕ → Option (List ℕ)
  after_members zero text = None
  after_members (suc n) text =
      let start = skip_blank text in
      if first start == right_brace then Some (drop 1 start)
      else key_equals start >>= (λ key. after key.1 >>= (λ rest.
      after_element right_brace rest >>= after_members n))

-- What follows a value, with arrays and inline tables at most this deep. Whether the keys of an
-- inline table go together is not looked at.
unfoldable pub after_value : ℕ → List ℕ → Option (List ℕ)
after_value zero text = after_atom text
after_value (suc depth) text =
    if first text == left_bracket
    then after_items (after_value depth) (length text) (drop 1 text)
    else if first text == left_brace
    then after_members (after_value depth) (length text) (drop 1 text)
    else after_atom text

-- A key at the front of a text, whether a header has it or else a pair, and what follows.
unfoldable pub key_of : List ℕ → Read (Key × Bool)
key_of text =
    if first text == left_bracket && slice_index text 1 == left_bracket
    then header_key (drop 2 text) >>= (λ key.
    option_map (λ rest. ((key.0, true), rest)) (after_byte right_bracket key.1))
    else if first text == left_bracket then read_map (λ key. (key, true)) (header_key (drop 1 text))
    else key_equals text >>= (λ key.
    option_map (λ rest. ((key.0, false), rest)) (after_value recursion_limit key.1))

-- the parts of a key from the root on: those of a pair are under the section
abbrev pub parts_under : List (List ℕ) → Key × Bool → List (List ℕ)
parts_under section key = (if key.1 then [] else section) ++ (key.0.0 ++ key.0.1 ∷ [])

-- the section after an expression
abbrev pub section_after : List (List ℕ) → Key × Bool → List (List ℕ)
section_after section key = if key.1 then key.0.0 ++ key.0.1 ∷ [] else section
