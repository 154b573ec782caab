-- What the tokens of a text begin with.
use Rattle.std.specs.Prelude.{◌≡◌, ℕ, ◌<◌, List, length, Some}
use Rattle.json.specs.Json.{members, value}
use Rattle.json.specs.Token.{Token}
use Rattle.serde_json.specs.Data.{Data, object, Members, no_members}
use Rattle.serde_json.specs.Read.{of_json, of_members, converted}

-- Tokens begin with a value, in which arrays and objects nest at most so deep, and these follow.
abbrev pub IsValueIn : ℕ → List Token → List Token → Data → Type 0
IsValueIn depth tokens rest found = converted of_json (value depth tokens) ≡ Some (found, rest)

-- Tokens begin with the members of an object and its end. Of members with one key the last counts.
abbrev pub AreMembersIn : ℕ → List Token → List Token → Members → Type 0
AreMembersIn depth tokens rest found =
    converted (λ ms. of_members ms no_members) (members (value depth) (length tokens) tokens)
    ≡ Some (found, rest)

-- An object opens: it has the members that follow, whose values nest at most `within` deep.
pub record OpensObject (depth within : ℕ) (tokens rest : List Token) : Type 0 where
  pub shorter : length rest < length tokens
  pub is : (found : Members) (left : List Token) → AreMembersIn within rest left found
      → IsValueIn depth tokens left (object found)
