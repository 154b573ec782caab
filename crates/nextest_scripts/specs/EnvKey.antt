-- Keys of environment variables.
use Rattle.std.specs.Prelude.{◌≡◌, ◌==◌, ◌||◌, ◌&&◌, ℕ, List, [], ◌∷◌, Bool, false, not, codes, nat_eq, IsTrue, IsFalse, ⊤}
use Rattle.std.specs.Char.{is_ascii_alphabetic, is_ascii_alphanumeric}
use Rattle.std.specs.List.{list_all, starts_with}
use Rattle.std.specs.String.{string_bytes}
use Rattle.nextest_scripts.specs.declared.env_key.EnvVarError.{EnvVarError}
use Rattle.nextest_scripts.specs.declared.env_key.EnvVarError.TheVariants.{InvalidKeyStartChar, InvalidKey, ReservedKey, Memory}

-- The key's first byte is an ASCII letter or an underscore.
abbrev pub starts_well : List ℕ → Bool
starts_well [] = false
starts_well (first ∷ _) = is_ascii_alphabetic first || first == 95

-- Each byte of the key is an ASCII letter, a digit or an underscore.
abbrev pub is_plain : List ℕ → Bool
is_plain key = list_all (λ byte. is_ascii_alphanumeric byte || byte == 95) key

-- The key begins with `NEXTEST`.
abbrev pub is_reserved_key : List ℕ → Bool
is_reserved_key key = starts_with nat_eq key (codes "NEXTEST")

-- A key is good if it starts well, is plain and is not reserved.
pub record IsEnvVarKey (key : List ℕ) : Type 0 where
  pub starts : IsTrue (starts_well key)
  pub plain : IsTrue (is_plain key)
  pub free : IsFalse (is_reserved_key key)

-- The same as one test.
abbrev pub is_env_var_key : List ℕ → Bool
is_env_var_key key = starts_well key && is_plain key && not (is_reserved_key key)

-- An error names the key, and the first of the three conditions that fails; a refusal of memory
-- names none.
abbrev pub IsFaultOf : List ℕ → EnvVarError → Type 0
IsFaultOf key (InvalidKeyStartChar named) = (string_bytes named ≡ key) × IsFalse (starts_well key)
IsFaultOf key (InvalidKey named) =
    (string_bytes named ≡ key) × IsTrue (starts_well key) × IsFalse (is_plain key)
IsFaultOf key (ReservedKey named) =
    (string_bytes named ≡ key) × IsTrue (starts_well key) × IsTrue (is_plain key)
    × IsTrue (is_reserved_key key)
IsFaultOf key Memory = ⊤
