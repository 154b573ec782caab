-- How often a test is tried again.
use Rattle.std.specs.Prelude.{◌≡◌, ℕ, pos, negsuc, List, [], ◌∷◌, Bool, true, false, ◌&&◌, IsFalse, Option, Some, None, Result, Ok, Err, nat_lt, codes, if◌then◌else◌}
use Rattle.nextest_tree.specs.declared.key.Key.TheVariants.{Backoff as backoff_key, Count as count_key, Delay, Jitter, MaxDelay}
use Rattle.nextest_elements.specs.declared.retry_policy.Backoff.{Backoff}
use Rattle.nextest_elements.specs.declared.retry_policy.Backoff.TheVariants as backoffs
use Rattle.nextest_elements.specs.declared.retry_policy.RetryPolicy.{RetryPolicy}
use Rattle.nextest_elements.specs.declared.retry_policy.RetryPolicy.TheVariants as policies
use Rattle.nextest_tree.specs.Key.{key_text}
use Rattle.nextest_tree.specs.Node.{Node, table, int, Entries, get}
use Rattle.nextest_tree.specs.Schema.{FaultCause, wrong_kind, out_of_range, Schema, fields, are_noted, Fields, field, may, must, no_more}
use Rattle.nextest_tree.specs.Leaf.{value, Spells, name_at, bool_at, a_bool, leaf_at}
use Rattle.nextest_tree.specs.Reads.{IsOptional, IsRequired, IsDefaulted}
use Rattle.nextest_elements.specs.Nanoseconds.{duration_at, a_duration}

-- a number of tries, below 2 ^ 32
abbrev pub count_at : Node → Result ℕ FaultCause
count_at (int (pos n)) = if nat_lt n 4294967296 then Ok n else Err out_of_range
count_at (int (negsuc n)) = Err out_of_range
count_at _ = Err wrong_kind

-- a number of tries, as it may be in a tree
unfoldable pub a_count : Schema
a_count = value count_at

-- the names of the ways in which delays grow
unfoldable pub backoff_names : List (List ℕ × Backoff)
backoff_names = (codes "fixed", backoffs.Fixed) ∷ (codes "exponential", backoffs.Exponential) ∷ []

-- what a refusal says was expected
unfoldable pub backoff_expected : List ℕ
backoff_expected = codes "`fixed`, `exponential`"

-- the way in which delays grow, as a node spells it
abbrev pub backoff_at : Node → Result Backoff FaultCause
backoff_at = name_at backoff_names backoff_expected

-- one of the names of the ways in which delays grow
unfoldable pub a_backoff : Schema
a_backoff = value backoff_at

-- whether each delay is longer than the one before
abbrev pub is_exponential : Backoff → Bool
is_exponential backoffs.Fixed = false
is_exponential backoffs.Exponential = true

-- whether delays grow: a backoff is written, and it is exponential
abbrev pub grows : Option Backoff → Bool
grows None = false
grows (Some backoff) = is_exponential backoff

-- whether both are there, and the first is below the second
abbrev pub is_below : Option ℕ → Option ℕ → Bool
is_below (Some most) (Some first) = nat_lt most first
is_below _ _ = false

-- whether a table says that delays grow
abbrev pub grows_in : Entries → Bool
grows_in es = grows (leaf_at backoff_at (get (key_text backoff_key) es))

-- the fields of a table: the delay must be there where delays grow
abbrev pub retry_fields : Fields
retry_fields =
    must backoff_key a_backoff
    (must count_key a_count
    (field Delay grows_in a_duration
    (may Jitter a_bool
    (may MaxDelay a_duration
    no_more))))

-- where delays grow, a `max-delay` that is there and below `delay` is out of range
abbrev pub retry_across : Entries → Option FaultCause
retry_across es =
    let max_delay = leaf_at duration_at (get (key_text MaxDelay) es) in
    let delay = leaf_at duration_at (get (key_text Delay) es) in
    if grows_in es && is_below max_delay delay then Some out_of_range else None

-- a count, or a table
abbrev pub retry : Schema
retry = fields are_noted a_count retry_fields retry_across

-- A table of `fixed` says a count, and may say a delay and a jitter; its `max-delay` has no effect.
pub record IsFixedRetry (es : Entries) (count delay : ℕ) (jitter : Bool) : Type 0 where
  pub says_backoff : IsRequired (Spells backoff_at) (get (key_text backoff_key) es) backoffs.Fixed
  pub says_count : IsRequired (Spells count_at) (get (key_text count_key) es) count
  pub says_delay : IsDefaulted 0 (Spells duration_at) (get (key_text Delay) es) delay
  pub says_jitter : IsDefaulted false (Spells bool_at) (get (key_text Jitter) es) jitter

-- A table of `exponential` says a count and a delay, and may say a jitter and a `max-delay`, which
-- is not below the delay.
pub record IsExponentialRetry (es : Entries) (count delay : ℕ) (jitter : Bool)
    (max_delay : Option ℕ) : Type 0 where
  pub says_backoff :
      IsRequired (Spells backoff_at) (get (key_text backoff_key) es) backoffs.Exponential
  pub says_count : IsRequired (Spells count_at) (get (key_text count_key) es) count
  pub says_delay : IsRequired (Spells duration_at) (get (key_text Delay) es) delay
  pub says_jitter : IsDefaulted false (Spells bool_at) (get (key_text Jitter) es) jitter
  pub says_max_delay : IsOptional (Spells duration_at) (get (key_text MaxDelay) es) max_delay
  pub not_below : IsFalse (is_below max_delay (Some delay))

-- the policy that a table says
abbrev pub IsRetryTable : Entries → RetryPolicy → Type 0
IsRetryTable es (policies.Fixed count delay jitter) = IsFixedRetry es count delay jitter
IsRetryTable es (policies.Exponential count delay jitter max_delay) =
    IsExponentialRetry es count delay jitter max_delay

-- a count means so many tries without delay, and a table what its fields say
abbrev pub IsRetry : Node → RetryPolicy → Type 0
IsRetry (table es) p = IsRetryTable es p
IsRetry n p = (count : ℕ) × (count_at n ≡ Ok count) × (p ≡ policies.Fixed count 0 false)

-- how often a test is tried again
abbrev pub count_of : RetryPolicy → ℕ
count_of (policies.Fixed count delay jitter) = count
count_of (policies.Exponential count delay jitter max_delay) = count
