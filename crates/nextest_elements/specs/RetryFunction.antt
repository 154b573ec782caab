-- The policy of a table as a function, by the fields as they are written: a law says that it gives
-- what the relation gives.
use Rattle.std.specs.Prelude.{ℕ, Bool, false, IsTrue, Option, Some, None, IsSome, option_map, option_and_then, unwrap_or, if◌then◌else◌}
use Rattle.nextest_tree.specs.declared.key.Key.TheVariants.{Backoff as backoff_key, Count as count_key, Delay, Jitter, MaxDelay}
use Rattle.nextest_elements.specs.declared.retry_policy.RetryTable.{RetryTable}
use Rattle.nextest_elements.specs.declared.retry_policy.RetryPolicy.{RetryPolicy}
use Rattle.nextest_elements.specs.declared.retry_policy.RetryPolicy.TheVariants as policies
use Rattle.nextest_tree.specs.Key.{key_text}
use Rattle.nextest_tree.specs.Node.{Entries, get}
use Rattle.nextest_tree.specs.Leaf.{Spells, bool_at, leaf_at}
use Rattle.nextest_tree.specs.Reads.{IsOptional, IsRequired}
use Rattle.nextest_elements.specs.Nanoseconds.{duration_at}
use Rattle.nextest_elements.specs.RetryPolicy.{count_at, backoff_at, is_exponential, is_below}

-- The table has these fields; a delay is among them where delays grow.
pub record HasRetryFields (es : Entries) (t : RetryTable) : Type 0 where
  pub backoff : IsRequired (Spells backoff_at) (get (key_text backoff_key) es) t.backoff
  pub count : IsRequired (Spells count_at) (get (key_text count_key) es) t.count
  pub delay : IsOptional (Spells duration_at) (get (key_text Delay) es) t.delay
  pub delay_there : IsTrue (is_exponential t.backoff) → IsSome t.delay
  pub jitter : IsOptional (Spells bool_at) (get (key_text Jitter) es) t.jitter
  pub max_delay : IsOptional (Spells duration_at) (get (key_text MaxDelay) es) t.max_delay

-- what the fields of a table say, where those are there that must be
abbrev pub retry_table : Entries → Option RetryTable
retry_table es = option_and_then (λ backoff. option_map (λ count. record {
  backoff = backoff;
  count = count;
  delay = leaf_at duration_at (get (key_text Delay) es);
  jitter = leaf_at bool_at (get (key_text Jitter) es);
  max_delay = leaf_at duration_at (get (key_text MaxDelay) es);
}) (leaf_at count_at (get (key_text count_key) es)))
    (leaf_at backoff_at (get (key_text backoff_key) es))

-- the policy, unless delays grow and the delay is not there or `max-delay` is below it
abbrev pub policy_of : RetryTable → Option RetryPolicy
policy_of t = if is_exponential t.backoff then option_and_then growing t.delay else Some steady
  where
    jitter : Bool
    jitter = unwrap_or t.jitter false

    steady : RetryPolicy
    steady = policies.Fixed t.count (unwrap_or t.delay 0) jitter

    growing : ℕ → Option RetryPolicy
    growing delay =
        if is_below t.max_delay (Some delay) then None
        else Some (policies.Exponential t.count delay jitter t.max_delay)
