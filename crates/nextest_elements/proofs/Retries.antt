-- The policy that a table says, as a function of its fields.
use Rattle.std.proofs.Common.{◌≡◌, ℕ, Bool, true, false, Option, Some, None, option_and_then, unwrap_or, if◌then◌else◌, refl, sym}
use Rattle.nextest_elements.specs.declared.retry_policy.Backoff.TheVariants as backoffs
use Rattle.nextest_elements.specs.declared.retry_policy.RetryPolicy.{RetryPolicy}
use Rattle.nextest_elements.specs.declared.retry_policy.RetryPolicy.TheVariants as policies
use Rattle.nextest_tree.specs.declared.key.Key.TheVariants.{Backoff as backoff_key, Count as count_key, Delay, Jitter, MaxDelay}
use Rattle.nextest_tree.specs.Key.{key_text}
use Rattle.nextest_tree.specs.Leaf.{bool_at, leaf_at}
use Rattle.nextest_tree.specs.Node.{Node, Entries, get}
use Rattle.nextest_tree.specs.Reads.{IsDefaulted}
use Rattle.nextest_tree.specs.Schema.{FaultCause}
use Rattle.nextest_tree.proofs.Reading.{leaf_read}
use Rattle.nextest_elements.specs.Nanoseconds.{duration_at}
use Rattle.std.proofs.Common.{Result, Ok}
use Rattle.nextest_elements.specs.RetryPolicy.{backoff_at, count_at, is_below, IsFixedRetry, IsExponentialRetry, IsRetryTable}
use Rattle.nextest_elements.specs.RetryFunction.{retry_table, policy_of}

-- what is read at a key, or what means it
pub leaf_defaulted : {X : Type 0} (read : Node → Result X FaultCause) (d : X) (o : Option Node) (x : X)
    → IsDefaulted d (λ n x. read n ≡ Ok x) o x → unwrap_or (leaf_at read o) d ≡ x
leaf_defaulted read d None x h = sym h
leaf_defaulted read d (Some n) x h = rw h refl

unless_below : (below : Bool) (p : RetryPolicy) → below ≡ false → (if below then None else Some p) ≡ Some p
unless_below true p h = cc
unless_below false p h = refl

fixed : (es : Entries) (count delay : ℕ) (jitter : Bool) → IsFixedRetry es count delay jitter
    → option_and_then policy_of (retry_table es) ≡ Some (policies.Fixed count delay jitter)
fixed es count delay jitter h =
    rw (
      leaf_read backoff_at (get (key_text backoff_key) es) (Some backoffs.Fixed) h.says_backoff,
      leaf_read count_at (get (key_text count_key) es) (Some count) h.says_count,
      leaf_defaulted duration_at 0 (get (key_text Delay) es) delay h.says_delay,
      leaf_defaulted bool_at false (get (key_text Jitter) es) jitter h.says_jitter,
    ) refl

exponential : (es : Entries) (count delay : ℕ) (jitter : Bool) (max_delay : Option ℕ)
    → IsExponentialRetry es count delay jitter max_delay
    → option_and_then policy_of (retry_table es) ≡ Some (policies.Exponential count delay jitter max_delay)
exponential es count delay jitter max_delay h =
    rw (
      leaf_read backoff_at (get (key_text backoff_key) es) (Some backoffs.Exponential) h.says_backoff,
      leaf_read count_at (get (key_text count_key) es) (Some count) h.says_count,
      leaf_read duration_at (get (key_text Delay) es) (Some delay) h.says_delay,
      leaf_read duration_at (get (key_text MaxDelay) es) max_delay h.says_max_delay,
      leaf_defaulted bool_at false (get (key_text Jitter) es) jitter h.says_jitter,
    ) (unless_below (is_below max_delay (Some delay)) _ h.not_below)

-- The fields of a table give the policy that it says.
pub retry_by_fields : (es : Entries) (p : RetryPolicy) → IsRetryTable es p
    → option_and_then policy_of (retry_table es) ≡ Some p
retry_by_fields es (policies.Fixed count delay jitter) h = fixed es count delay jitter h
retry_by_fields es (policies.Exponential count delay jitter max_delay) h = exponential es count delay jitter max_delay h
