-- How many threads a test takes up.
use Rattle.std.specs.Prelude.{ℕ, List, [], ◌∷◌, Result, Ok, Err, codes}
use Rattle.std.specs.Fmt.{decimal}
use Rattle.nextest_elements.specs.declared.threads_required.ThreadsRequired.{ThreadsRequired}
use Rattle.nextest_elements.specs.declared.threads_required.ThreadsRequired.TheVariants as required
use Rattle.nextest_tree.specs.Node.{Node, int}
use Rattle.nextest_tree.specs.Schema.{FaultCause, Schema}
use Rattle.nextest_tree.specs.Leaf.{value, name_at}
use Rattle.nextest_elements.specs.Positive.{positive_at}
use Rattle.nextest_tree.specs.Spelling.{spellings}

-- how many threads a test takes up, as it is written
abbrev pub threads_required_text : ThreadsRequired → List ℕ
threads_required_text (required.Count n) = decimal n
threads_required_text required.NumCpus = codes "num-cpus"
threads_required_text required.NumTestThreads = codes "num-test-threads"

-- the names that mean a number of threads
unfoldable pub threads_required_names : List (List ℕ × ThreadsRequired)
threads_required_names =
    spellings threads_required_text (required.NumCpus ∷ required.NumTestThreads ∷ [])

-- what a refusal says was expected
unfoldable pub threads_required_expected : List ℕ
threads_required_expected = codes "a positive number, `num-cpus`, `num-test-threads`"

-- so many threads, if they are a number
abbrev pub count_required : Result ℕ FaultCause → Result ThreadsRequired FaultCause
count_required (Ok n) = Ok (required.Count n)
count_required (Err c) = Err c

-- how many threads a test takes up, as a node spells it
abbrev pub threads_required_at : Node → Result ThreadsRequired FaultCause
threads_required_at (int z) = count_required (positive_at (int z))
threads_required_at n = name_at threads_required_names threads_required_expected n

-- a positive number, or one of the names
unfoldable pub a_threads_required : Schema
a_threads_required = value threads_required_at

-- how many threads a test takes up where there are c processors and t test threads
abbrev pub required_thread_count : ThreadsRequired → ℕ → ℕ → ℕ
required_thread_count (required.Count n) c t = n
required_thread_count required.NumCpus c t = c
required_thread_count required.NumTestThreads c t = t
