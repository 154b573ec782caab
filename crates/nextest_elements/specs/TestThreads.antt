-- How many tests run at a time.
use Rattle.std.specs.Prelude.{ℕ, pos, negsuc, zero, suc, List, [], ◌∷◌, ◌+◌, ◌-◌, max, Result, Ok, Err, codes}
use Rattle.nextest_elements.specs.declared.test_threads.TestThreads.{TestThreads}
use Rattle.nextest_elements.specs.declared.test_threads.TestThreads.TheVariants as threads
use Rattle.nextest_tree.specs.Node.{Node, int}
use Rattle.nextest_tree.specs.Schema.{FaultCause, out_of_range, Schema}
use Rattle.nextest_tree.specs.Leaf.{value, name_at}

-- its one name
unfoldable pub test_threads_names : List (List ℕ × TestThreads)
test_threads_names = (codes "num-cpus", threads.NumCpus) ∷ []

-- what a refusal says was expected
unfoldable pub test_threads_expected : List ℕ
test_threads_expected = codes "a nonzero number, `num-cpus`"

-- how many tests run at a time, as a node spells it: zero is out of range
abbrev pub test_threads_at : Node → Result TestThreads FaultCause
test_threads_at (int (pos zero)) = Err out_of_range
test_threads_at (int z) = Ok (threads.Count z)
test_threads_at n = name_at test_threads_names test_threads_expected n

-- a number but zero, or the one name
unfoldable pub a_test_threads : Schema
a_test_threads = value test_threads_at

-- how many tests run at a time where there are c processors: for -n it is n fewer than c, and at
-- least 1
abbrev pub test_thread_count : TestThreads → ℕ → ℕ
test_thread_count (threads.Count (pos zero)) c = max 1 c
test_thread_count (threads.Count (pos (suc n))) c = suc n
test_thread_count (threads.Count (negsuc n)) c = max 1 (c - (n + 1))
test_thread_count threads.NumCpus c = c
