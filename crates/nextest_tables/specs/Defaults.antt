-- The table of defaults, over which every file is read.
use Rattle.std.specs.Prelude.{ℕ, List, pos, true, false, codes}
use Rattle.nextest_tree.specs.declared.key.Key.{Key}
use Rattle.nextest_tree.specs.declared.key.Key.TheVariants as keys
use Rattle.nextest_tree.specs.Key.{key_text}
use Rattle.nextest_tree.specs.Node.{Node, table, array, text, int, bool, no_nodes, Entries, no_entries, entry, put}
use Rattle.nextest_tables.specs.Written.{default_name}

-- a row of a table: a key, what is there, and the rows after it
abbrev pub row : Key → Node → Entries → Entries
row k n es = entry (key_text k) n es

-- where a run keeps what it stores, by default
unfoldable pub store_default : Node
store_default = table (row keys.Dir (text (codes "target/nextest")) no_entries)

-- the timeouts of benchmarks, by default
unfoldable pub bench_default : Node
bench_default =
    table (row keys.GlobalTimeout (text (codes "30y"))
    (row keys.SlowTimeout (table (row keys.Period (text (codes "30y")) no_entries))
    no_entries))

-- the report, by default
unfoldable pub junit_default : Node
junit_default =
    table (row keys.FlakyFailStatus (text (codes "failure"))
    (row keys.ReportName (text (codes "nextest-run"))
    (row keys.ReportSkipped (text (codes "none"))
    (row keys.StoreFailureOutput (bool true)
    (row keys.StoreSuccessOutput (bool false)
    no_entries)))))

-- when a test counts as slow, by default
unfoldable pub slow_default : Node
slow_default =
    table (row keys.OnTimeout (text (codes "fail"))
    (row keys.Period (text (codes "60s"))
    no_entries))

-- rows, and by default those of how tests are run
abbrev pub with_runs_default : Entries → Entries
with_runs_default es =
    put (key_text keys.RunExtraArgs) (array no_nodes)
    (put (key_text keys.ThreadsRequired) (int (pos 1))
    (put (key_text keys.TestThreads) (text (codes "num-cpus"))
    (put (key_text keys.FlakyResult) (text (codes "pass"))
    (put (key_text keys.Retries) (int (pos 0))
    es))))

-- rows, and by default those of what is shown
abbrev pub with_outputs_default : Entries → Entries
with_outputs_default es =
    put (key_text keys.SuccessOutput) (text (codes "never"))
    (put (key_text keys.FailureOutput) (text (codes "immediate"))
    (put (key_text keys.FinalStatusLevel) (text (codes "flaky"))
    (put (key_text keys.StatusLevel) (text (codes "pass"))
    es)))

-- rows, and by default those of when a run or a test is ended
abbrev pub with_ends_default : Entries → Entries
with_ends_default es =
    put (key_text keys.LeakTimeout) (text (codes "200ms"))
    (put (key_text keys.GlobalTimeout) (text (codes "30y"))
    (put (key_text keys.SlowTimeout) slow_default
    (put (key_text keys.FailFast) (bool true)
    es)))

-- the profile that every configuration has, by default
unfoldable pub profile_default : Node
profile_default =
    table (put (key_text keys.Bench) bench_default
    (put (key_text keys.Junit) junit_default
    (with_ends_default (with_outputs_default (with_runs_default no_entries)))))

-- the name of the other profile that is there by default
abbrev pub miri_name : List ℕ
miri_name = codes "default-miri"

-- the profiles that are there by default, of which the second writes nothing
unfoldable pub profiles_default : Node
profiles_default =
    table (entry default_name profile_default
    (entry miri_name (table no_entries)
    no_entries))

-- the table of defaults
unfoldable pub defaults : Node
defaults =
    table (row keys.Profile profiles_default
    (row keys.Store store_default
    no_entries))
