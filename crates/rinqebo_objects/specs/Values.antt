-- Values of a profile as JSON, spelled as files spell them.
use Rattle.std.specs.Prelude.{ℕ, Option, None, Some, codes}
use Rattle.nextest_elements.specs.LeakTimeout.{leak_result_text}
use Rattle.nextest_elements.specs.declared.global_timeout.GlobalTimeout.{GlobalTimeout}
use Rattle.nextest_elements.specs.declared.junit.JunitConfig.{JunitConfig}
use Rattle.nextest_elements.specs.declared.leak_timeout.LeakTimeout.{LeakTimeout}
use Rattle.nextest_elements.specs.declared.max_fail.MaxFail.{MaxFail}
use Rattle.nextest_elements.specs.declared.max_fail.MaxFail.TheVariants as limits
use Rattle.nextest_elements.specs.declared.test_threads.TestThreads.{TestThreads}
use Rattle.nextest_elements.specs.declared.test_threads.TestThreads.TheVariants as threads
use Rattle.nextest_scripts.specs.declared.setup_timeout.SetupScriptSlowTimeout.{SetupScriptSlowTimeout}
use Rattle.rinqebo_report.specs.Documents.{count_data, text_data}
use Rattle.rinqebo_report.specs.Durations.{duration_text}
use Rattle.serde_json.specs.Data.{Data, null, number, string, object, no_members, member}
use Rattle.serde_json.specs.Find.{of_integer}

-- something, or null
abbrev pub optional_data : {X : Type 0} → (X → Data) → Option X → Data
optional_data f None = null
optional_data f (Some x) = f x

-- a length of time, in nanoseconds
abbrev pub duration_data : ℕ → Data
duration_data n = string (duration_text n)

-- how many tests run at a time
abbrev pub threads_data : TestThreads → Data
threads_data (threads.Count n) = number (of_integer n)
threads_data threads.NumCpus = string (codes "num-cpus")

-- after how many failures a run ends
abbrev pub max_fail_data : MaxFail → Data
max_fail_data (limits.Count n) = count_data n
max_fail_data limits.All = string (codes "all")

-- how long a whole run may take, by its mode
abbrev pub global_timeout_data : GlobalTimeout → GlobalTimeout → Data
global_timeout_data test benchmark =
    object (member (codes "benchmark") (duration_data benchmark.period)
    (member (codes "test") (duration_data test.period) no_members))

-- the report of a run
abbrev pub report_data : JunitConfig → Data
report_data report =
    object (member (codes "path") (text_data report.path)
    (member (codes "report-name") (text_data report.report_name) no_members))

-- when a setup script counts as slow, and when it is ended
abbrev pub slow_data : SetupScriptSlowTimeout → Data
slow_data slow =
    object (member (codes "grace-period") (duration_data slow.grace_period)
    (member (codes "period") (duration_data slow.period)
    (member (codes "terminate-after") (optional_data count_data slow.terminate_after)
    no_members)))

-- how long what a script started may outlive it
abbrev pub leak_data : LeakTimeout → Data
leak_data leak =
    object (member (codes "period") (duration_data leak.period)
    (member (codes "result") (string (leak_result_text leak.result)) no_members))
