-- The form that every file without fault has over the defaults.
use Rattle.std.proofs.Common.{◌≡◌, ℕ, List, [], ◌∷◌, Bool, Option, Some, None, refl, rules}
use Rattle.std.specs.List.{AllByRecursion}
use Rattle.std.specs.Option.{IsSomeAnd}
use Rattle.nextest_tree.specs.declared.key.Key.{Key}
use Rattle.nextest_tree.specs.declared.key.Key.TheVariants as keys
use Rattle.nextest_tree.specs.Key.{key_text}
use Rattle.nextest_tree.specs.Leaf.{any_key}
use Rattle.nextest_tree.specs.Node.{Node, table, array, text, int, bool, opaque, Entries, no_entries, entry, get}
use Rattle.nextest_tree.specs.Schema.{Schema, field_faults, faults, map_of}
use Rattle.nextest_documents.specs.Merge.{over}
use Rattle.nextest_elements.specs.Bench.{bench}
use Rattle.nextest_elements.specs.Junit.{a_junit}
use Rattle.nextest_tables.specs.Complete.{IsReadable, IsMergedTree}
use Rattle.nextest_tables.specs.Defaults.{row, store_default, bench_default, junit_default, slow_default, profile_default, profiles_default, defaults}
use Rattle.nextest_tables.specs.Tables.{profile_fields, a_profile, file_fields, a_file}
use Rattle.nextest_tables.specs.Written.{default_name}
use Rattle.nextest_tables.proofs.Free.{struct_free, entry_free}
use Rattle.nextest_tables.proofs.Kept.{Keeps, Follows, over_follows, merged_keeps}

-- something at a key
abbrev pub there : Key → Entries → Entries
there k es = row k opaque es

-- the report of a profile has all but its path
abbrev pub junit_form : Node
junit_form =
    table (there keys.ReportName
    (there keys.StoreSuccessOutput
    (there keys.StoreFailureOutput
    (there keys.ReportSkipped
    (there keys.FlakyFailStatus
    no_entries)))))

-- the benchmarks of a profile have both timeouts
abbrev pub bench_form : Node
bench_form = table (there keys.SlowTimeout (there keys.GlobalTimeout no_entries))

-- the profile `default` has a report, benchmarks, and all its other fields
abbrev pub profile_form : Node
profile_form =
    table (row keys.Junit junit_form
    (row keys.Bench bench_form
    (there keys.Retries
    (there keys.FlakyResult
    (there keys.TestThreads
    (there keys.ThreadsRequired
    (there keys.RunExtraArgs
    (there keys.StatusLevel
    (there keys.FinalStatusLevel
    (there keys.FailureOutput
    (there keys.SuccessOutput
    (there keys.FailFast
    (there keys.SlowTimeout
    (there keys.GlobalTimeout
    (there keys.LeakTimeout
    no_entries)))))))))))))))

-- the profiles have `default`
abbrev pub profiles_form : Node
profiles_form = table (entry default_name profile_form no_entries)

-- a file has its profiles
abbrev pub file_form : Node
file_form = table (row keys.Profile profiles_form no_entries)

-- a field that is there and has no fault
kept_field : (k : Key) (must : Bool) (s : Schema) (form : Node) (p : List ℕ) (o : Option Node)
    → ((q : List ℕ) (n : Node) → faults s q n ≡ [] → Follows form n → Keeps form n)
    → field_faults k must (faults s) p o ≡ [] → IsSomeAnd o (Follows form) → IsSomeAnd o (Keeps form)
unfolding field_faults
kept_field k must s form p (Some n) each h g = each _ n h g
kept_field k must s form p None each h g = absurd g

kept_junit : (q : List ℕ) (n : Node) → faults a_junit q n ≡ [] → Follows junit_form n → Keeps junit_form n
unfolding a_junit
kept_junit q (table es) h g = g
kept_junit q (array ns) h g = cc
kept_junit q (text t) h g = cc
kept_junit q (int z) h g = cc
kept_junit q (bool b) h g = cc
kept_junit q opaque h g = cc

kept_bench : (q : List ℕ) (n : Node) → faults bench q n ≡ [] → Follows bench_form n → Keeps bench_form n
kept_bench q (table es) h g = g
kept_bench q (array ns) h g = cc
kept_bench q (text t) h g = cc
kept_bench q (int z) h g = cc
kept_bench q (bool b) h g = cc
kept_bench q opaque h g = cc

kept_profile : (q : List ℕ) (n : Node) → faults a_profile q n ≡ [] → Follows profile_form n → Keeps profile_form n
unfolding a_profile profile_fields
kept_profile q (table es) h g =
    let free = struct_free profile_fields q es h in
    let rest = free.1.1.1.1.1.1.1.1.1.1.1.1.1.1.1.1 in
    let junit = kept_field keys.Junit _ a_junit junit_form q (get (key_text keys.Junit) es) kept_junit rest.0 g.0 in
    let bench = kept_field keys.Bench _ bench bench_form q (get (key_text keys.Bench) es) kept_bench rest.1.1.0 g.1.0 in
    (junit, (bench, g.1.1))
kept_profile q (array ns) h g = cc
kept_profile q (text t) h g = cc
kept_profile q (int z) h g = cc
kept_profile q (bool b) h g = cc
kept_profile q opaque h g = cc

kept_entry : (q : List ℕ) (es : Entries) (o : Option Node) → get default_name es ≡ o
    → faults (map_of any_key a_profile) q (table es) ≡ [] → IsSomeAnd o (Follows profile_form)
    → IsSomeAnd o (Keeps profile_form)
kept_entry q es (Some n) e h g = let free = entry_free any_key a_profile q default_name es n h e in
    kept_profile free.0 n free.1 g
kept_entry q es None e h g = absurd g

kept_profiles : (q : List ℕ) (n : Node) → faults (map_of any_key a_profile) q n ≡ [] → Follows profiles_form n
    → Keeps profiles_form n
kept_profiles q (table es) h g = (kept_entry q es (get default_name es) refl h g.0, tt)
kept_profiles q (array ns) h g = cc
kept_profiles q (text t) h g = cc
kept_profiles q (int z) h g = cc
kept_profiles q (bool b) h g = cc
kept_profiles q opaque h g = cc

kept_file : (n : Node) → faults a_file [] n ≡ [] → Follows file_form n → Keeps file_form n
unfolding a_file
kept_file (table es) h g =
    let free = struct_free file_fields [] es h in (
      kept_field keys.Profile _ (map_of any_key a_profile) profiles_form [] (get (key_text keys.Profile) es)
          kept_profiles free.1.1.1.1.1.1.0 g.0,
      tt,
    )
kept_file (array ns) h g = cc
kept_file (text t) h g = cc
kept_file (int z) h g = cc
kept_file (bool b) h g = cc
kept_file opaque h g = cc

-- the defaults have this form
defaults_keep : Keeps file_form defaults
unfolding key_text store_default bench_default junit_default slow_default profile_default profiles_default defaults
defaults_keep = search rules

own_keeps : (files : List Node) → AllByRecursion IsReadable files
    → AllByRecursion (λ n. Keeps file_form (over n defaults)) files
own_keeps [] h = tt
own_keeps (n ∷ files) h =
    (kept_file (over n defaults) h.0 (over_follows file_form n defaults defaults_keep), own_keeps files h.1)

-- and so has every tree that files make over them
pub merged_form : (files : List Node) (n : Node) → IsMergedTree files n → Keeps file_form n
merged_form files n h = rw h.1
    (merged_keeps file_form defaults defaults files defaults_keep (own_keeps files h.0) defaults_keep)
