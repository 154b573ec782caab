-- Where the values of a run and its groups come from, as JSON.
use Rattle.std.specs.Prelude.{Option, codes, fold, string_bytes}
use Rattle.rinqebo_objects.specs.declared.origins.BoundOrigins.{BoundOrigins}
use Rattle.rinqebo_objects.specs.declared.origins.GroupOrigins.{GroupOrigins}
use Rattle.rinqebo_objects.specs.declared.origins.NameOrigins.{NameOrigins}
use Rattle.rinqebo_objects.specs.declared.origins.ObjectOrigins.{ObjectOrigins}
use Rattle.rinqebo_objects.specs.declared.origins.OutputOrigins.{OutputOrigins}
use Rattle.rinqebo_objects.specs.declared.origins.RunOrigins.{RunOrigins}
use Rattle.rinqebo_objects.specs.Values.{optional_data}
use Rattle.rinqebo_report.specs.Documents.{list_data, origin_data}
use Rattle.serde_json.specs.Data.{Data, object, Members, no_members, member, put}

-- where the two timeouts of a whole run come from, by its mode
abbrev pub timeout_origins_data : BoundOrigins → Data
timeout_origins_data bounds =
    object (member (codes "benchmark") (list_data origin_data bounds.benchmark_timeout.items)
    (member (codes "test") (list_data origin_data bounds.global_timeout.items) no_members))

-- where the report of a run comes from
abbrev pub report_origins_data : OutputOrigins → Data
report_origins_data output =
    object (member (codes "path") (list_data origin_data output.report_path.items)
    (member (codes "report-name") (list_data origin_data output.report_name.items) no_members))

-- members, with where what bounds a run comes from
abbrev pub with_bound_origins : BoundOrigins → Members → Members
with_bound_origins bounds members =
    put (codes "test-threads") (list_data origin_data bounds.test_threads.items)
    (put (codes "max-fail") (list_data origin_data bounds.max_fail.items)
    (put (codes "global-timeout") (timeout_origins_data bounds) members))

-- members, with where what a run shows and stores comes from
abbrev pub with_output_origins : OutputOrigins → Members → Members
with_output_origins output members =
    put (codes "store-dir") (list_data origin_data output.store_dir.items)
    (put (codes "status-level") (list_data origin_data output.status_level.items)
    (put (codes "junit") (report_origins_data output)
    (put (codes "final-status-level") (list_data origin_data output.final_status_level.items)
    members)))

-- members, with where the parent of a profile, its default filter, and the arguments of tests come
-- from
abbrev pub with_name_origins : NameOrigins → Members → Members
with_name_origins names members =
    put (codes "run-extra-args") (list_data origin_data names.run_extra_args.items)
    (put (codes "inherits") (list_data origin_data names.inherits.items)
    (put (codes "default-filter") (list_data origin_data names.default_filter.items) members))

-- Where the values that a profile has for a whole run come from: each has the key of its value.
abbrev pub run_origins_data : RunOrigins → Data
run_origins_data run =
    object (with_bound_origins run.bounds (with_output_origins run.output
    (with_name_origins run.names no_members)))

-- members, with where a group comes from
abbrev pub with_group_origins : Members → GroupOrigins → Members
with_group_origins members group =
    put (string_bytes group.name) (list_data origin_data group.origins.items) members

-- where the values of a run and its groups come from, these by their names
abbrev pub object_origins_data : ObjectOrigins → Data
object_origins_data origins =
    object (member (codes "groups")
    (object (fold with_group_origins no_members origins.groups.items))
    (member (codes "run") (run_origins_data origins.run) no_members))

-- where the values of a run and its groups come from, or null
abbrev pub optional_origins_data : Option ObjectOrigins → Data
optional_origins_data origins = optional_data object_origins_data origins
