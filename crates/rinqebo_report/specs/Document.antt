-- The document of a report.
use Rattle.std.specs.Prelude.{ℕ, Bool, true, false, List, Option, None, Some, codes, string_bytes, if◌then◌else◌}
use Rattle.serde_json.specs.Data.{Data, null, boolean, string, array, object, no_items, item, Members, no_members, member, put}
use Rattle.serde_json.specs.View.{view}
use Rattle.rinqebo_report.specs.declared.exact_value.ExactValue.{ExactValue}
use Rattle.rinqebo_report.specs.declared.origin.Origin.{Origin}
use Rattle.rinqebo_report.specs.declared.report.Asked.{Asked}
use Rattle.rinqebo_report.specs.declared.report.Content.{Content}
use Rattle.rinqebo_report.specs.declared.report.Content.TheVariants as contents
use Rattle.rinqebo_report.specs.declared.report.Entry.{Entry}
use Rattle.rinqebo_report.specs.declared.report.ListScripts.{ListScripts}
use Rattle.rinqebo_report.specs.declared.report.Report.{Report}
use Rattle.rinqebo_report.specs.declared.report.Rule.{Rule}
use Rattle.rinqebo_report.specs.declared.report.TestId.{TestId}
use Rattle.rinqebo_report.specs.declared.report.TestRows.{TestRows}
use Rattle.rinqebo_report.specs.Documents.{count_data, text_data, optional_text_data, list_data, origin_data, test_data, test_id_data, entry_data, rule_data, finding_data, source_data, summary_data, unreached_data, wrapper_data}
use Rattle.rinqebo_report.specs.Filled.{put_filled}
use Rattle.rinqebo_report.specs.Headers.{mode_word}
use Rattle.rinqebo_report.specs.Requests.{request_data}

-- The members that every document has but that of `check`, with their keys in the order of bytes.
-- What only some commands report is empty or null.
abbrev pub common_members : Report → Members
common_members report =
    member (codes "chain") (array no_items)
    (member (codes "entries") (array no_items)
    (member (codes "findings") (list_data finding_data report.findings.items)
    (member (codes "host") null
    (member (codes "list-wrappers") (array no_items)
    (member (codes "mode") null
    (member (codes "profile") null
    (member (codes "root") (text_data report.root)
    (member (codes "rules") (array no_items)
    (member (codes "setup-scripts") (array no_items)
    (member (codes "sources") (list_data source_data report.sources.items)
    (member (codes "target") null
    (member (codes "tests") (array no_items)
    (member (codes "unreached") (list_data unreached_data report.unreached.items)
    (member (codes "unused") (array no_items)
    (member (codes "version") (count_data 1) no_members)))))))))))))))

-- members, with a command, and what was requested
abbrev pub with_requested : List ℕ → Asked → Members → Members
with_requested command asked members =
    put (codes "target") (optional_text_data asked.target)
    (put (codes "profile") (text_data asked.profile)
    (put (codes "mode") (string (mode_word asked.mode))
    (put (codes "host") (text_data asked.host)
    (put (codes "command") (string command)
    (put (codes "chain") (list_data text_data asked.chain.items) members)))))

-- members, with those of the page of a test
abbrev pub with_explain : Asked → TestRows → Members → Members
with_explain asked test members =
    put (codes "tests") (array (item (test_data test) no_items))
    (with_requested (codes "explain") asked members)

-- members, with that a list says that a test is ignored
abbrev pub with_ignored : Bool → Members → Members
with_ignored is_ignored members =
    if is_ignored then put (codes "ignored") (boolean true) members else members

-- members, with those of the page of a setting
abbrev pub with_why : Asked → TestId → List ℕ → List Rule → Bool → Members → Members
with_why asked test key rules is_ignored members =
    put (codes "test") (test_id_data test)
    (put (codes "rules") (list_data rule_data rules)
    (put (codes "key") (string key)
    (with_ignored is_ignored (with_requested (codes "explain") asked members))))

-- members, with what a runner needs of a profile as a whole, where it is listed
abbrev pub with_objects : Option ExactValue → Members → Members
with_objects None members = members
with_objects (Some objects) members = put (codes "objects") (view objects.value) members

-- members, with those of the page of a list
abbrev pub with_list : Asked → List TestRows → List Origin → ListScripts → Option ExactValue
    → Members → Members
with_list asked tests unused scripts objects members =
    with_objects objects (put (codes "unused") (list_data origin_data unused)
    (put (codes "tests") (list_data test_data tests)
    (put (codes "setup-scripts") (list_data text_data scripts.setup.items)
    (put (codes "list-wrappers") (list_data wrapper_data scripts.list_wrappers.items)
    (with_requested (codes "list") asked members)))))

-- members, with those of the page of a configuration
abbrev pub with_config : Asked → List Entry → Members → Members
with_config asked entries members =
    put (codes "entries") (list_data entry_data entries)
    (with_requested (codes "show-config") asked members)

-- members, with those of the page of what a command returns
abbrev pub with_content : Content → Members → Members
with_content (contents.Explain asked test) members = with_explain asked test members
with_content (contents.Why asked test key rules is_ignored) members =
    with_why asked test (string_bytes key) rules.items is_ignored members
with_content (contents.List asked tests unused scripts objects) members =
    with_list asked tests.items unused.items scripts objects members
with_content (contents.ShowConfig asked entries) members =
    with_config asked entries.items members
with_content contents.Check members = members

-- members, with the workspace and the files
abbrev pub with_files : Report → Members → Members
with_files report members =
    put (codes "sources") (list_data source_data report.sources.items)
    (put (codes "root") (text_data report.root) members)

-- members, with what is wrong, how much that is, and which checks were not reached, if there are some
abbrev pub with_checks : Report → Members → Members
with_checks report members =
    put_filled (codes "unreached") (list_data unreached_data report.unreached.items)
    (put (codes "summary") (summary_data report.findings.items)
    (put (codes "findings") (list_data finding_data report.findings.items) members))

-- the members of the document of `check`
abbrev pub check_members : Report → Members
check_members report =
    put (codes "version") (count_data 1) (with_checks report (with_files report
    (put (codes "command") (string (codes "check")) no_members)))

-- whether a report has nothing but findings
abbrev pub is_check : Content → Bool
is_check contents.Check = true
is_check (contents.Explain asked test) = false
is_check (contents.Why asked test key rules is_ignored) = false
is_check (contents.List asked tests unused scripts objects) = false
is_check (contents.ShowConfig asked entries) = false

-- the members of the document of a report, without its request
abbrev pub document_members : Report → Members
document_members report =
    if is_check report.content then check_members report
    else with_content report.content (common_members report)

-- the document of a report, with its request
abbrev pub document_data : Report → Data
document_data report =
    object (put (codes "request") (request_data report.request) (document_members report))
