-- Members that are put one after another lie in the order of their keys.
use Rattle.std.proofs.Common.{◌≡◌, ℕ, List, [], String, Vec, Global, codes, rules, ap, ◌∙◌}
use Rattle.serde_json.proofs.Views.{view-Array}
use Rattle.serde_json.specs.Data.{Data, null, string, array, no_items, Members, no_members, put}
use Rattle.serde_json.specs.View.{items_view, members_view, view}
use Rattle.serde_json.specs.declared.value.Value.{Value, Null, Array, the_lemmas}
use Rattle.rinqebo_report.specs.Documents.{count_data, text_data, list_data, finding_data, source_data, unreached_data}
use Rattle.rinqebo_report.proofs.json_document.common_members.Goals as goal

empty : (v : Vec Value Global) → v.items ≡ [] → view (Array v) ≡ array no_items
empty v is = view-Array v ∙ ap (λ vs. array (items_view vs)) is

-- what was put behind other members
and_then : (k : List ℕ) (value : Value) (old new : List (String Global × Value)) (d : Data) (ms : Members)
    → members_view new ≡ put k (view value) (members_view old) → view value ≡ d → members_view old ≡ ms
    → members_view new ≡ put k d ms
and_then k value old new d ms is same before =
    is ∙ ap (λ e. put k e (members_view old)) same ∙ ap (put k d) before

pub returns : goal.returns
returns c =
    let report = c.args.report.now in
    let nothing : view Null ≡ null = search (rules, the_lemmas) in
    let none : members_view c.new-members.result.entries ≡ no_members = ap members_view c.new-members.ensures.empty in
    let chain = and_then (codes "chain") (Array c.new.result) c.new-members.result.entries c.put.new.map.entries
    (array no_items) _ c.in_ok-put.ensures.ok
    (empty c.new.result c.new.ensures.items) none in
    let entries = and_then (codes "entries") (Array c.new-2.result) c.put.new.map.entries c.put-2.new.map.entries
    (array no_items) _ c.in_ok-put-2.ensures.ok
    (empty c.new-2.result c.new-2.ensures.items) chain in
    let findings = and_then (codes "findings") c.in_ok-findings.findings c.put-2.new.map.entries c.put-3.new.map.entries
    (list_data finding_data report.findings.items) _ c.in_ok-put-3.ensures.ok
    (c.in_ok-findings.ensures ∙ ap (list_data finding_data) c.deref.ensures.value) entries in
    let host = and_then (codes "host") Null c.put-3.new.map.entries c.put-4.new.map.entries
    null _ c.in_ok-put-4.ensures.ok
    nothing findings in
    let wrappers = and_then (codes "list-wrappers") (Array c.new-3.result) c.put-4.new.map.entries c.put-5.new.map.entries
    (array no_items) _ c.in_ok-put-5.ensures.ok
    (empty c.new-3.result c.new-3.ensures.items) host in
    let mode = and_then (codes "mode") Null c.put-5.new.map.entries c.put-6.new.map.entries
    null _ c.in_ok-put-6.ensures.ok
    nothing wrappers in
    let profile = and_then (codes "profile") Null c.put-6.new.map.entries c.put-7.new.map.entries
    null _ c.in_ok-put-7.ensures.ok
    nothing mode in
    let root = and_then (codes "root") c.in_ok-root.root c.put-7.new.map.entries c.put-8.new.map.entries
    (text_data report.root) _ c.in_ok-put-8.ensures.ok
    (c.in_ok-root.ensures ∙ ap string c.as_str.ensures.value) profile in
    let told = and_then (codes "rules") (Array c.new-4.result) c.put-8.new.map.entries c.put-9.new.map.entries
    (array no_items) _ c.in_ok-put-9.ensures.ok
    (empty c.new-4.result c.new-4.ensures.items) root in
    let setup = and_then (codes "setup-scripts") (Array c.new-5.result) c.put-9.new.map.entries c.put-10.new.map.entries
    (array no_items) _ c.in_ok-put-10.ensures.ok
    (empty c.new-5.result c.new-5.ensures.items) told in
    let sources = and_then (codes "sources") c.in_ok-sources.sources c.put-10.new.map.entries c.put-11.new.map.entries
    (list_data source_data report.sources.items) _ c.in_ok-put-11.ensures.ok
    (c.in_ok-sources.ensures ∙ ap (list_data source_data) c.deref-2.ensures.value) setup in
    let target = and_then (codes "target") Null c.put-11.new.map.entries c.put-12.new.map.entries
    null _ c.in_ok-put-12.ensures.ok
    nothing sources in
    let tests = and_then (codes "tests") (Array c.new-6.result) c.put-12.new.map.entries c.put-13.new.map.entries
    (array no_items) _ c.in_ok-put-13.ensures.ok
    (empty c.new-6.result c.new-6.ensures.items) target in
    let unreached = and_then (codes "unreached") c.in_ok-unreached.unreached c.put-13.new.map.entries c.put-14.new.map.entries
    (list_data unreached_data report.unreached.items) _ c.in_ok-put-14.ensures.ok
    (c.in_ok-unreached.ensures ∙ ap (list_data unreached_data) c.deref-3.ensures.value) tests in
    let unused = and_then (codes "unused") (Array c.new-7.result) c.put-14.new.map.entries c.put-15.new.map.entries
    (array no_items) _ c.in_ok-put-15.ensures.ok
    (empty c.new-7.result c.new-7.ensures.items) unreached in
    let version = and_then (codes "version") c.from.result c.put-15.new.map.entries c.put-16.new.map.entries
    (count_data 1) _ c.in_ok-put-16.ensures.ok
    c.from.ensures unused in
    version
