-- The document of a report nests little, and has no number that is a float.
use Rattle.std.proofs.Common.{◌≡◌, ◌≤◌, ◌+◌, ℕ, ℤ, pos, negsuc, Bool, true, false, List, [], ◌∷◌, Option, None, Some, String, string_bytes, codes, if◌then◌else◌, refl, arith}
use Rattle.std.specs.declared.alloc.Global.{Global}
use Rattle.serde_json.specs.Data.{Data, null, number, array, no_items, Members, no_members, depth}
use Rattle.serde_json.specs.Find.{of_integer}
use Rattle.serde_json.specs.Read.{max_depth}
use Rattle.serde_json.specs.Written.{has_float}
use Rattle.rinqebo_report.specs.Document.{check_members, common_members, document_data, document_members, is_check, with_checks, with_content, with_files, with_ignored, with_objects, with_requested}
use Rattle.rinqebo_report.specs.Documents.{count_data, text_data, optional_text_data, optional_count_data, list_data, pair_data, lines_data, range_data, scalar_data, value_data, optional_value_data, part_data, kind_data, origin_data, setting_data, runs_data, test_data, test_id_data, entry_data, rule_data, tool_data, source_data, unreached_data, wrapper_data, place_source_data, place_lines_data, place_range_data, span_data, expression_data, expression_span_data, with_fault, with_site, with_expression, with_advice, finding_data, summary_data, step_data}
use Rattle.rinqebo_report.specs.Requests.{named_test_data, put_given, put_test, request_data}
use Rattle.rinqebo_report.specs.declared.exact_value.ExactValue.{ExactValue}
use Rattle.rinqebo_report.specs.declared.finding.RefusedExpression.{RefusedExpression}
use Rattle.rinqebo_report.specs.declared.finding.Finding.{Finding}
use Rattle.rinqebo_report.specs.declared.finding.FindingStep.{FindingStep}
use Rattle.rinqebo_report.specs.declared.finding.FindingStep.TheVariants as steps
use Rattle.rinqebo_report.specs.declared.finding.CharSpan.{CharSpan}
use Rattle.rinqebo_report.specs.declared.origin.FileLines.{FileLines}
use Rattle.rinqebo_report.specs.declared.origin.Origin.{Origin}
use Rattle.rinqebo_report.specs.declared.origin.Origin.TheVariants as origins
use Rattle.rinqebo_report.specs.declared.origin.Part.{Part}
use Rattle.rinqebo_report.specs.declared.origin.Part.TheVariants.{Fields, Override, Script}
use Rattle.rinqebo_report.specs.declared.origin.FilePlace.{FilePlace}
use Rattle.rinqebo_report.specs.declared.origin.Range.{Range}
use Rattle.rinqebo_report.specs.declared.origin.Source.{Source}
use Rattle.rinqebo_report.specs.declared.origin.SourceKind.{SourceKind}
use Rattle.rinqebo_report.specs.declared.origin.SourceKind.TheVariants as kinds
use Rattle.rinqebo_report.specs.declared.report.Asked.{Asked}
use Rattle.rinqebo_report.specs.declared.report.Content.{Content}
use Rattle.rinqebo_report.specs.declared.report.Content.TheVariants as contents
use Rattle.rinqebo_report.specs.declared.report.Entry.{Entry}
use Rattle.rinqebo_report.specs.declared.report.ListWrapper.{ListWrapper}
use Rattle.rinqebo_report.specs.declared.report.Report.{Report}
use Rattle.rinqebo_report.specs.declared.report.Rule.{Rule}
use Rattle.rinqebo_report.specs.declared.report.SettingRow.{SettingRow}
use Rattle.rinqebo_report.specs.declared.report.TestId.{TestId}
use Rattle.rinqebo_report.specs.declared.report.TestRows.{TestRows}
use Rattle.rinqebo_report.specs.declared.report.Unreached.{Unreached}
use Rattle.rinqebo_report.specs.declared.reported_request.NamedTest.{NamedTest}
use Rattle.rinqebo_report.specs.declared.reported_request.ReportedRequest.{ReportedRequest}
use Rattle.rinqebo_report.specs.declared.value.TableMember.{TableMember}
use Rattle.rinqebo_report.specs.declared.value.Scalar.{Scalar}
use Rattle.rinqebo_report.specs.declared.value.Scalar.TheVariants as scalars
use Rattle.rinqebo_report.specs.declared.value.Value.{Value}
use Rattle.rinqebo_report.specs.declared.value.Value.TheVariants as values
use Rattle.rinqebo_report.proofs.Exact.{IsExact, AreExact, exact_text, exact_null, exact_truth, exact_list, no_more, and_member, exact_object, exact_put, exact_filled, exact_puts}

count : (n m : ℕ) → IsExact n (count_data m)
count n m = record { nests = omega arith; whole = refl }

nothing : (n : ℕ) → IsExact (n + 1) (array no_items)
nothing n = record { nests = omega arith; whole = refl }

-- what nests to a depth nests to no more than a greater one
pub deeper : {m : ℕ} {d : Data} (n : ℕ) → IsExact m d → m ≤ n → IsExact n d
deeper n h le = record { nests = omega (arith, h.nests); whole = h.whole }

text : (n : ℕ) (s : String Global) → IsExact n (text_data s)
text n s = exact_text n (string_bytes s)

optional_text : (n : ℕ) (s : Option (String Global)) → IsExact n (optional_text_data s)
optional_text n None = exact_null n
optional_text n (Some s) = text n s

optional_count : (n : ℕ) (m : Option ℕ) → IsExact n (optional_count_data m)
optional_count n None = exact_null n
optional_count n (Some m) = count n m

texts : (n : ℕ) (xs : List (String Global)) → IsExact (n + 1) (list_data text_data xs)
texts n xs = exact_list n text_data (text n) xs

pair : (n l m : ℕ) → IsExact (n + 1) (pair_data l m)
pair n l m = record { nests = omega arith; whole = refl }

lines : (n : ℕ) (l : Option FileLines) → IsExact (n + 1) (lines_data l)
lines n None = exact_null (n + 1)
lines n (Some l) = pair n l.first l.last

range : (n : ℕ) (r : Option Range) → IsExact (n + 2) (range_data r)
range n None = exact_null (n + 2)
range n (Some r) = record { nests = omega arith; whole = refl }

integer : (n : ℕ) (z : ℤ) → IsExact n (number (of_integer z))
integer n (pos m) = record { nests = omega arith; whole = refl }
integer n (negsuc m) = record { nests = omega arith; whole = refl }

scalar : (n : ℕ) (s : Scalar) → IsExact n (scalar_data s)
scalar n (scalars.Boolean b) = exact_truth n b
scalar n (scalars.Integer z) = integer n z
scalar n (scalars.Text s) = text n s
scalar n (scalars.Duration duration) = exact_text n _

value : (n : ℕ) (v : Value) → IsExact (n + 1) (value_data v)
value n (values.Scalar s) = scalar (n + 1) s
value n (values.Texts xs) = texts n xs.items
value n (values.Table fields) =
    exact_object n (exact_puts n (λ (field : TableMember). string_bytes field.key)
    (λ field. scalar_data field.value) (λ field. scalar n field.value) fields.items no_members (no_more n))

optional_value : (n : ℕ) (v : Option Value) → IsExact (n + 1) (optional_value_data v)
optional_value n None = exact_null (n + 1)
optional_value n (Some v) = value n v

part : (n : ℕ) (p : Part) → IsExact n (part_data p)
part n Fields = exact_null n
part n (Override i) = count n i
part n (Script i) = count n i

kind : (n : ℕ) (word : List ℕ) (index lines profile range source : Data) → IsExact n index → IsExact n lines
    → IsExact n profile → IsExact n range → IsExact n source
    → IsExact (n + 1) (kind_data word index lines profile range source)
kind n word index lines profile range source i l p r s =
    exact_object n (and_member _ i (and_member _ (exact_text n word)
    (and_member _ l (and_member _ p (and_member _ r (and_member _ s (no_more n)))))))

unwritten : (word : List ℕ) → IsExact 3 (kind_data word null null null null null)
unwritten word =
    kind 2 word null null null null null
    (exact_null 2) (exact_null 2) (exact_null 2) (exact_null 2) (exact_null 2)

pub origin : (o : Origin) → IsExact 3 (origin_data o)
origin origins.BuiltIn = unwritten _
origin origins.DefaultTable = unwritten _
origin (origins.Written w) =
    kind 2 _ _ _ _ _ _ (part 2 w.part) (lines 1 w.place.lines) (text 2 w.profile)
    (range 0 w.place.range) (count 2 w.place.source)
origin (origins.File p) =
    kind 2 _ null _ null _ _ (exact_null 2) (lines 1 p.lines) (exact_null 2)
    (range 0 p.range) (count 2 p.source)

setting : (row : SettingRow) → IsExact 5 (setting_data row)
setting row =
    exact_object 4 (and_member _ (exact_list 3 origin_data origin row.origins.items)
    (and_member _ (optional_value 3 row.value) (no_more 4)))

runs : (is_ignored : Bool) (row : SettingRow) → IsExact 5 (runs_data is_ignored row)
runs true row =
    exact_object 4 (and_member _ (exact_truth 4 true)
    (and_member _ (exact_list 3 origin_data origin row.origins.items)
    (and_member _ (optional_value 3 row.value) (no_more 4))))
runs false row = setting row

test : (t : TestRows) → IsExact 7 (test_data t)
test t =
    let settings = exact_object 5
    (exact_puts 5 (λ (row : SettingRow). string_bytes row.key) setting_data setting t.settings.items
    no_members (no_more 5)) in
    exact_object 6 (and_member _ (text 6 t.binary)
    (and_member _ (text 6 t.name)
    (and_member _ (exact_text 6 _)
    (and_member _ (deeper 6 (runs t.is_ignored t.runs) (omega arith)) (and_member _ settings (no_more 6))))))

test_id : (t : TestId) → IsExact 8 (test_id_data t)
test_id t = exact_object 7 (and_member _ (text 7 t.binary)
    (and_member _ (text 7 t.name) (and_member _ (exact_text 7 _) (no_more 7))))

wrapper : (w : ListWrapper) → IsExact 1 (wrapper_data w)
wrapper w = exact_object 0 (and_member _ (text 0 w.binary) (and_member _ (text 0 w.value) (no_more 0)))

entry : (e : Entry) → IsExact 4 (entry_data e)
entry e =
    exact_object 3 (and_member _ (exact_truth 3 e.is_hidden)
    (and_member _ (text 3 e.key) (and_member _ (origin e.origin) (and_member _ (value 2 e.value) (no_more 3)))))

rule : (r : Rule) → IsExact 5 (rule_data r)
rule r =
    exact_object 4 (and_member _ (exact_text 4 _)
    (and_member _ (exact_text 4 _)
    (and_member _ (deeper 4 (origin r.origin) (omega arith))
    (and_member _ (exact_list 3 origin_data origin r.others.items)
    (and_member _ (exact_text 4 _)
    (and_member _ (optional_value 3 r.value) (and_member _ (exact_text 4 _) (no_more 4))))))))

tool : (n : ℕ) (k : SourceKind) → IsExact n (tool_data k)
tool n kinds.Default = exact_null n
tool n (kinds.Tool name) = text n name
tool n kinds.Organisation = exact_null n
tool n kinds.Explicit = exact_null n
tool n kinds.Discovered = exact_null n

source : (s : Source) → IsExact 1 (source_data s)
source s = exact_object 0
    (and_member _ (exact_text 0 _) (and_member _ (optional_text 0 s.path) (and_member _ (tool 0 s.kind) (no_more 0))))

unreached : (u : Unreached) → IsExact 2 (unreached_data u)
unreached u = exact_object 1 (and_member _ (texts 0 u.checks.items) (and_member _ (count 1 u.source) (no_more 1)))

place_source : (n : ℕ) (p : Option FilePlace) → IsExact n (place_source_data p)
place_source n None = exact_null n
place_source n (Some p) = count n p.source

place_lines : (n : ℕ) (p : Option FilePlace) → IsExact (n + 1) (place_lines_data p)
place_lines n None = exact_null (n + 1)
place_lines n (Some p) = lines n p.lines

place_range : (n : ℕ) (p : Option FilePlace) → IsExact (n + 2) (place_range_data p)
place_range n None = exact_null (n + 2)
place_range n (Some p) = range n p.range

span : (n : ℕ) (s : Option CharSpan) → IsExact (n + 1) (span_data s)
span n None = exact_null (n + 1)
span n (Some s) = pair n s.from s.to

expression : (n : ℕ) (e : Option RefusedExpression) → IsExact n (expression_data e)
expression n None = exact_null n
expression n (Some e) = text n e.text

expression_span : (n : ℕ) (e : Option RefusedExpression) → IsExact (n + 1) (expression_span_data e)
expression_span n None = exact_null (n + 1)
expression_span n (Some e) = span n e.span

fault : {ms : Members} (f : Finding) → AreExact 2 ms → AreExact 2 (with_fault f ms)
fault f h =
    exact_filled (codes "upstream") _ _ (optional_text 2 f.upstream)
    (exact_put (codes "message") _ _ (text 2 f.message)
    (exact_put (codes "level") _ _ (exact_text 2 _) (exact_put (codes "code") _ _ (text 2 f.code) h)))

step : (n : ℕ) (s : FindingStep) → IsExact n (step_data s)
step n (steps.Key k) = text n k
step n (steps.Position m) = count n m

site : {ms : Members} (f : Finding) → AreExact 2 ms → AreExact 2 (with_site f ms)
site f h =
    exact_filled (codes "source") _ _ (place_source 2 f.place)
    (exact_filled (codes "range") _ _ (place_range 0 f.place)
    (exact_filled (codes "path") _ _ (exact_list 1 step_data (step 1) f.steps.items)
    (exact_filled (codes "lines") _ _ (place_lines 1 f.place)
    (exact_filled (codes "column") _ _ (optional_count 2 f.column) h))))

refused : {ms : Members} (f : Finding) → AreExact 2 ms → AreExact 2 (with_expression f ms)
refused f h =
    exact_filled (codes "span") _ _ (expression_span 1 f.expression)
    (exact_filled (codes "expression") _ _ (expression 2 f.expression) h)

advice : {ms : Members} (f : Finding) → AreExact 2 ms → AreExact 2 (with_advice f ms)
advice f h =
    exact_filled (codes "notes") _ _ (texts 1 f.notes.items)
    (exact_filled (codes "help") _ _ (optional_text 2 f.help)
    (exact_filled (codes "expected") _ _ (optional_text 2 f.expected) h))

finding : (f : Finding) → IsExact 3 (finding_data f)
finding f = exact_object 2 (advice f (refused f (site f (fault f (no_more 2)))))

summary : (fs : List Finding) → IsExact 1 (summary_data fs)
summary fs = exact_object 0 (and_member _ (count 0 _) (and_member _ (count 0 _) (and_member _ (count 0 _) (no_more 0))))

-- members with what was requested, and with those of each page
asked : {ms : Members} (command : List ℕ) (a : Asked) → AreExact 8 ms → AreExact 8 (with_requested command a ms)
asked command a h =
    exact_put (codes "target") _ _ (optional_text 8 a.target)
    (exact_put (codes "profile") _ _ (text 8 a.profile)
    (exact_put (codes "mode") _ _ (exact_text 8 _)
    (exact_put (codes "host") _ _ (text 8 a.host)
    (exact_put (codes "command") _ _ (exact_text 8 command)
    (exact_put (codes "chain") _ _ (texts 7 a.chain.items) h)))))

ignored : {ms : Members} (is_ignored : Bool) → AreExact 8 ms → AreExact 8 (with_ignored is_ignored ms)
ignored true h = exact_put (codes "ignored") _ _ (exact_truth 8 true) h
ignored false h = h

rules_of : (rules : List Rule) → IsExact 8 (list_data rule_data rules)
rules_of rules = exact_list 7 rule_data (λ r. deeper 7 (rule r) (omega arith)) rules

entries_of : (entries : List Entry) → IsExact 8 (list_data entry_data entries)
entries_of entries = exact_list 7 entry_data (λ e. deeper 7 (entry e) (omega arith)) entries

unused_of : (unused : List Origin) → IsExact 8 (list_data origin_data unused)
unused_of unused = exact_list 7 origin_data (λ o. deeper 7 (origin o) (omega arith)) unused

wrappers_of : (wrappers : List ListWrapper) → IsExact 8 (list_data wrapper_data wrappers)
wrappers_of wrappers = exact_list 7 wrapper_data (λ w. deeper 7 (wrapper w) (omega arith)) wrappers

objects_of : {ms : Members} (objects : Option ExactValue) → AreExact 8 ms → AreExact 8 (with_objects objects ms)
objects_of None h = h
objects_of (Some objects) h =
    exact_put (codes "objects") _ _ (record { nests = objects.nests; whole = objects.whole }) h

content : {ms : Members} (c : Content) → AreExact 8 ms → AreExact 8 (with_content c ms)
content (contents.Explain a t) h =
    exact_put (codes "tests") _ _ (exact_list 7 test_data test (t ∷ [])) (asked (codes "explain") a h)
content (contents.Why a t key rules is_ignored) h =
    exact_put (codes "test") _ _ (test_id t)
    (exact_put (codes "rules") _ _ (rules_of rules.items)
    (exact_put (codes "key") _ _ (text 8 key) (ignored is_ignored (asked (codes "explain") a h))))
content (contents.List a tests unused scripts objects) h =
    objects_of objects (exact_put (codes "unused") _ _ (unused_of unused.items)
    (exact_put (codes "tests") _ _ (exact_list 7 test_data test tests.items)
    (exact_put (codes "setup-scripts") _ _ (texts 7 scripts.setup.items)
    (exact_put (codes "list-wrappers") _ _ (wrappers_of scripts.list_wrappers.items) (asked (codes "list") a h)))))
content (contents.ShowConfig a entries) h =
    exact_put (codes "entries") _ _ (entries_of entries.items) (asked (codes "show-config") a h)
content contents.Check h = h

findings_of : (report : Report) → IsExact 8 (list_data finding_data report.findings.items)
findings_of report = exact_list 7 finding_data (λ f. deeper 7 (finding f) (omega arith)) report.findings.items

sources_of : (report : Report) → IsExact 8 (list_data source_data report.sources.items)
sources_of report = exact_list 7 source_data (λ s. deeper 7 (source s) (omega arith)) report.sources.items

unreached_of : (report : Report) → IsExact 8 (list_data unreached_data report.unreached.items)
unreached_of report = exact_list 7 unreached_data (λ u. deeper 7 (unreached u) (omega arith)) report.unreached.items

common : (report : Report) → AreExact 8 (common_members report)
common report =
    and_member _ (nothing 7) (and_member _ (nothing 7) (and_member _ (findings_of report)
    (and_member _ (exact_null 8) (and_member _ (nothing 7)
    (and_member _ (exact_null 8) (and_member _ (exact_null 8) (and_member _ (text 8 report.root)
    (and_member _ (nothing 7) (and_member _ (nothing 7) (and_member _ (sources_of report)
    (and_member _ (exact_null 8) (and_member _ (nothing 7) (and_member _ (unreached_of report)
    (and_member _ (nothing 7) (and_member _ (count 8 1) (no_more 8))))))))))))))))

files : {ms : Members} (report : Report) → AreExact 8 ms → AreExact 8 (with_files report ms)
files report h = exact_put (codes "sources") _ _ (sources_of report) (exact_put (codes "root") _ _ (text 8 report.root) h)

checks : {ms : Members} (report : Report) → AreExact 8 ms → AreExact 8 (with_checks report ms)
checks report h =
    exact_filled (codes "unreached") _ _ (unreached_of report)
    (exact_put (codes "summary") _ _ (deeper 8 (summary report.findings.items) (omega arith))
    (exact_put (codes "findings") _ _ (findings_of report) h))

checked : (report : Report) → AreExact 8 (check_members report)
checked report =
    exact_put (codes "version") _ _ (count 8 1)
    (checks report (files report (exact_put (codes "command") _ _ (exact_text 8 _) (no_more 8))))

members : (report : Report) → AreExact 8 (document_members report)
members report =
    let P : Bool → Type 0 =
    λ b. AreExact 8 (if b then check_members report else with_content report.content (common_members report)) in
    elim (is_check report.content) as P [
      | true ↦ checked report
      | false ↦ content report.content (common report)
    ]

-- the request of a user
given : {n : ℕ} {ms : Members} (k : List ℕ) (s : Option (String Global)) → AreExact n ms → AreExact n (put_given k s ms)
given k None h = h
given {n} k (Some s) h = exact_put k _ _ (text n s) h

named : (t : NamedTest) → IsExact 1 (named_test_data t)
named t = exact_object 0 (exact_put (codes "name") _ _ (text 0 t.name) (given (codes "binary-id") t.binary (no_more 0)))

tested : {ms : Members} (t : Option NamedTest) → AreExact 7 ms → AreExact 7 (put_test t ms)
tested None h = h
tested (Some t) h = exact_put (codes "test") _ _ (deeper 7 (named t) (omega arith)) h

requested : (r : ReportedRequest) → IsExact 8 (request_data r)
requested r =
    exact_object 7 (given (codes "why") r.why (tested r.test (given (codes "list") r.list
    (exact_filled (codes "keys") _ _ (texts 6 r.keys.items)
    (given (codes "by") r.by (exact_put (codes "command") _ _ (exact_text 7 _) (no_more 7)))))))

document : (report : Report) → IsExact 9 (document_data report)
document report = exact_object 8 (exact_put (codes "request") _ _ (requested report.request) (members report))

within : (d : Data) → IsExact 9 d → depth d ≤ max_depth
within d h = omega (arith, h.nests)

pub document_nests : (report : Report) → depth (document_data report) ≤ max_depth
document_nests report = within (document_data report) (document report)

pub document_is_whole : (report : Report) → has_float (document_data report) ≡ false
document_is_whole report = (document report).whole
