-- What commands report of a test of one session agrees.
use Rattle.std.proofs.Common.{◌≡◌, zero, ◌∷◌, [], ◌∙◌, ℕ, Bool, List, Option, Some, slice_get, string_bytes, sym, ap, subst}
use Rattle.nextest_engines.specs.Engines.{Test}
use Rattle.filter_engine.specs.Engine.{Filter}
use Rattle.nextest_load.specs.Config.{ScriptTables}
use Rattle.filter_inputs.specs.Lists.ListView.{list_view}
use Rattle.filter_inputs.specs.Lists.Lists.{list_tests}
use Rattle.nextest_tables.specs.Written.{Name}
use Rattle.platform_language.specs.Expressions.{Spec}
use Rattle.platform_language.specs.declared.platforms.Platform.{Platform}
use Rattle.rinqebo_request.specs.declared.files.gathering.Gathered.{Gathered}
use Rattle.rinqebo_laws.proofs.Files.{are_files}
use Rattle.rinqebo_laws.proofs.Listed.{from_kept}
use Rattle.rinqebo_laws.proofs.Profiles.{BothReport, both_report, reports_agree, reports_same}
use Rattle.rinqebo_laws.specs.Rows.{AgreeOnTest, AreOneTest, ListsTest, SaySameOfTest}
use Rattle.rinqebo_load.specs.FindTests.{IsFoundFor, IsTestBy, named_in, source_of}
use Rattle.rinqebo_load.specs.FoundTests.{found_view, is_named}
use Rattle.rinqebo_load.specs.Meant.{config_meant}
use Rattle.rinqebo_load.specs.SessionOf.{IsSessionOf}
use Rattle.rinqebo_load.specs.Sessions.{readings}
use Rattle.rinqebo_load.specs.declared.found_test.FoundTest.{FoundTest}
use Rattle.rinqebo_load.specs.declared.found_test.TestSource.TheVariants as sources
use Rattle.rinqebo_load.specs.declared.session.Session.{Session}
use Rattle.rinqebo_report.specs.declared.exact_value.ExactValue.{ExactValue}
use Rattle.rinqebo_report.specs.declared.origin.Origin.{Origin}
use Rattle.rinqebo_report.specs.declared.report.Content.{Content}
use Rattle.rinqebo_report.specs.declared.report.Content.TheVariants as contents
use Rattle.rinqebo_report.specs.declared.report.ListScripts.{ListScripts}
use Rattle.rinqebo_report.specs.declared.report.Report.{Report}
use Rattle.rinqebo_report.specs.declared.report.TestRows.{TestRows}
use Rattle.rinqebo_request.specs.declared.request.Request.{Request}
use Rattle.rinqebo_request.specs.declared.request.RequestedSettings.{RequestedSettings}
use Rattle.rinqebo_request.specs.declared.request.RequestedTest.{RequestedTest}
use Rattle.rinqebo_results.specs.Explained.{Explains, IfExplained}
use Rattle.rinqebo_results.specs.Listed.{IfListed, ReportsTests}

-- ---- contents of reports

pub if_explained : (content : Content) (P Q : TestRows → Type 0) → ((test : TestRows) → P test → Q test)
    → IfExplained content P → IfExplained content Q
if_explained (contents.Explain asked test) P Q turn is = turn test is
if_explained (contents.Why asked test key rules is_ignored) P Q turn is = absurd is
if_explained (contents.List asked tests unused scripts objects) P Q turn is = absurd is
if_explained (contents.ShowConfig asked entries) P Q turn is = absurd is
if_explained contents.Check P Q turn is = absurd is

if_listed : (content : Content) (P Q : List TestRows → List Origin → ListScripts → Option ExactValue → Type 0)
    → ((tests : List TestRows) (unused : List Origin) (scripts : ListScripts) (objects : Option ExactValue)
    → P tests unused scripts objects → Q tests unused scripts objects)
    → IfListed content P → IfListed content Q
if_listed (contents.List asked tests unused scripts objects) P Q turn is =
    turn tests.items unused.items scripts objects is
if_listed (contents.Explain asked test) P Q turn is = absurd is
if_listed (contents.Why asked test key rules is_ignored) P Q turn is = absurd is
if_listed (contents.ShowConfig asked entries) P Q turn is = absurd is
if_listed contents.Check P Q turn is = absurd is

-- ---- lists

-- what platforms a session meets, and which tests its filters match
abbrev pub meets_of : Session → Spec → Platform → Option Bool
meets_of session = (readings session.engines.filters).meets

abbrev pub matches_of : Session → Filter → Test → Filter → Bool
matches_of session = (readings session.engines.filters).matches_test

abbrev pub root_of : Session → List ℕ
root_of session = string_bytes session.gathered.now.paths.workspace_root

-- the row of a list and the report of `explain`
abbrev Both : Session → Name → FoundTest → RequestedSettings → RequestedSettings → ScriptTables → ScriptTables → ℕ
    → List TestRows → TestRows → Type 0
Both session profile test asked requested scripts others n tests rows =
    BothReport (meets_of session) (matches_of session) session.engines.platforms (root_of session) (config_meant session)
    session.layers.items profile scripts others test asked requested n tests rows

both_hold : (session : Session) (profile : Name) (test : FoundTest) (asked requested : RequestedSettings)
    (listed explained : Report) (n : ℕ) (lists : ReportsTests session profile test.mode requested listed)
    (explains : Explains session profile test asked explained)
    → slice_get (list_tests (list_view session.tests)) n ≡ Some (found_view test)
    → (Holds : List TestRows → TestRows → Type 0)
    → ((tests : List TestRows) (rows : TestRows)
    → Both session profile test asked requested explains.scripts lists.scripts n tests rows → Holds tests rows)
    → IfListed listed.content (λ tests unused scripts objects. IfExplained explained.content (λ rows. Holds tests rows))
both_hold session profile test asked requested listed explained n lists explains there Holds turn =
    if_listed listed.content _ _ (λ tests unused scripts objects are.
    if_explained explained.content _ _ (λ rows is. turn tests rows
    (both_report (meets_of session) (matches_of session) session.engines.platforms (root_of session) (config_meant session)
    session.layers.items profile (readings session.engines.filters).matches_binary (list_view session.tests)
    explains.scripts lists.scripts test asked requested n tests unused scripts objects rows are is there))
    explains.told) lists.told

pub list_agrees : (request : Request) (gathered : Gathered) (session : Session) (profile : Name) (test : FoundTest)
    (requested asked : RequestedSettings) (listed explained : Report) (n : ℕ) → IsSessionOf request gathered session
    → ReportsTests session profile test.mode requested listed → Explains session profile test asked explained
    → slice_get (list_tests (list_view session.tests)) n ≡ Some (found_view test)
    → IfListed listed.content (λ tests unused scripts objects. IfExplained explained.content
    (λ told. ListsTest tests n (AgreeOnTest told)))
list_agrees request gathered session profile test requested asked listed explained n is lists explains there =
    both_hold session profile test asked requested listed explained n lists explains there
    (λ tests rows. ListsTest tests n (AgreeOnTest rows))
    (λ tests rows both. record {
      test = both.listed;
      there = both.there;
      holds = reports_agree (meets_of session) (matches_of session) session.engines.platforms (root_of session)
          (config_meant session) session.layers.items profile (are_files request gathered session is explains.acceptance)
          explains.scripts lists.scripts both.chain both.names (found_view test) test.mode asked requested rows both.listed
          both.is both.are;
    })

pub list_same : (request : Request) (gathered : Gathered) (session : Session) (profile : Name) (test : FoundTest)
    (asked : RequestedSettings) (listed explained : Report) (n : ℕ) → IsSessionOf request gathered session
    → ReportsTests session profile test.mode asked listed → Explains session profile test asked explained
    → slice_get (list_tests (list_view session.tests)) n ≡ Some (found_view test)
    → IfListed listed.content (λ tests unused scripts objects. IfExplained explained.content
    (λ told. ListsTest tests n (SaySameOfTest told)))
list_same request gathered session profile test asked listed explained n is lists explains there =
    both_hold session profile test asked asked listed explained n lists explains there
    (λ tests rows. ListsTest tests n (SaySameOfTest rows))
    (λ tests rows both. record {
      test = both.listed;
      there = both.there;
      holds = reports_same (meets_of session) (matches_of session) session.engines.platforms (root_of session)
          (config_meant session) session.layers.items profile (are_files request gathered session is explains.acceptance)
          explains.scripts lists.scripts both.chain both.names (found_view test) test.mode asked rows both.listed
          both.is both.are;
    })

-- a test that is found in a list is one of it
pub found_in_list : (session : Session) (requested : RequestedTest) (found : FoundTest)
    → IsFoundFor session requested found → found.source ≡ sources.List
    → (n : ℕ) × (slice_get (list_tests (list_view session.tests)) n ≡ Some (found_view found))
found_in_list session requested found is in_list =
    let source : source_of session requested ≡ sources.List = sym is.source ∙ in_list in
    let one : named_in session requested ≡ found_view found ∷ [] =
    subst (λ source. IsTestBy source session requested (found_view found)) source is.test in
    from_kept (is_named requested.binary requested.name.now) (list_tests (list_view session.tests)) zero (found_view found)
    (ap (λ ts. slice_get ts zero) one)

-- and each time the same one
pub found_twice : (session : Session) (requested : RequestedTest) (found other : FoundTest)
    → IsFoundFor session requested found → IsFoundFor session requested other → found.source ≡ sources.List
    → AreOneTest found other
found_twice session requested found other is are in_list =
    let source : source_of session requested ≡ sources.List = sym is.source ∙ in_list in
    let one : named_in session requested ≡ found_view found ∷ [] =
    subst (λ source. IsTestBy source session requested (found_view found)) source is.test in
    let two : named_in session requested ≡ found_view other ∷ [] =
    subst (λ source. IsTestBy source session requested (found_view other)) source are.test in
    let both : found_view found ∷ [] ≡ found_view other ∷ [] = sym one ∙ two in
    let view : found_view found ≡ found_view other = cc in
    record { test = view; mode = is.mode ∙ sym are.mode }
