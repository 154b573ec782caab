-- What `--why` and `explain` report of a test of one session agrees.
use Rattle.std.proofs.Common.{◌≡◌, ℕ, Bool, List, Contains, string_bytes, sym, subst}
use Rattle.nextest_inheritance.specs.Parents.{parents_in}
use Rattle.nextest_load.specs.Config.{ScriptTables, config_parents}
use Rattle.nextest_settings.specs.Profiles.Profiles.{IsChainAndDefault}
use Rattle.nextest_settings.specs.Profile.{profile_of, profile_on}
use Rattle.nextest_settings.specs.Queries.{query_in}
use Rattle.nextest_elements.specs.declared.setting.Setting.{Setting}
use Rattle.nextest_tables.specs.Written.{Name}
use Rattle.rinqebo_request.specs.declared.files.gathering.Gathered.{Gathered}
use Rattle.rinqebo_laws.proofs.Files.{are_files}
use Rattle.rinqebo_laws.specs.Reasons.{AgreesWithRules, HaveKeyIfDecided, HaveOneResult}
use Rattle.rinqebo_laws.specs.Rows.{AreOneTest}
use Rattle.rinqebo_laws.specs.Runs.{AgreesWithFilters}
use Rattle.rinqebo_load.specs.FoundTests.{found_view}
use Rattle.rinqebo_load.specs.SessionOf.{IsSessionOf}
use Rattle.rinqebo_load.specs.declared.found_test.FoundTest.{FoundTest}
use Rattle.rinqebo_load.specs.declared.session.Session.{Session}
use Rattle.rinqebo_report.specs.declared.report.Content.{Content}
use Rattle.rinqebo_report.specs.declared.report.Content.TheVariants as contents
use Rattle.rinqebo_report.specs.declared.report.Report.{Report}
use Rattle.rinqebo_report.specs.declared.report.Rule.{Rule}
use Rattle.rinqebo_report.specs.declared.report.SettingRow.{SettingRow}
use Rattle.rinqebo_report.specs.declared.report.TestId.{TestId}
use Rattle.rinqebo_request.specs.declared.request.Request.{Request}
use Rattle.rinqebo_request.specs.declared.request.RequestedSettings.{RequestedSettings}
use Rattle.rinqebo_request.specs.declared.request.RequestedSettings.TheVariants as requests
use Rattle.rinqebo_rules.specs.SettingRules.{rules_for}
use Rattle.rinqebo_results.specs.Explained.{Explains, IfExplained}
use Rattle.rinqebo_results.specs.ReportsReasons.{AreReasons, AreReasonsIn, IfWhy, ReportsReasons, configured_by}
use Rattle.rinqebo_results.specs.RunsReasons.{AreRunsReasons, AreRunsReasonsIn, ReportsRunsReasons, is_selected_on}
use Rattle.rinqebo_laws.proofs.Agreement.{if_explained, matches_of, meets_of, root_of}
use Rattle.rinqebo_laws.proofs.ProfileRules.{RunsAgree, listed_if_decided, row_agrees, runs_agree}
use Rattle.rinqebo_laws.proofs.Profiles.{explained_by, one_default, reported_of_one}
use Rattle.rinqebo_laws.proofs.Runs.{one_filter}
use Rattle.rinqebo_laws.proofs.Why.{one_result}
use Rattle.rinqebo_load.specs.Meant.{config_meant}

-- ---- contents of reports

if_why : (content : Content) (P Q : TestId → List ℕ → List Rule → Bool → Type 0)
    → ((named : TestId) (key : List ℕ) (rules : List Rule) (ignored : Bool) → P named key rules ignored
    → Q named key rules ignored) → IfWhy content P → IfWhy content Q
if_why (contents.Why asked test key rules is_ignored) P Q turn is =
    turn test (string_bytes key) rules.items is_ignored is
if_why (contents.Explain asked test) P Q turn is = absurd is
if_why (contents.List asked tests unused scripts objects) P Q turn is = absurd is
if_why (contents.ShowConfig asked entries) P Q turn is = absurd is
if_why contents.Check P Q turn is = absurd is

-- ---- chains

-- the rules of a profile are those of its one chain
reasons_on : (session : Session) (profile : Name) (test : FoundTest) (s : Setting) (scripts : ScriptTables)
    (names : List Name) (rules : List Rule)
    → (it : AreReasonsIn session.layers.items (meets_of session) (matches_of session) session.engines.platforms
    (configured_by session scripts) profile test s rules)
    → IsChainAndDefault (parents_in (config_parents (config_meant session))) profile names
    → AreReasons session.layers.items names (meets_of session) (matches_of session) session.engines.platforms test s
    (profile_of (configured_by session scripts) profile it.is_profile.chain) rules
reasons_on session profile test s scripts names rules it are_names =
    let meets = meets_of session in
    let matches = matches_of session in
    let platforms = session.engines.platforms in
    let layers = session.layers.items in
    let here = profile_of (configured_by session scripts) profile it.is_profile.chain in
    subst (λ ns. AreReasons layers ns meets matches platforms test s here rules)
    (one_default meets matches platforms (root_of session) (config_meant session) layers profile it.chain names it.is_chain
    are_names)
    (subst (λ p. AreReasons layers it.chain meets matches platforms test s p rules) it.is_profile.is_profile it.reasons)

runs_reasons_on : (session : Session) (profile : Name) (test : FoundTest) (scripts : ScriptTables) (names : List Name)
    (rules : List Rule)
    → (it : AreRunsReasonsIn session.layers.items (meets_of session) (matches_of session) session.engines.platforms
    (configured_by session scripts) profile test rules)
    → IsChainAndDefault (parents_in (config_parents (config_meant session))) profile names
    → AreRunsReasons session.layers.items names (meets_of session) (matches_of session) session.engines.platforms test
    (profile_of (configured_by session scripts) profile it.is_profile.chain) rules
runs_reasons_on session profile test scripts names rules it are_names =
    let meets = meets_of session in
    let matches = matches_of session in
    let platforms = session.engines.platforms in
    let layers = session.layers.items in
    let here = profile_of (configured_by session scripts) profile it.is_profile.chain in
    subst (λ ns. AreRunsReasons layers ns meets matches platforms test here rules)
    (one_default meets matches platforms (root_of session) (config_meant session) layers profile it.chain names it.is_chain
    are_names)
    (subst (λ p. AreRunsReasons layers it.chain meets matches platforms test p rules) it.is_profile.is_profile it.reasons)

-- ---- rules

-- rules have one result
pub why_once : (session : Session) (profile : Name) (test : FoundTest) (s : Setting) (why : Report)
    → ReportsReasons session profile test s why → IfWhy why.content (λ named key rules ignored. HaveOneResult rules)
why_once session profile test s why reasons =
    if_why why.content _ _ (λ named key rules ignored is.
    (let it = is.3.reasons in
    one_result session.layers.items (meets_of session) session.engines.platforms
    (query_in (matches_of session) (profile_on (meets_of session) session.engines.platforms is.3.profile)
    (found_view test).test)
    (rules_for s test.mode is.3.profile.overrides is.3.profile.script_rules) it.before it.rules_reported it.fallback
    it.fallback_reported rules it.are)) reasons.told

-- the rules and the row of a setting agree
pub why_agrees : (request : Request) (gathered : Gathered) (session : Session) (profile : Name) (test other : FoundTest)
    (s : Setting) (asked : RequestedSettings) (why explained : Report) → IsSessionOf request gathered session
    → AreOneTest test other → ReportsReasons session profile test s why → Explains session profile other asked explained
    → IfWhy why.content (λ named key rules ignored. IfExplained explained.content (λ told. (row : SettingRow)
    → Contains told.settings.items row → string_bytes row.key ≡ key → AgreesWithRules session profile s test.mode rules row))
why_agrees request gathered session profile test other s asked why explained is one_test reasons explains =
    if_why why.content _ _ (λ named key rules ignored has.
    if_explained explained.content _ _ (λ told reports row in_rows same.
    (let meets = meets_of session in
    let matches = matches_of session in
    let platforms = session.engines.platforms in
    let layers = session.layers.items in
    let it = has.3 in
    let chain = it.is_profile.chain in
    let rows = reported_of_one meets matches platforms (root_of session) (config_meant session) layers profile
    explains.scripts chain reports.chain test other asked told one_test
    (explained_by meets matches platforms (root_of session) (config_meant session) layers profile explains.scripts chain
    reports.chain other asked told it.is_profile.is_chain reports.is_chain reports) in
    let agrees = row_agrees meets matches platforms (root_of session) (config_meant session) layers profile test
    reasons.scripts explains.scripts chain reports.chain rules told
    (are_files request gathered session is explains.acceptance) asked s row
    (reasons_on session profile test s reasons.scripts reports.chain rules it reports.is_chain) rows key
    has.1 in_rows same in
    record {
      decided = agrees.decided;
      undecided = agrees.undecided;
      origins = λ none. record { chain = reports.chain; is_chain = reports.is_chain; are = agrees.origins none };
    })) explains.told) reasons.told

pub why_listed : (session : Session) (profile : Name) (test other : FoundTest) (s : Setting) (why explained : Report)
    → AreOneTest test other → ReportsReasons session profile test s why
    → Explains session profile other requests.Decided explained
    → IfWhy why.content (λ named key rules ignored. IfExplained explained.content
    (λ told. HaveKeyIfDecided rules told.settings.items key))
why_listed session profile test other s why explained one_test reasons explains =
    if_why why.content _ _ (λ named key rules ignored has.
    if_explained explained.content _ _ (λ told reports.
    (let meets = meets_of session in
    let matches = matches_of session in
    let platforms = session.engines.platforms in
    let layers = session.layers.items in
    let it = has.3 in
    let chain = it.is_profile.chain in
    let rows = reported_of_one meets matches platforms (root_of session) (config_meant session) layers profile
    explains.scripts chain reports.chain test other requests.Decided told one_test
    (explained_by meets matches platforms (root_of session) (config_meant session) layers profile explains.scripts chain
    reports.chain other requests.Decided told it.is_profile.is_chain reports.is_chain reports) in
    listed_if_decided meets matches platforms (root_of session) (config_meant session) layers profile test reasons.scripts
    explains.scripts chain reports.chain rules told s
    (reasons_on session profile test s reasons.scripts reports.chain rules it reports.is_chain) rows key
    has.1)) explains.told) reasons.told

-- ---- whether a test runs

-- the rules of why a test runs have one result
pub why_runs_once : (session : Session) (profile : Name) (test : FoundTest) (why : Report)
    → ReportsRunsReasons session profile test why
    → IfWhy why.content (λ named key rules ignored. HaveOneResult rules)
why_runs_once session profile test why reasons =
    if_why why.content _ _ (λ named key rules ignored is.
    (let it = is.3.reasons in
    one_filter session.layers.items (meets_of session) session.engines.platforms is.3.profile.overrides
    (is_selected_on (matches_of session) (profile_on (meets_of session) session.engines.platforms is.3.profile)
    (found_view test).test) it.before it.rules_reported it.fallback it.fallback_reported rules it.are)) reasons.told

pub why_runs_agrees : (request : Request) (gathered : Gathered) (session : Session) (profile : Name)
    (test other : FoundTest) (asked : RequestedSettings) (why explained : Report) → IsSessionOf request gathered session
    → AreOneTest test other → ReportsRunsReasons session profile test why
    → Explains session profile other asked explained
    → IfWhy why.content (λ named key rules ignored. IfExplained explained.content
    (λ told. AgreesWithFilters session profile ignored rules told.runs))
why_runs_agrees request gathered session profile test other asked why explained is one_test reasons explains =
    if_why why.content _ _ (λ named key rules ignored has.
    if_explained explained.content _ _ (λ told reports.
    (let meets = meets_of session in
    let matches = matches_of session in
    let platforms = session.engines.platforms in
    let layers = session.layers.items in
    let it = has.3 in
    let chain = it.is_profile.chain in
    let rows = reported_of_one meets matches platforms (root_of session) (config_meant session) layers profile
    explains.scripts chain reports.chain test other asked told one_test
    (explained_by meets matches platforms (root_of session) (config_meant session) layers profile explains.scripts chain
    reports.chain other asked told it.is_profile.is_chain reports.is_chain reports) in
    let agrees = subst (λ b. RunsAgree layers reports.chain b rules told.runs) (sym has.2)
    (runs_agree meets matches platforms (root_of session) (config_meant session) layers profile test reasons.scripts
    explains.scripts chain reports.chain rules told (are_files request gathered session is explains.acceptance) asked
    (runs_reasons_on session profile test reasons.scripts reports.chain rules it reports.is_chain) rows) in
    record {
      decided = agrees.decided;
      undecided = agrees.undecided;
      origins = λ none. record { chain = reports.chain; is_chain = reports.is_chain; are = agrees.origins none };
    })) explains.told) reasons.told
