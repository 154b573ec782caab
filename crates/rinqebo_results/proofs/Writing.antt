-- Lists that are written as their tests are asked.
use Rattle.std.proofs.Common.{◌≡◌, ◌∙◌, ◌⊎◌, ◌<◌, ◌^◌, inl, inr, ℕ, List, [], ◌∷◌, ◌++◌, Option, None, ap, arith, flat_map, length, map, refl, string_bytes, subst, sym, take}
use Rattle.std.proofs.KnownBytes.{Appends-nil, Appends-trans}
use Rattle.std.proofs.lemmas.Grind.{flat_map-append}
use Rattle.std.proofs.lemmas.List.{append-nil, take-map, take_all}
use Rattle.std.proofs.lemmas.Slice.Zip.{AllZip-long}
use Rattle.std.specs.Io.KnownBytes.{Appends}
use Rattle.std.specs.List.{AllZip}
use Rattle.std.specs.declared.alloc.Global.{Global}
use Rattle.std.specs.declared.vec.Vec.{Vec}
use Rattle.filter_language.specs.Filtersets.{marks_view}
use Rattle.filter_language.specs.declared.filterset.Filterset.{Filterset}
use Rattle.nextest_elements.specs.declared.run_mode.NextestRunMode.{NextestRunMode}
use Rattle.filter_engine.specs.Compiling.{names_of}
use Rattle.filter_engine.specs.Engine.{Filter, filter_holds, filter_holds_binary}
use Rattle.filter_engine.specs.declared.compiling.FieldMatcher.{FieldMatcher}
use Rattle.nextest_inheritance.specs.Parents.{parents_in}
use Rattle.nextest_load.specs.Config.{ConfigModel, config_parents}
use Rattle.nextest_load.specs.Load.{Loaded}
use Rattle.nextest_settings.specs.Profiles.Meaning.{profile_meaning}
use Rattle.nextest_settings.specs.Profiles.Profiles.{IsChainAndDefault}
use Rattle.nextest_settings.specs.Profile.{EvaluatableModel}
use Rattle.nextest_settings.specs.Queries.{query_in}
use Rattle.nextest_tables.specs.FileTexts.{names_in, IsIn}
use Rattle.nextest_tables.specs.Written.{Name}
use Rattle.rinqebo_request.specs.declared.files.gathering.Gathered.{Gathered}
use Rattle.rinqebo_origins.specs.TestOrigins.{Basis}
use Rattle.rinqebo_rules.specs.Rows.{AreTestsReported, IsTestReported}
use Rattle.rinqebo_rules.specs.Scripts.{AreScriptsReported}
use Rattle.rinqebo_rules.specs.Unused.{AreUnusedIn}
use Rattle.rinqebo_rules.specs.declared.unused.UnusedRules.{UnusedRules}
use Rattle.rinqebo_report.specs.Headers.{list_head_runs}
use Rattle.rinqebo_report.specs.Pages.{list_end_runs, list_runs, listed_runs}
use Rattle.rinqebo_report.specs.Pieces.{painted, page_text}
use Rattle.rinqebo_report.specs.Rendered.{rendered}
use Rattle.rinqebo_report.specs.declared.format.Format.TheVariants as formats
use Rattle.rinqebo_report.specs.declared.origin.Origin.{Origin}
use Rattle.rinqebo_report.specs.declared.layout.Paper.{Paper}
use Rattle.rinqebo_report.specs.declared.report.Asked.{Asked}
use Rattle.rinqebo_report.specs.declared.report.Content.{Content}
use Rattle.rinqebo_report.specs.declared.report.Content.TheVariants as contents
use Rattle.rinqebo_report.specs.declared.report.ListScripts.{ListScripts}
use Rattle.rinqebo_report.specs.declared.report.Report.{Report}
use Rattle.rinqebo_report.specs.declared.report.TestRows.{TestRows}
use Rattle.rinqebo_request.specs.declared.request.RequestedSettings.{RequestedSettings}
use Rattle.rinqebo_request.specs.declared.request.Question.{Question}
use Rattle.rinqebo_request.specs.declared.request.Question.TheVariants as questions
use Rattle.rinqebo_request.specs.declared.request.Request.{Request}
use Rattle.platform_language.specs.Expressions.{Spec, spec_view}
use Rattle.platform_language.specs.declared.expression.TargetSpec.{TargetSpec}
use Rattle.filter_inputs.specs.Lists.ListView.{list_test_view, list_view}
use Rattle.filter_inputs.specs.Lists.Lists.{ListTest, all_binaries, all_tests, list_tests}
use Rattle.filter_inputs.specs.declared.lists.list.ListedTest.{ListedTest}
use Rattle.rinqebo_results.proofs.Documents.{text_or_json}
use Rattle.rinqebo_results.proofs.Listing.{given_means, listed_here, tells_tests, zip_mapped}
use Rattle.rinqebo_results.proofs.Refused.{failure_reported}
use Rattle.rinqebo_results.proofs.Statuses.{failed_silent, failed_status}
use Rattle.rinqebo_results.proofs.Stops.{stops_so}
use Rattle.rinqebo_results.specs.Answered.{AnswersQuestion, Reports}
use Rattle.rinqebo_results.specs.Begun.{tests_text, AreFirstOf, AreFirstWritten, AreWritten, BeginsList, BeginsPage, IsBegun}
use Rattle.rinqebo_load.specs.Accepted.{AreAccepted}
use Rattle.rinqebo_rules.specs.Conditions.{is_met_by}
use Rattle.rinqebo_results.specs.Listed.{IsProfileOn, ReportsTests}
use Rattle.rinqebo_results.specs.ListedBy.{basis_of, places_of, read_by}
use Rattle.rinqebo_results.specs.Requested.{IsRequestedOf}
use Rattle.rinqebo_results.specs.Refused.{Fails, IsFailureIn, IsReportedBy}
use Rattle.rinqebo_results.specs.LookedUp.{AreLookedUp, IsFailureOn, IsLookedUp}
use Rattle.rinqebo_load.specs.SessionOf.{IsSessionOf}
use Rattle.rinqebo_load.specs.Sessions.{files_view, readings, IsLoadedFrom}
use Rattle.rinqebo_results.specs.Statuses.{IsAnswerStatus, IsStatus}
use Rattle.rinqebo_checks.specs.Reports.{IsReportOf}
use Rattle.rinqebo_results.specs.Written.{AreFirstBy, AsksList, EndsPage, HasPage, IsStopStatus, StopsList, WritesList, WritesPage, WritesRest}
use Rattle.rinqebo_load.specs.declared.failure.Failure.{Failure}
use Rattle.rinqebo_load.specs.declared.failure.Failure.TheVariants as failures
use Rattle.rinqebo_results.specs.declared.list_stop.ListStop.{ListStop}
use Rattle.rinqebo_results.specs.declared.list_stop.ListStop.TheVariants as faults
use Rattle.rinqebo_results.specs.declared.list_page.RequestedList.{RequestedList}
use Rattle.rinqebo_load.specs.declared.session.Session.{Session}
use Rattle.rinqebo_results.specs.Warned.{ShowsWarnings}
use Rattle.rinqebo_load.specs.Warned.{warnings_met}
use Rattle.nextest_sources.specs.Warnings.{Warning}

-- the lines of tests, and those of one more
pub tests_text-push : (head : Report) (paper : Paper) (tests : List TestRows) (rows : TestRows)
    → tests_text head paper (tests ++ rows ∷ [])
    ≡ tests_text head paper tests ++ page_text paper.colour (listed_runs paper.columns (string_bytes head.root) head.sources.items rows)
tests_text-push head paper tests rows =
    let lines = listed_runs paper.columns (string_bytes head.root) head.sources.items in
    ap (page_text paper.colour)
    (flat_map-append lines tests (rows ∷ []) ∙ ap (λ rs. flat_map lines tests ++ rs) (append-nil (lines rows)))
    ∙ flat_map-append (painted paper.colour) (flat_map lines tests) (lines rows)

-- one more test went out
pub one_more : (head : Report) (paper : Paper) (tests more : List TestRows) (rows : TestRows) (lines : List ℕ)
    (old mid new : Option (List ℕ)) → more ≡ tests ++ rows ∷ []
    → lines ≡ page_text paper.colour (listed_runs paper.columns (string_bytes head.root) head.sources.items rows)
    → Appends old mid (tests_text head paper tests) → Appends mid new lines
    → Appends old new (tests_text head paper more)
one_more head paper tests more rows lines old mid new are shown before after =
    subst (Appends old new)
    (ap (λ text. tests_text head paper tests ++ text) shown ∙ sym (tests_text-push head paper tests rows)
    ∙ ap (tests_text head paper) (sym are))
    (Appends-trans old mid new (tests_text head paper tests) lines before after)

-- what is asked went out, then the tests, and then what is behind them
pub whole_page : (head : Report) (paper : Paper) (asked : Asked) (tests : List TestRows) (unused : List Origin)
    (count : ℕ) (old first mid new : Option (List ℕ)) → count ≡ length tests
    → Appends old first (page_text paper.colour (list_head_runs paper.columns asked))
    → Appends first mid (tests_text head paper tests)
    → Appends mid new (page_text paper.colour (list_end_runs paper.columns (string_bytes head.root) head.sources.items count unused))
    → Appends old new (page_text paper.colour (list_runs paper.columns (string_bytes head.root) head.sources.items asked tests unused))
whole_page head paper asked tests unused count old first mid new all header before after =
    let root = string_bytes head.root in
    let sources = head.sources.items in
    let lines = flat_map (listed_runs paper.columns root sources) tests in
    let ending : ℕ → List ℕ = λ n. page_text paper.colour (list_end_runs paper.columns root sources n unused) in
    let opening = page_text paper.colour (list_head_runs paper.columns asked) in
    subst (Appends old new)
    (ap (λ n. opening ++ (tests_text head paper tests ++ ending n)) all
    ∙ ap (λ text. opening ++ text)
    (sym (flat_map-append (painted paper.colour) lines (list_end_runs paper.columns root sources (length tests) unused)))
    ∙ sym (flat_map-append (painted paper.colour) (list_head_runs paper.columns asked)
    (lines ++ list_end_runs paper.columns root sources (length tests) unused)))
    (Appends-trans old first new opening (tests_text head paper tests ++ ending count) header
    (Appends-trans first mid new (tests_text head paper tests) (ending count) before after))

-- the tests so far went out
pub first_so_far : (basis : Basis) (mode : NextestRunMode) (profile : EvaluatableModel Filter) (asked : RequestedSettings)
    (head : Report) (paper : Paper) (listed : List ListedTest) (i : ℕ) (tests : List TestRows)
    (old new : Option (List ℕ))
    → AllZip (λ test. IsTestReported basis (query_in filter_holds profile (list_test_view test).test) mode profile asked
    (list_test_view test)) (take i listed) tests
    → Appends old new (tests_text head paper tests)
    → AreFirstWritten basis filter_holds mode profile asked (map list_test_view listed) head paper old new
first_so_far basis mode profile asked head paper listed i tests old new told page =
    let Told : ListTest → TestRows → Type 0 =
    λ t. IsTestReported basis (query_in filter_holds profile t.test) mode profile asked t in
    record {
      count = i;
      tests = tests;
      are_reported = subst (λ list. AllZip Told list tests) (sym (take-map list_test_view i listed))
          (zip_mapped list_test_view Told (take i listed) tests told);
      page = page;
    }

-- all tests went out
pub all_first : (basis : Basis) (mode : NextestRunMode) (profile : EvaluatableModel Filter) (asked : RequestedSettings)
    (head : Report) (paper : Paper) (list : List ListTest) (old new : Option (List ℕ))
    → AreWritten basis filter_holds mode profile asked list head paper old new
    → AreFirstWritten basis filter_holds mode profile asked list head paper old new
all_first basis mode profile asked head paper list old new written = record {
  count = length list;
  tests = written.tests;
  are_reported = subst (λ first. AreTestsReported basis filter_holds mode profile asked first written.tests)
      (sym (take_all (length list) list (omega arith))) written.are_reported;
  page = written.page;
}

-- no test went out yet
pub none_first : (basis : Basis) (mode : NextestRunMode) (profile : EvaluatableModel Filter) (asked : RequestedSettings)
    (head : Report) (paper : Paper) (list : List ListTest) (old new : Option (List ℕ)) → old ≡ new
    → AreFirstWritten basis filter_holds mode profile asked list head paper old new
none_first basis mode profile asked head paper list old new same = record {
  count = 0;
  tests = [];
  are_reported = tt;
  page = subst (λ bytes. Appends old bytes []) same (Appends-nil old);
}

-- what is asked and the first tests went out by a configuration that was loaded
pub first_here : (session : Session) (loaded : Loaded (Filterset FieldMatcher) TargetSpec) (name : Name)
    (mode : NextestRunMode) (asked : RequestedSettings) (on : EvaluatableModel (Filterset FieldMatcher))
    (chain : List Name) (header : Asked) (head : Report) (paper : Paper) (old mid new : Option (List ℕ))
    → IsProfileOn is_met_by session.engines.platforms (read_by session loaded) name on
    → IsChainAndDefault (parents_in (config_parents loaded.config)) name chain
    → IsRequestedOf session name mode chain header → Appends old mid (page_text paper.colour (list_head_runs paper.columns header))
    → AreFirstWritten (basis_of session chain) filter_holds mode (profile_meaning (marks_view names_of) on) asked
    (list_tests (list_view session.tests)) head paper mid new
    → AreFirstBy session loaded name mode asked paper old new
first_here session loaded name mode asked on chain header head paper old mid new is ends is_asked opening first = record {
  head = head;
  profile = profile_meaning (marks_view names_of) on;
  is_profile = given_means (marks_view names_of) spec_view (readings session.engines.filters).meets
      session.engines.platforms (read_by session loaded) name on is;
  chain = chain;
  is_chain = ends;
  header = header;
  is_asked = is_asked;
  count = first.count;
  tests = first.tests;
  are_reported = first.are_reported;
  page = Appends-trans old mid new (page_text paper.colour (list_head_runs paper.columns header))
      (tests_text head paper first.tests) opening first.page;
}

-- the tests went out, and then what is behind them
pub rest_here : (session : Session) (chain : List Name) (profile : EvaluatableModel Filter) (mode : NextestRunMode)
    (asked : RequestedSettings) (head : Report) (paper : Paper) (rules : UnusedRules) (scripts : ListScripts) (count : ℕ)
    (old tested new : Option (List ℕ))
    → AreWritten (basis_of session chain) filter_holds mode profile asked (list_tests (list_view session.tests)) head paper
    old tested
    → count ≡ length (list_tests (list_view session.tests)) → count < 2 ^ 63
    → AreUnusedIn (map (query_in filter_holds profile) (all_tests (list_view session.tests))) profile rules
    → AreScriptsReported filter_holds filter_holds_binary profile (all_tests (list_view session.tests))
    (all_binaries (list_view session.tests)) scripts
    → EndsPage session head paper count (places_of rules) tested new
    → WritesRest session chain profile mode asked head paper old new
rest_here session chain profile mode asked head paper rules scripts count old tested new written counted fits unused
    scripted end = record {
      tested = tested;
      tests = written;
      count = count;
      counted = counted;
      fits = fits;
      rules = rules;
      are_unused = unused;
      scripts = scripts;
      are_scripts = scripted;
      end = end;
    }

-- the page of a list, where the tests and what is behind them followed the header
pub page_here : (session : Session) (loaded : Loaded (Filterset FieldMatcher) TargetSpec) (name : Name)
    (mode : NextestRunMode) (asked : RequestedSettings) (on : EvaluatableModel (Filterset FieldMatcher))
    (chain : List Name) (header : Asked) (head : Report) (paper : Paper) (old mid whole : Option (List ℕ))
    → IsProfileOn is_met_by session.engines.platforms (read_by session loaded) name on
    → IsChainAndDefault (parents_in (config_parents loaded.config)) name chain
    → IsRequestedOf session name mode chain header → Appends old mid (page_text paper.colour (list_head_runs paper.columns header))
    → WritesRest session chain (profile_meaning (marks_view names_of) on) mode asked head paper mid whole
    → WritesPage session loaded name mode asked head paper old whole
page_here session loaded name mode asked on chain header head paper old mid whole is ends is_asked opening rest =
    let written = rest.tests in
    let long : length (list_tests (list_view session.tests)) ≡ length written.tests =
    sym (AllZip-long _ (list_tests (list_view session.tests)) written.tests written.are_reported) in
    let all : rest.count ≡ length written.tests = rest.counted ∙ long in
    record {
      tests = written.tests;
      fit = subst (λ n. n < 2 ^ 63) all rest.fits;
      unused = rest.end.unused;
      scripts = rest.scripts;
      told = listed_here session loaded name mode asked on chain chain rest.rules written.tests rest.end.unused.items
          rest.scripts None is ends refl written.are_reported rest.are_unused rest.end.are_origins rest.are_scripts tt;
      chain = chain;
      is_chain = ends;
      header = header;
      requested = is_asked;
      page = whole_page head paper header written.tests rest.end.unused.items rest.count old mid rest.tested whole all
          opening written.page rest.end.page;
    }

-- the page of a list was begun by what was loaded
pub begins_list : (session : Session) (profile : Name) (mode : NextestRunMode) (asked : RequestedSettings) (paper : Paper)
    (loaded : Loaded (Filterset FieldMatcher) TargetSpec) (old new : Option (List ℕ)) → AreAccepted session
    → IsLoadedFrom (readings session.engines.filters) (files_view session.gathered.now) loaded
    → IsIn (names_in loaded.config.profiles) profile → AreFirstBy session loaded profile mode asked paper old new
    → BeginsList session profile mode asked paper old new
begins_list session profile mode asked paper loaded old new accepted from there first =
    let engines = readings session.engines.filters in
    let First : ConfigModel Filter Spec → Type 0 =
    λ config. AreFirstOf engines.meets engines.matches_test session.engines.platforms
    (record {
      root = string_bytes session.gathered.now.paths.workspace_root;
      config = config;
      scripts = loaded.scripts;
    }) profile mode (IsRequestedOf session profile mode) asked session.layers.items
    (list_tests (list_view session.tests)) paper old new in
    record {
      acceptance = accepted;
      scripts = loaded.scripts;
      are_scripts = from.scripts;
      known = subst (λ config. IsIn (names_in config.profiles) profile) from.means there;
      first = subst First from.means first;
    }

-- the page of a list went out under the header of a report of a session
pub has_page : (session : Session) (loaded : Loaded (Filterset FieldMatcher) TargetSpec) (warnings : List Warning)
    (profile : Name) (mode : NextestRunMode) (asked : RequestedSettings) (head : Report) (paper : Paper)
    (old new : Option (List ℕ)) → IsReportOf session head
    → ShowsWarnings session.layers.items warnings head.findings.items
    → WritesPage session loaded profile mode asked head paper old new
    → HasPage session loaded warnings profile mode asked paper old new
has_page session loaded warnings profile mode asked head paper old new about warned writes =
    record { head = head; about = about; warned = warned; writes = writes }

-- a list of values in the room of another one
vec_of : {A B Z : Type 0} (room : Vec B Z) (xs : List A) → length xs < 2 ^ 63 → Vec A Z
vec_of room xs fit = record {
  ptr = room.ptr;
  len = length xs;
  cap = length xs;
  alloc = room.alloc;
  items = xs;
  ok = (refl, omega arith);
  small = fit;
}

-- what a report lists whose page went out
abbrev content_of : Asked → (tests : List TestRows) → length tests < 2 ^ 63 → Vec Origin Global → ListScripts → Content
content_of header tests fit unused scripts = contents.List header (vec_of unused tests fit) unused scripts None

-- the page of a list went out by what was loaded
pub writes_list : (session : Session) (profile : Name) (mode : NextestRunMode) (asked : RequestedSettings) (paper : Paper)
    (loaded : Loaded (Filterset FieldMatcher) TargetSpec) (warnings : List Warning) (old new : Option (List ℕ))
    → warnings ≡ warnings_met session → AreAccepted session
    → IsLoadedFrom (readings session.engines.filters) (files_view session.gathered.now) loaded
    → IsIn (names_in loaded.config.profiles) profile → IsLookedUp session profile
    → HasPage session loaded warnings profile mode asked paper old new
    → WritesList session profile mode asked paper old new
unfolding vec_of
writes_list session profile mode asked paper loaded warnings old new met accepted from there looked page =
    let head = page.head in
    let writes = page.writes in
    let content = content_of writes.header writes.tests writes.fit writes.unused writes.scripts in
    record {
      report = record head { content = content };
      about = record { request = page.about.request; root = page.about.root; sources = page.about.sources };
      warned = subst (λ ws. ShowsWarnings session.layers.items ws head.findings.items) met page.warned;
      tells = tells_tests session profile mode asked (record head { content = content }) content loaded accepted from there
          refl writes.told (record { chain = writes.chain; is_chain = writes.is_chain; requested = writes.requested });
      looked_up = looked;
      page = writes.page;
    }

-- a question that asks for a list is answered by what tells its tests
answers_list : (q : Question) (list : RequestedList) (session : Session) (report : Report) → AsksList q list
    → ReportsTests session list.profile.now list.mode list.settings.now report → AnswersQuestion q session report 0
answers_list (questions.List profile mode file settings) list session report asks tells = (
  refl,
  subst (λ p. ReportsTests session p mode settings report) asks.0
      (subst (λ m. ReportsTests session list.profile.now m settings report) asks.1
      (subst (λ s. ReportsTests session list.profile.now list.mode s report) asks.2 tells)),
)
answers_list _ list session report asks tells = absurd asks

-- each filter was looked up that is evaluated for a list
looked_list : (q : Question) (list : RequestedList) (session : Session) → AsksList q list
    → IsLookedUp session list.profile.now → AreLookedUp session q
looked_list (questions.List profile mode file settings) list session asks looked =
    subst (λ p. IsLookedUp session p) asks.0 looked
looked_list _ list session asks looked = absurd asks

begins_page : (q : Question) (list : RequestedList) (session : Session) (paper : Paper) (old new : Option (List ℕ))
    → AsksList q list
    → BeginsList session list.profile.now list.mode list.settings.now paper old new
    → BeginsPage q session paper old new
begins_page (questions.List profile mode file settings) list session paper old new asks begins =
    subst (λ p. BeginsList session p mode settings paper old new) asks.0
    (subst (λ m. BeginsList session list.profile.now m settings paper old new) asks.1
    (subst (λ s. BeginsList session list.profile.now list.mode s paper old new) asks.2 begins))
begins_page _ list session paper old new asks begins = absurd asks

fails_about : (q : Question) (list : RequestedList) (session : Session) (failure : Failure) → AsksList q list
    → IsFailureOn session list.profile.now failure → IsFailureIn session q failure
fails_about (questions.List profile mode file settings) list session failure asks cause =
    subst (λ p. IsFailureOn session p failure) asks.0 cause
fails_about _ list session failure asks cause = absurd asks

-- status 0 answers a question that asks for a list
pub zero_answers : (q : Question) (list : RequestedList) → AsksList q list → IsAnswerStatus q 0
zero_answers (questions.List profile mode file settings) list asks = refl
zero_answers _ list asks = absurd asks

-- a list of a session that went out whole answers the request
pub list_reported : (request : Request) (gathered : Gathered) (list : RequestedList) (session : Session)
    (old new : Option (List ℕ)) → IsSessionOf request gathered session → AsksList request.question list
    → request.format ≡ formats.Text
    → WritesList session list.profile.now list.mode list.settings.now request.paper old new
    → Reports request gathered 0 old new
list_reported request gathered list session old new begun asks is_text writes = record {
  report = writes.report;
  is_answer = record {
    session = session;
    begun = begun;
    about = writes.about;
    warned = inr writes.warned;
    answers = answers_list request.question list session writes.report asks writes.tells;
    looked_up = looked_list request.question list session asks writes.looked_up;
    objects = text_or_json request.format is_text;
  };
  page = subst (λ format. Appends old new (rendered writes.report format request.paper)) (sym is_text) writes.page;
}

-- why a list of a session was not written whole is why that of the request was not
pub list_stopped : (request : Request) (gathered : Gathered) (list : RequestedList) (session : Session)
    (old new : Option (List ℕ)) (fault : ListStop) → IsSessionOf request gathered session
    → AsksList request.question list → request.format ≡ formats.Text
    → StopsList (IsFailureOn session list.profile.now)
    (BeginsList session list.profile.now list.mode list.settings.now request.paper old)
    (WritesList session list.profile.now list.mode list.settings.now request.paper old) old new fault
    → StopsList (Fails request gathered) (IsBegun request gathered old) (Reports request gathered 0 old) old new fault
list_stopped request gathered list session old new fault begun asks is_text stop =
    stops_so (IsFailureOn session list.profile.now) (Fails request gathered)
    (BeginsList session list.profile.now list.mode list.settings.now request.paper old)
    (IsBegun request gathered old)
    (WritesList session list.profile.now list.mode list.settings.now request.paper old)
    (Reports request gathered 0 old) old new fault
    (λ failure cause. inr (record {
      session = session;
      begun = begun;
      cause = fails_about request.question list session failure asks cause;
    }))
    (λ whole begins. record {
      session = session;
      of_request = begun;
      is_text = is_text;
      page = begins_page request.question list session request.paper old whole asks begins;
    })
    (λ whole writes. inr (list_reported request gathered list session old whole begun asks is_text writes)) stop

-- what a run ends with whose list was not written whole is a status
pub stop_status : (q : Question) (fault : ListStop) (n : ℕ) → IsStopStatus fault n → IsStatus q n
stop_status q (faults.Refused failure) n ends = failed_status q failure n ends
stop_status q faults.Memory n ends = failed_status q failures.Memory n (inr ends)
stop_status q faults.Write n ends = failed_status q failures.Memory n (inr (inr ends))

-- what went out of a list that was not written whole
pub stop_quiet : (request : Request) (gathered : Gathered) (old new : Option (List ℕ)) (fault : ListStop) (n : ℕ)
    → StopsList (Fails request gathered) (IsBegun request gathered old) (Reports request gathered 0 old) old new fault → IsStopStatus fault n
    → IsAnswerStatus request.question n ⊎ (n ≡ 6) ⊎ (new ≡ old) ⊎ ((n ≡ 5) × IsBegun request gathered old new)
stop_quiet request gathered old new (faults.Refused failure) n stop ends = inr (inr (inl stop.1))
stop_quiet request gathered old new faults.Memory n (inl begun) (inl five) = inr (inr (inr (five, begun)))
stop_quiet request gathered old new faults.Memory n (inl begun) (inr six) = inr (inl six)
stop_quiet request gathered old new faults.Memory n (inr same) ends = inr (inr (inl same))
stop_quiet request gathered old new faults.Write n stop ends = inr (inl ends)

-- a list that was not written whole has no status of an answer
pub stop_silent : {X : Type 0} (request : Request) (gathered : Gathered) (old new : Option (List ℕ))
    (fault : ListStop) (n : ℕ)
    → StopsList (Fails request gathered) (IsBegun request gathered old) (Reports request gathered 0 old) old new fault → IsStopStatus fault n
    → IsAnswerStatus request.question n → X
stop_silent request gathered old new (faults.Refused failure) n stop ends is =
    failed_silent request gathered failure n stop.0 ends is
stop_silent request gathered old new faults.Memory n stop ends is =
    failed_silent request gathered failures.Memory n (inl tt) (inr ends) is
stop_silent request gathered old new faults.Write n stop ends is =
    failed_silent request gathered failures.Memory n (inl tt) (inr (inr ends)) is

-- the status of a run whose list was not written whole tells of files
pub stop_reported : (request : Request) (gathered : Gathered) (old new : Option (List ℕ)) (fault : ListStop) (n : ℕ)
    → StopsList (Fails request gathered) (IsBegun request gathered old) (Reports request gathered 0 old) old new fault → IsStopStatus fault n
    → IsReportedBy request gathered n
stop_reported request gathered old new (faults.Refused failure) n stop ends =
    failure_reported request gathered failure n stop.0 ends
stop_reported request gathered old new faults.Memory n stop ends =
    failure_reported request gathered failures.Memory n (inl tt) (inr ends)
stop_reported request gathered old new faults.Write n stop ends =
    failure_reported request gathered failures.Memory n (inl tt) (inr (inr ends))
