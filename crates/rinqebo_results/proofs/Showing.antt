-- What is reported of the leaves of a configuration.
use Rattle.std.proofs.Common.{◌≡◌, ◌<◌, ◌+◌, ◌∙◌, ℕ, List, [], ◌∷◌, ◌++◌, Bool, Bor, true, false, cond, ap, filter, get_or, length, map, MatchOption, Option, None, Some, Result, Ok, Err, IfOk, string_bytes, subst, sym, take}
use Rattle.std.proofs.lemmas.List.{append-nil, map-append, take_more}
use Rattle.std.proofs.lemmas.List.Elements.{filter-append}
use Rattle.std.proofs.lemmas.Slice.Zip.{all_zipped_more}
use Rattle.std.specs.List.{AllZip}
use Rattle.nextest_documents.specs.Entries.{Leaf, leaf_view}
use Rattle.nextest_documents.specs.Sections.{base_path}
use Rattle.nextest_documents.specs.declared.entries.LayerLeaf.{LayerLeaf as Found}
use Rattle.nextest_places.specs.declared.step.Step.{Step}
use Rattle.rinqebo_origins.specs.LeafValue.{is_tellable}
use Rattle.rinqebo_origins.specs.ReportedEntries.{IsEntryOf, step_key}
use Rattle.rinqebo_report.specs.declared.origin.FilePlace.{FilePlace}
use Rattle.rinqebo_report.specs.declared.report.Entry.{Entry}
use Rattle.filter_engine.specs.Compiling.{names_of}
use Rattle.filter_engine.specs.Engine.{Filter}
use Rattle.filter_engine.specs.declared.compiling.FieldMatcher.{FieldMatcher}
use Rattle.filter_language.specs.Filtersets.{marks_view}
use Rattle.filter_language.specs.declared.filterset.Filterset.{Filterset}
use Rattle.nextest_documents.specs.Layers.{keys_view}
use Rattle.nextest_load.specs.Config.{ConfigModel}
use Rattle.nextest_load.specs.Load.{Loaded}
use Rattle.nextest_settings.specs.Profiles.Meaning.{configured_meaning}
use Rattle.nextest_tables.specs.FileTexts.{names_in, IsIn}
use Rattle.nextest_tables.specs.Written.{Name}
use Rattle.platform_language.specs.Expressions.{Spec, spec_view}
use Rattle.platform_language.specs.declared.expression.TargetSpec.{TargetSpec}
use Rattle.rinqebo_request.specs.Files.Origins.{IsPathPlace}
use Rattle.rinqebo_request.specs.declared.files.layers.Layer.{Layer as FileLayer}
use Rattle.rinqebo_load.specs.Accepted.{AreAccepted}
use Rattle.rinqebo_load.specs.Sessions.{files_view, readings, IsLoadedFrom}
use Rattle.rinqebo_load.specs.declared.session.Session.{Session}
use Rattle.rinqebo_report.specs.declared.report.Content.{Content}
use Rattle.rinqebo_report.specs.declared.report.Report.{Report}
use Rattle.rinqebo_origins.specs.RulePlaces.{Place}
use Rattle.rinqebo_results.specs.ListedBy.{read_by}
use Rattle.rinqebo_results.specs.ShownConfig.{AreShownOf, IsShownBy, ShowsConfig, ReportsLeaf, TellLeaves, shown_status}

-- whether a leaf is reported
abbrev pub tells : Leaf → Bool
tells leaf = is_tellable leaf.value

-- a leaf is reported at the end
ended : (leaves : List Leaf) (leaf : Leaf) (b : Bool) → tells leaf ≡ b
    → filter tells (leaves ++ leaf ∷ []) ≡ filter tells leaves ++ cond b (leaf ∷ []) []
ended leaves leaf b told =
    filter-append tells leaves (leaf ∷ []) ∙ ap (λ t. filter tells leaves ++ cond t (leaf ∷ []) []) told

-- the next leaf of some
next_leaf : (found : List Found) (n m : ℕ) (leaf : Found) → n < length found → leaf ≡ get_or found n leaf → m ≡ n + 1
    → map leaf_view (take m found) ≡ map leaf_view (take n found) ++ leaf_view leaf ∷ []
next_leaf found n m leaf within at next =
    ap (λ k. map leaf_view (take k found)) next ∙ ap (map leaf_view) (take_more found n leaf within)
    ∙ map-append leaf_view (take n found) (get_or found n leaf ∷ [])
    ∙ ap (λ l. map leaf_view (take n found) ++ leaf_view l ∷ []) (sym at)

-- a leaf is reported at its place
pub leaf_reported : {E : Type 0} (layers : List FileLayer) (leaf : Leaf) (path : List Step) (place : FilePlace)
    (told : Result (Option Entry) E) → map step_key path ≡ map Some (base_path leaf.region ++ leaf.path)
    → IsPathPlace layers leaf.layer path place
    → IfOk told (λ entry. MatchOption entry (tells leaf ≡ false) (IsEntryOf leaf place))
    → IfOk told (λ entry. MatchOption entry (tells leaf ≡ false) (ReportsLeaf layers leaf))
leaf_reported layers leaf path place (Err fault) spelled there is = tt
leaf_reported layers leaf path place (Ok None) spelled there none = none
leaf_reported layers leaf path place (Ok (Some entry)) spelled there is = record {
  path = path;
  spelled = spelled;
  place = place;
  place_reported = there;
  is_entry = is;
}

-- one leaf more that is reported
pub reported_more : (layers : List FileLayer) (found : List Found) (n m : ℕ) (leaf : Found) (old new : List Entry)
    (entry : Entry) → n < length found → leaf ≡ get_or found n leaf → m ≡ n + 1
    → TellLeaves layers (map leaf_view (take n found)) old → ReportsLeaf layers (leaf_view leaf) entry
    → new ≡ old ++ entry ∷ [] → TellLeaves layers (map leaf_view (take m found)) new
reported_more layers found n m leaf old new entry within at next before is more =
    let leaves = map leaf_view (take n found) in
    let same = ap (filter tells) (next_leaf found n m leaf within at next)
    ∙ ended leaves (leaf_view leaf) true is.is_entry.value.told in
    subst (λ ls. AllZip (ReportsLeaf layers) ls new) (sym same)
    (subst (AllZip (ReportsLeaf layers) (filter tells leaves ++ leaf_view leaf ∷ [])) (sym more)
    (all_zipped_more (ReportsLeaf layers) (filter tells leaves) old (leaf_view leaf) entry before is))

-- one leaf more that is not told
pub reported_less : (layers : List FileLayer) (found : List Found) (n m : ℕ) (leaf : Found) (old new : List Entry)
    → n < length found → leaf ≡ get_or found n leaf → m ≡ n + 1 → TellLeaves layers (map leaf_view (take n found)) old
    → tells (leaf_view leaf) ≡ false → new ≡ old → TellLeaves layers (map leaf_view (take m found)) new
reported_less layers found n m leaf old new within at next before none kept =
    let leaves = map leaf_view (take n found) in
    let same = ap (filter tells) (next_leaf found n m leaf within at next)
    ∙ ended leaves (leaf_view leaf) false none ∙ append-nil (filter tells leaves) in
    subst (λ ls. AllZip (ReportsLeaf layers) ls new) (sym same)
    (subst (AllZip (ReportsLeaf layers) (filter tells leaves)) (sym kept) before)

-- what is requested of layers, a place and a chain by other names
pub shown_at : (keys : List (Bor (List ℕ))) (with_hidden : Bool) (layers others : List FileLayer)
    (chain names : List (Bor (List ℕ))) (place there : Option Place) (entries : List Entry)
    → layers ≡ others → chain ≡ names → place ≡ there
    → AreShownOf layers place (keys_view chain) (keys_view keys) with_hidden entries
    → AreShownOf others there (keys_view names) (keys_view keys) with_hidden entries
shown_at keys with_hidden layers others chain names place there entries same_layers same_chain same_place is =
    subst (λ p. AreShownOf others p (keys_view names) (keys_view keys) with_hidden entries) same_place
    (subst (λ ns. AreShownOf others place (keys_view ns) (keys_view keys) with_hidden entries) same_chain
    (subst (λ ls. AreShownOf ls place (keys_view chain) (keys_view keys) with_hidden entries) same_layers is))

-- a report shows a configuration by what was loaded
pub shows_config : (session : Session) (profile : Name) (keys : List (List ℕ)) (with_hidden : Bool) (report : Report)
    (content : Content) (loaded : Loaded (Filterset FieldMatcher) TargetSpec) (status : ℕ) → AreAccepted session
    → IsLoadedFrom (readings session.engines.filters) (files_view session.gathered.now) loaded
    → IsIn (names_in loaded.config.profiles) profile → report.content ≡ content
    → IsShownBy session (configured_meaning (marks_view names_of) spec_view (read_by session loaded)) profile keys
    with_hidden content
    → status ≡ shown_status content
    → ShowsConfig session profile keys with_hidden report status
shows_config session profile keys with_hidden report content loaded status accepted from there same is status_is =
    let Shown : Content → ConfigModel Filter Spec → Type 0 =
    λ content config. IsShownBy session (record {
      root = string_bytes session.gathered.now.paths.workspace_root;
      config = config;
      scripts = loaded.scripts;
    }) profile keys with_hidden content in
    record {
      acceptance = accepted;
      scripts = loaded.scripts;
      are_scripts = from.scripts;
      known = subst (λ config. IsIn (names_in config.profiles) profile) from.means there;
      shown = subst (Shown report.content) from.means
          (subst (λ content. IsShownBy session
          (configured_meaning (marks_view names_of) spec_view (read_by session loaded)) profile keys with_hidden content)
          (sym same) is);
      status_is = status_is ∙ ap shown_status (sym same);
    }
