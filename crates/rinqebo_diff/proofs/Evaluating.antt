-- What a side that is loaded is compared by, by what its files mean.
use Rattle.std.proofs.Common.{◌≡◌, ℕ, Bool, Bor, List, [], false, map, string_bytes, subst}
use Rattle.std.specs.List.{AllZip}
use Rattle.filter_engine.specs.Compiling.{names_of}
use Rattle.filter_engine.specs.Engine.{Filter}
use Rattle.filter_language.specs.Filtersets.{marks_view}
use Rattle.nextest_inheritance.specs.Parents.{parents_in}
use Rattle.nextest_inheritance.specs.View.{borrowed_view}
use Rattle.nextest_documents.specs.Layers.{keys_view}
use Rattle.filter_inputs.specs.Lists.Lists.{ListTest}
use Rattle.filter_inputs.specs.Lists.ListView.{listed_view}
use Rattle.filter_inputs.specs.declared.lists.list.ListedBinary.{ListedBinary}
use Rattle.nextest_load.specs.Config.{ConfigModel, config_parents}
use Rattle.nextest_settings.specs.Profiles.Meaning.{profile_meaning}
use Rattle.nextest_settings.specs.Profiles.Profiles.{IsChainAndDefault}
use Rattle.nextest_tables.specs.FileTexts.{names_in, IsIn}
use Rattle.platform_language.specs.Expressions.{Spec, spec_view}
use Rattle.rinqebo_changes.specs.Changes.{is_change}
use Rattle.rinqebo_changes.specs.declared.change.TestChanges.{TestChanges}
use Rattle.rinqebo_changes.specs.declared.diff.BinaryTests.{BinaryTests}
use Rattle.rinqebo_changes.specs.declared.diff.Diff.{Diff}
use Rattle.rinqebo_request.specs.declared.files.gathering.Gathered.{Gathered}
use Rattle.rinqebo_request.specs.declared.files.layers.Layer.{Layer}
use Rattle.rinqebo_load.specs.Sessions.{readings}
use Rattle.rinqebo_report.specs.declared.origin.Source.{Source}
use Rattle.rinqebo_report.specs.declared.report.Entry.{Entry}
use Rattle.rinqebo_report.specs.declared.report.TestId.{TestId}
use Rattle.rinqebo_report.specs.declared.report.TestRows.{TestRows}
use Rattle.rinqebo_results.specs.Listed.{IsProfileOn}
use Rattle.rinqebo_results.specs.ListedBy.{read_by}
use Rattle.rinqebo_results.specs.ShownConfig.{AreShown}
use Rattle.rinqebo_changes.specs.Sides.Matched.{TestPair}
use Rattle.rinqebo_results.proofs.Listing.{given_means}
use Rattle.rinqebo_diff.specs.Compared.{AreCompared}
use Rattle.rinqebo_diff.specs.Differences.{Differs, IsCountOf, IsIdOf}
use Rattle.rinqebo_diff.specs.Evaluated.{IsEvaluated, evaluation_of, IsDiffOfLoaded}
use Rattle.rinqebo_diff.specs.Loaded.{IsLoadedSide}
use Rattle.rinqebo_diff.specs.Sides.{IsEvaluationOf}
use Rattle.rinqebo_diff.specs.declared.loaded.Loaded.{Loaded}
use Rattle.rinqebo_diff.specs.declared.request.DiffRequest.{DiffRequest}
use Rattle.rinqebo_diff.specs.declared.request.DiffSide.{DiffSide}
use Rattle.rinqebo_diff.specs.declared.sides.Evaluated.{Evaluated}

-- what a side is compared by is what its files mean
evaluation_meant : (side : DiffSide) (gathered : Gathered) (loaded : Loaded) (evaluated : Evaluated)
    → IsLoadedSide side gathered loaded → IsEvaluated loaded side.profile.now evaluated
    → IsEvaluationOf side gathered (evaluation_of loaded evaluated)
evaluation_meant side gathered loaded evaluated is by =
    let session = loaded.session in
    let engines = readings session.engines.filters in
    let profile = profile_meaning (marks_view names_of) evaluated.profile in
    let On : ConfigModel Filter Spec → Type 0 =
    λ config. IsProfileOn engines.meets session.engines.platforms (record {
      root = string_bytes session.gathered.now.paths.workspace_root;
      config = config;
      scripts = loaded.config.scripts;
    }) side.profile.now profile in
    record {
      begun = is.begun;
      acceptance = is.acceptance;
      scripts = loaded.config.scripts;
      are_scripts = is.means.scripts;
      known = subst (λ config. IsIn (names_in config.profiles) side.profile.now) is.means.means is.known;
      looked_up = is.looked_up;
      is_profile = subst On is.means.means
          (given_means (marks_view names_of) spec_view engines.meets session.engines.platforms
          (read_by session loaded.config) side.profile.now evaluated.profile by.is_profile);
      is_chain = subst (λ config. IsChainAndDefault (parents_in (config_parents config)) side.profile.now
          (borrowed_view evaluated.chain.items)) is.means.means by.is_chain;
    }

-- a diff of sides that are loaded is that of the request
pub differs_as_loaded : (request : DiffRequest) (from to : Gathered) (left right : Loaded) (diff : Diff)
    → IsLoadedSide request.from from left → IsLoadedSide request.to to right → IsDiffOfLoaded request left right diff
    → Differs request from to diff
differs_as_loaded request from to left right diff is_left is_right is = record {
  left = evaluation_of left is.left;
  right = evaluation_of right is.right;
  is_left = evaluation_meant request.from from left is.left is_left is.is_left;
  is_right = evaluation_meant request.to to right is.right is_right is.is_right;
  is_diff = is.is_diff;
}

-- tests are compared between the same sources by other names
pub compared_as : {left right : ListTest → TestRows → Type 0} {with_runs : Bool} (with_origins : Bool)
    (a b c d : List Source) (pairs : List TestPair) (changed : List TestChanges) → a ≡ b → c ≡ d
    → AreCompared left right (is_change a c with_origins) with_runs pairs changed
    → AreCompared left right (is_change b d with_origins) with_runs pairs changed
compared_as {left} {right} {with_runs} with_origins a b c d pairs changed one two are =
    subst (λ ss. AreCompared left right (is_change b ss with_origins) with_runs pairs changed) two
    (subst (λ ss. AreCompared left right (is_change ss c with_origins) with_runs pairs changed) one are)

-- binaries are counted by another name
pub counted_as : (a b : List ListedBinary) (counts : List BinaryTests) → a ≡ b
    → AllZip IsCountOf (map listed_view a) counts → AllZip IsCountOf (map listed_view b) counts
counted_as a b counts same all = subst (λ bs. AllZip IsCountOf (map listed_view bs) counts) same all

-- tests that one list has alone are named by another name
pub alone_as : (a b : List ListTest) (ids : List TestId) → a ≡ b → AllZip IsIdOf a ids → AllZip IsIdOf b ids
alone_as a b ids same all = subst (λ ts. AllZip IsIdOf ts ids) same all

-- leaves are shown in the same layers and of the same profiles by other names
pub shown_of : (files layers : List Layer) (names chain : List (Bor (List ℕ))) (entries : List Entry) → files ≡ layers
    → names ≡ chain → AreShown files (keys_view names) [] false entries
    → AreShown layers (borrowed_view chain) [] false entries
shown_of files layers names chain entries one two are =
    subst (λ ns. AreShown layers (keys_view ns) [] false entries) two
    (subst (λ fs. AreShown fs (keys_view names) [] false entries) one are)
