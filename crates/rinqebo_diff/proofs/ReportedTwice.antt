-- What a side reports of a test is the same each time.
use Rattle.std.proofs.Common.{◌≡◌, ◌∙◌, ℕ, Bool, true, false, cond, List, [], ◌∷◌, ◌++◌, Option, None, Some, codes, option_map, map, string_bytes, refl, sym, ap}
use Rattle.std.specs.List.{AllZip}
use Rattle.nextest_elements.specs.declared.run_mode.NextestRunMode.{NextestRunMode}
use Rattle.filter_inputs.specs.Lists.Lists.{ListTest}
use Rattle.rinqebo_report.specs.declared.origin.Source.{Source}
use Rattle.rinqebo_report.specs.declared.report.SettingRow.{SettingRow}
use Rattle.rinqebo_report.specs.declared.report.TestRows.{TestRows}
use Rattle.rinqebo_report.specs.declared.value.Scalar.{Scalar}
use Rattle.rinqebo_report.specs.declared.value.Scalar.TheVariants as scalars
use Rattle.rinqebo_report.specs.declared.value.TableMember.{TableMember}
use Rattle.rinqebo_report.specs.declared.value.Value.{Value}
use Rattle.rinqebo_report.specs.declared.value.Value.TheVariants as values
use Rattle.rinqebo_request.specs.declared.request.RequestedSettings.{RequestedSettings}
use Rattle.nextest_settings.specs.Queries.{query_in, setting_origin}
use Rattle.rinqebo_keys.specs.Keys.{key_name, key_table}
use Rattle.rinqebo_load.specs.Sessions.{readings}
use Rattle.rinqebo_origins.specs.Reported as shown
use Rattle.rinqebo_origins.specs.TestOrigins.{wrapping_id}
use Rattle.rinqebo_rules.specs.Runs.{filtering_place}
use Rattle.rinqebo_changes.specs.Changes.{rows_in, runs_in, side_row}
use Rattle.rinqebo_changes.specs.SourceViews.{from_list, from_origins, owned_view}
use Rattle.rinqebo_changes.specs.ValueViews as plain
use Rattle.rinqebo_changes.specs.declared.change.SideRow.{SideRow}
use Rattle.rinqebo_diff.specs.Asked.{compares_runs}
use Rattle.rinqebo_diff.specs.Differences.{SideReports}
use Rattle.rinqebo_diff.specs.Sides.{Evaluation}
use Rattle.rinqebo_diff.specs.TurnedSides.{ComeAlike, SaySame}
use Rattle.rinqebo_diff.proofs.OneOrigins.{AreFiles, AreSources, decided_alike, placed_alike}
use Rattle.rinqebo_diff.proofs.TurnedTests.{IsSteady}

-- a reported value without how it is kept
abbrev plain_scalar : shown.ReportedScalar → plain.PlainScalar
plain_scalar (shown.boolean b) = plain.boolean b
plain_scalar (shown.integer n) = plain.integer n
plain_scalar (shown.text t) = plain.text t
plain_scalar (shown.duration n) = plain.duration n

abbrev plain_field : shown.ReportedField → List ℕ × plain.PlainScalar
plain_field f = (f.key, plain_scalar f.value)

abbrev plain_value : shown.ReportedValue → plain.PlainValue
plain_value (shown.scalar s) = plain.scalar (plain_scalar s)
plain_value (shown.texts ts) = plain.texts ts
plain_value (shown.table fs) = plain.table (map plain_field fs)

scalar_plain : (s : Scalar) → plain_scalar (shown.scalar_view s) ≡ plain.scalar_view s
scalar_plain (scalars.Boolean b) = refl
scalar_plain (scalars.Integer n) = refl
scalar_plain (scalars.Text t) = refl
scalar_plain (scalars.Duration d) = refl

fields_plain : (fs : List TableMember) → map plain_field (map shown.field_view fs) ≡ map plain.member_view fs
fields_plain [] = refl
fields_plain (f ∷ fs) = λ i. (string_bytes f.key, scalar_plain f.value i) ∷ fields_plain fs i

value_plain : (v : Value) → plain_value (shown.value_view v) ≡ plain.value_view v
value_plain (values.Scalar s) = ap plain.scalar (scalar_plain s)
value_plain (values.Texts ts) = refl
value_plain (values.Table fs) = ap plain.table (fields_plain fs.items)

setting_plain : (v : Option Value) → option_map plain_value (option_map shown.value_view v) ≡ option_map plain.value_view v
setting_plain None = refl
setting_plain (Some v) = ap Some (value_plain v)

-- values that are reported alike are the same
values_same : (a b : Option Value) → option_map shown.value_view a ≡ option_map shown.value_view b
    → option_map plain.value_view a ≡ option_map plain.value_view b
values_same a b alike = sym (setting_plain a) ∙ ap (option_map plain_value) alike ∙ setting_plain b

-- what is reported twice of the same is one by one alike
beside_each : {S : Type 0} (R : S → SettingRow → Type 0) (Alike : SideRow → SideRow → Type 0) (ss : List S)
    (xs ys : List SettingRow) → ((s : S) (x y : SettingRow) → R s x → R s y → Alike (side_row x) (side_row y))
    → AllZip R ss xs → AllZip R ss ys → AllZip Alike (map side_row xs) (map side_row ys)
beside_each R Alike [] [] [] same one two = tt
beside_each R Alike [] [] (y ∷ ys) same one two = absurd two
beside_each R Alike [] (x ∷ xs) ys same one two = absurd one
beside_each R Alike (s ∷ ss) [] ys same one two = absurd one
beside_each R Alike (s ∷ ss) (x ∷ xs) [] same one two = absurd two
beside_each R Alike (s ∷ ss) (x ∷ xs) (y ∷ ys) same one two =
    (same s x y one.0 two.0, beside_each R Alike ss xs ys same one.1 two.1)

with_first : (Alike : SideRow → SideRow → Type 0) (with_runs : Bool) (a b : SideRow) (xs ys : List SideRow) → Alike a b
    → AllZip Alike xs ys → AllZip Alike (runs_in with_runs a ++ xs) (runs_in with_runs b ++ ys)
with_first Alike true a b xs ys same all = (same, all)
with_first Alike false a b xs ys same all = all

-- the row of whether a test runs
abbrev run_row : TestRows → SideRow
run_row rows = record { row = rows.runs; is_ignored = rows.is_ignored }

module _ (side : Evaluation) (mode : NextestRunMode) (asked : RequestedSettings) (t : ListTest) (a b : TestRows)
    (one : SideReports side mode asked t a) (two : SideReports side mode asked t b) where
  -- whether a test runs is reported twice alike
  runs_same : SaySame (run_row a) (run_row b)
  runs_same = record {
    key = one.run_reported.key ∙ sym two.run_reported.key;
    value = values_same a.runs.value b.runs.value (one.run_reported.value_reported ∙ sym two.run_reported.value_reported);
    ignored = one.ignored_reported ∙ sym two.ignored_reported;
  }

  -- a side reports a test twice with the same values
  pub reported_twice : (with_runs : Bool) → AllZip SaySame (rows_in with_runs a) (rows_in with_runs b)
  reported_twice with_runs =
      with_first SaySame with_runs (run_row a) (run_row b) (map side_row a.settings.items) (map side_row b.settings.items)
      runs_same
      (beside_each _ SaySame _ a.settings.items b.settings.items
      (λ s x y is are. record {
        key = is.key ∙ sym are.key;
        value = values_same x.value y.value (is.value_reported ∙ sym are.value_reported);
        ignored = refl;
      })
      one.settings_reported two.settings_reported)

  module _ (files others : List Source) (own : AreSources side.session.layers.items files)
      (other : AreSources side.session.layers.items others) (are_files : AreFiles side.session.layers.items) where
    -- and its values come from the same
    pub alike_twice : (with_runs : Bool)
        → AllZip (ComeAlike files others) (rows_in with_runs a) (rows_in with_runs b)
    alike_twice with_runs =
        let layers = side.session.layers.items in
        let query = query_in (readings side.session.engines.filters).matches_test side.profile t.test in
        let origins : map (owned_view files) a.runs.origins.items ≡ map (owned_view others) b.runs.origins.items =
        placed_alike layers files others own other are_files side.chain (filtering_place side.profile) None (codes "default-filter")
        a.runs.origins.items b.runs.origins.items one.run_reported.origins_reported two.run_reported.origins_reported in
        with_first (ComeAlike files others) with_runs (run_row a) (run_row b) (map side_row a.settings.items)
        (map side_row b.settings.items)
        (record {
          said = runs_same;
          source = λ i. cond (runs_same.ignored i) from_list (from_origins (origins i));
        })
        (beside_each _ (ComeAlike files others) _ a.settings.items b.settings.items
        (λ s x y is are. record {
          said = record {
            key = is.key ∙ sym are.key;
            value = values_same x.value y.value (is.value_reported ∙ sym are.value_reported);
            ignored = refl;
          };
          source = ap from_origins
              (decided_alike layers files others own other are_files side.chain (wrapping_id query side.profile)
              (key_table s mode) (key_name s) (setting_origin query mode side.profile s) x.origins.items
              y.origins.items is.origins_reported are.origins_reported);
        })
        one.settings_reported two.settings_reported)

-- a side is steady in what it reports of tests
pub steady : (side : Evaluation) (mode : NextestRunMode) (asked : RequestedSettings)
    → IsSteady (SideReports side mode asked) (compares_runs asked) SaySame
steady side mode asked = record {
  named = λ t rows is. record { binary = is.binary; name = is.name };
  twice = λ t a b one two. reported_twice side mode asked t a b one two (compares_runs asked);
}

-- and in what its values come from, where its sources are files
pub steady_alike : (side : Evaluation) (mode : NextestRunMode) (asked : RequestedSettings) (files others : List Source)
    → AreSources side.session.layers.items files → AreSources side.session.layers.items others
    → AreFiles side.session.layers.items
    → IsSteady (SideReports side mode asked) (compares_runs asked) (ComeAlike files others)
steady_alike side mode asked files others own other are_files = record {
  named = λ t rows is. record { binary = is.binary; name = is.name };
  twice = λ t a b one two. alike_twice side mode asked t a b one two files others own other are_files (compares_runs asked);
}
