-- Rows of one test more.
use Rattle.std.proofs.Common.{◌≡◌, ◌+◌, ◌<◌, ℕ, Bool, List, [], ◌∷◌, ◌++◌, ◌∙◌, length, get_or, take, map, Option, sym, ap, append_assoc, append-nil}
use Rattle.std.proofs.lemmas.List.{map-append, map_more}
use Rattle.std.specs.List.{AllZip, flat_map}
use Rattle.nextest_elements.specs.declared.run_mode.NextestRunMode.{NextestRunMode}
use Rattle.nextest_engines.specs.Engines.{Test}
use Rattle.nextest_settings.specs.Profile.{EvaluatableModel}
use Rattle.nextest_settings.specs.Queries.{query_in, Origin, setting_value, setting_origin}
use Rattle.nextest_settings.specs.Settings.{ValueOf}
use Rattle.nextest_elements.specs.declared.setting.Setting.{Setting}
use Rattle.nextest_config.specs.Headline.{IsTestRow, numbers_for}
use Rattle.nextest_config.specs.RowView.{row_value, row_source, row_view}
use Rattle.nextest_config.specs.declared.run.row.TestRow.{TestRow}

-- one more of each list
pub zip_push : {A B : Type 0} (R : A → B → Type 0) (xs : List A) (ys : List B) (x : A) (y : B)
    → AllZip R xs ys → R x y → AllZip R (xs ++ x ∷ []) (ys ++ y ∷ [])
zip_push R [] [] x y h r = (r, tt)
zip_push R [] (b ∷ ys) x y h r = absurd h
zip_push R (a ∷ xs) [] x y h r = absurd h
zip_push R (a ∷ xs) (b ∷ ys) x y h r = (h.0, zip_push R xs ys x y h.1 r)

-- what one more gives
pub flat_push : {A B : Type 0} (f : A → List B) (xs : List A) (x : A) → flat_map f (xs ++ x ∷ []) ≡ flat_map f xs ++ f x
flat_push f [] x = append-nil (f x)
flat_push f (y ∷ xs) x = ap (λ ys. f y ++ ys) (flat_push f xs x) ∙ sym (append_assoc (f y) (flat_map f xs) (f x))

-- a row more, of the next test of a list
module _ {M Q : Type 0} (matches : M → Test → M → Bool) (profile : EvaluatableModel M) (mode : NextestRunMode)
    (view : Q → Test) (qs : List Q) (i : ℕ) (q d : Q) (below : i < length qs) (same : q ≡ get_or qs i d) where
  one_more : map view (take (i + 1) qs) ≡ map view (take i qs) ++ view q ∷ []
  one_more = map_more view qs i d below ∙ ap (λ x. map view (take i qs) ++ view x ∷ []) (sym same)

  pub rows_more : (rows : List TestRow) (row : TestRow)
      → AllZip (IsTestRow matches profile mode) (map view (take i qs)) (map row_view rows)
      → IsTestRow matches profile mode (view q) (row_view row)
      → AllZip (IsTestRow matches profile mode) (map view (take (i + 1) qs)) (map row_view (rows ++ row ∷ []))
  rows_more rows row before is =
      rw (one_more, map-append row_view rows (row ∷ []))
      (zip_push (IsTestRow matches profile mode) (map view (take i qs)) (map row_view rows) (view q)
      (row_view row) before is)

  pub numbers_more : (old now new : List ℕ)
      → now ≡ old ++ flat_map (numbers_for matches profile mode) (map view (take i qs))
      → new ≡ now ++ numbers_for matches profile mode (view q)
      → new ≡ old ++ flat_map (numbers_for matches profile mode) (map view (take (i + 1) qs))
  numbers_more old now new was is =
      is
      ∙ ap (λ ns. ns ++ numbers_for matches profile mode (view q)) was
      ∙ append_assoc old (flat_map (numbers_for matches profile mode) (map view (take i qs)))
      (numbers_for matches profile mode (view q))
      ∙ ap (λ ns. old ++ ns) (sym
      (flat_push (numbers_for matches profile mode) (map view (take i qs)) (view q))
      ∙ ap (flat_map (numbers_for matches profile mode)) (sym one_more))

-- a row of what a test's settings are is that of the test
pub row_is : {M : Type 0} (matches : M → Test → M → Bool) (profile : EvaluatableModel M)
    (mode : NextestRunMode) (test : Test) (row : TestRow) (value : (s : Setting) → Option (ValueOf s))
    (origin : Setting → Option Origin)
    → ((s : Setting) → row_value row s ≡ value s) → ((s : Setting) → row_source row s ≡ origin s)
    → ((s : Setting) → value s ≡ setting_value (query_in matches profile test) mode profile s)
    → ((s : Setting) → origin s ≡ setting_origin (query_in matches profile test) mode profile s)
    → IsTestRow matches profile mode test (row_view row)
row_is matches profile mode test row value origin values sources of_values of_origins = record {
  values = λ s. values s ∙ of_values s;
  sources = λ s. sources s ∙ of_origins s;
}

-- what decides one setting more
pub sources_more : {A B : Type 0} (f : A → B) (w : Setting → B) (ss : List Setting) (i : ℕ) (xs : List A)
    (x : A) (s d : Setting) → i < length ss → s ≡ get_or ss i d
    → map f xs ≡ map w (take i ss) → f x ≡ w s → map f (xs ++ x ∷ []) ≡ map w (take (i + 1) ss)
sources_more f w ss i xs x s d below at was is =
    let one : f x ≡ w (get_or ss i d) = is ∙ ap w at in
    map-append f xs (x ∷ []) ∙ (λ j. was j ++ one j ∷ []) ∙ sym (map_more w ss i d below)
