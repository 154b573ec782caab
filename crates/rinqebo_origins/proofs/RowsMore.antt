-- Rows of settings, one after another.
use Rattle.std.proofs.Common.{◌≡◌, ◌∙◌, ◌<◌, ◌+◌, ℕ, List, [], ◌∷◌, ◌++◌, Bool, true, false, cond, None, Option, Some, ap, append-nil, filter, get_or, length, option_map, refl, subst, sym, take}
use Rattle.std.proofs.lemmas.List.{take_more}
use Rattle.std.proofs.lemmas.Slice.Zip.{all_zipped_more}
use Rattle.std.specs.List.{AllZip}
use Rattle.nextest_elements.specs.declared.run_mode.NextestRunMode.{NextestRunMode}
use Rattle.nextest_rules.specs.Rules.{RuleId, ScriptRuleUse}
use Rattle.nextest_settings.specs.Platforms.{EvaluatedRule}
use Rattle.nextest_settings.specs.Queries.{Origin}
use Rattle.nextest_settings.specs.Settings.{ValueOf}
use Rattle.nextest_settings.specs.SourceView.{setting_source_view, MarksOrigin}
use Rattle.nextest_elements.specs.declared.setting.Setting.{Setting}
use Rattle.nextest_settings.specs.declared.source.SettingSource.{SettingSource}
use Rattle.rinqebo_origins.specs.TestOrigins.{Basis}
use Rattle.rinqebo_origins.specs.Settings.{IsSettingReported, reported_settings}
use Rattle.rinqebo_request.specs.declared.request.RequestedSettings.{RequestedSettings}
use Rattle.rinqebo_report.specs.declared.report.SettingRow.{SettingRow}

-- one more of each of two lists
pub zip_more : {A B : Type 0} (R : A → B → Type 0) (xs : List A) (i : ℕ) (x d : A) → i < length xs
    → x ≡ get_or xs i d → (now new : List B) (y : B) → AllZip R (take i xs) now → R x y
    → new ≡ now ++ y ∷ [] → AllZip R (take (i + 1) xs) new
zip_more R xs i x d below same now new y before is more =
    let taken : take (i + 1) xs ≡ take i xs ++ x ∷ [] = take_more xs i d below
    ∙ ap (λ z. take i xs ++ z ∷ []) (sym same) in
    rw (taken, more) (all_zipped_more R (take i xs) now x y before is)

-- one more of each of two lists, by what is the same as before
pub zip_more_by : {A B X : Type 0} (R : X → A → B → Type 0) (before now : X) → now ≡ before → (xs : List A) (i : ℕ)
    (x d : A) → i < length xs → x ≡ get_or xs i d → (rows new : List B) (y : B) → AllZip (R before) (take i xs) rows
    → R now x y → new ≡ rows ++ y ∷ [] → AllZip (R before) (take (i + 1) xs) new
zip_more_by R before now kept xs i x d below same rows new y told is more =
    zip_more (R before) xs i x d below same rows new y told (subst (λ b. R b x y) kept is) more

kept_front : {X : Type 0} (b : Bool) (y : X) (all front last : List X) → all ≡ front ++ last
    → cond b (y ∷ all) all ≡ cond b (y ∷ front) front ++ last
kept_front true y all front last is = ap (λ more. y ∷ more) is
kept_front false y all front last is = is

filter-one : {X : Type 0} (p : X → Bool) (xs : List X) (x : X)
    → filter p (xs ++ x ∷ []) ≡ filter p xs ++ cond (p x) (x ∷ []) []
filter-one p [] x = refl
filter-one p (y ∷ xs) x =
    kept_front (p y) y (filter p (xs ++ x ∷ [])) (filter p xs) (cond (p x) (x ∷ []) []) (filter-one p xs x)

-- one more element that passes a test
pub filter_more : {X : Type 0} (p : X → Bool) (xs : List X) (i : ℕ) (x d : X) → i < length xs → x ≡ get_or xs i d
    → (now new : List X) → now ≡ filter p (take i xs) → p x ≡ true → new ≡ now ++ x ∷ []
    → new ≡ filter p (take (i + 1) xs)
filter_more p xs i x d below same now new before passes is =
    let taken : take (i + 1) xs ≡ take i xs ++ x ∷ [] = take_more xs i d below
    ∙ ap (λ z. take i xs ++ z ∷ []) (sym same) in
    is ∙ ap (λ front. front ++ x ∷ []) before
    ∙ ap (λ b. filter p (take i xs) ++ cond b (x ∷ []) []) (sym passes)
    ∙ sym (filter-one p (take i xs) x) ∙ ap (filter p) (sym taken)

-- one more element that does not pass
pub filter_same : {X : Type 0} (p : X → Bool) (xs : List X) (i : ℕ) (x d : X) → i < length xs → x ≡ get_or xs i d
    → (now : List X) → now ≡ filter p (take i xs) → p x ≡ false → now ≡ filter p (take (i + 1) xs)
filter_same p xs i x d below same now before fails =
    let taken : take (i + 1) xs ≡ take i xs ++ x ∷ [] = take_more xs i d below
    ∙ ap (λ z. take i xs ++ z ∷ []) (sym same) in
    before ∙ sym (append-nil (filter p (take i xs)))
    ∙ ap (λ b. filter p (take i xs) ++ cond b (x ∷ []) []) (sym fails)
    ∙ sym (filter-one p (take i xs) x) ∙ ap (filter p) (sym taken)

-- rows report the settings by whatever says the same of each
pub reported_alike : (basis : Basis) (one other : Option RuleId) (v w : (s : Setting) → Option (ValueOf s))
    (o p : Setting → Option Origin) (mode : NextestRunMode) (asked : RequestedSettings) (rows : List SettingRow)
    → one ≡ other → ((s : Setting) → v s ≡ w s) → ((s : Setting) → o s ≡ p s)
    → AllZip (IsSettingReported basis one v o mode) (reported_settings asked o) rows
    → AllZip (IsSettingReported basis other w p mode) (reported_settings asked p) rows
reported_alike basis one other v w o p mode asked rows wrapping values origins told =
    let same_values : v ≡ w = λ i s. values s i in
    let same_origins : o ≡ p = λ i s. origins s i in
    subst (λ v. AllZip (IsSettingReported basis other v p mode) (reported_settings asked p) rows) same_values
    (subst (λ o. AllZip (IsSettingReported basis other v o mode) (reported_settings asked o) rows) same_origins
    (subst (λ id. AllZip (IsSettingReported basis id v o mode) (reported_settings asked o) rows) wrapping told))

-- the id of what a rule writes is that of the rule
pub wrapping_alike : {M : Type 0} (uses : Option ScriptRuleUse) (rule : Option (EvaluatedRule M ScriptRuleUse))
    → uses ≡ option_map (λ r. r.writes) rule → option_map (λ u. u.id) uses ≡ option_map (λ r. r.writes.id) rule
wrapping_alike uses None is = ap (option_map (λ u. u.id)) is
wrapping_alike uses (Some rule) is = ap (option_map (λ u. u.id)) is

-- a mark has the origin that it is right for
pub marked : {F S E T N P : Type 0} (source : Option (SettingSource F S E T N P)) (origin : Option Origin)
    → MarksOrigin (λ mark told. setting_source_view mark ≡ told) source origin
    → option_map setting_source_view source ≡ origin
marked None None marks = refl
marked None (Some origin) marks = absurd marks
marked (Some source) None marks = absurd marks
marked (Some source) (Some origin) marks = ap Some marks
