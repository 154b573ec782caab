-- The rows that keys name, one key after another.
use Rattle.std.proofs.Common.{◌+◌, ◌<◌, Bor, drop, get_or, map, ◌≡◌, ◌≢◌, ◌∙◌, ◌++◌, ◌∷◌, ◌&&◌, ◌||◌, ◌==◌, [], Bool, List, None, Some, ap, ap₂, arith, eqb-true, false, if◌then◌else◌, inl, inr, length, not, refl, subst, suc, sym, true, ℕ}
use Rattle.std.proofs.lemmas.List.{append-nil, at_drop_more, drop_more}
use Rattle.std.specs.List.{filter}
use Rattle.std.specs.Prelude.{Vec, vec_len}
use Rattle.std.specs.declared.alloc.Global.{Global}
use Rattle.nextest_elements.specs.Settings.{settings}
use Rattle.nextest_elements.specs.declared.run_mode.NextestRunMode.{NextestRunMode}
use Rattle.nextest_elements.specs.declared.setting.Setting.{Setting}
use Rattle.rinqebo_keys.specs.Keys.{is_named_by}
use Rattle.rinqebo_request.specs.Rows.{AreKnownKeys, AreRowsBy, IsKnownKey, Rows, is_no_row, is_runs, no_rows, requested, rows_by, rows_or_all, settings_by, with_all, with_key}
use Rattle.rinqebo_request.specs.declared.request.RequestedSettings.{RequestedSettings}

-- rows
abbrev pub rows_with : Bool → List Setting → Rows
rows_with runs settings = record { runs = runs; settings = settings }

with_all_more : (mode : NextestRunMode) (rows : Rows) (a b : List (List ℕ)) → with_all mode rows (a ++ b) ≡ with_all mode (with_all mode rows a) b
with_all_more mode rows [] b = refl
with_all_more mode rows (key ∷ a) b = with_all_more mode (with_key mode rows key) a b

known_more : (mode : NextestRunMode) (a b : List (List ℕ)) → AreKnownKeys mode a → AreKnownKeys mode b → AreKnownKeys mode (a ++ b)
known_more mode [] b first second = second
known_more mode (key ∷ a) b first second = (first.0, known_more mode a b first.1 second)

-- the rows of some keys, and then of others
pub both : (mode : NextestRunMode) (start mid end : Rows) (xs ys a b : List (List ℕ)) → start ≡ no_rows → mid ≡ with_all mode start xs
    → end ≡ with_all mode mid ys → xs ≡ a → ys ≡ b → AreKnownKeys mode xs → AreKnownKeys mode ys
    → (end ≡ rows_by mode (a ++ b)) × AreKnownKeys mode (a ++ b)
both mode start mid end xs ys a b start_is mid_is end_is xs_are ys_are xs_known ys_known = (
  end_is ∙ ap (λ rows. with_all mode rows ys) (mid_is ∙ ap (λ rows. with_all mode rows xs) start_is)
      ∙ sym (with_all_more mode no_rows xs ys) ∙ ap₂ (λ x y. with_all mode no_rows (x ++ y)) xs_are ys_are,
  subst (λ x. AreKnownKeys mode (x ++ b)) xs_are (subst (λ y. AreKnownKeys mode (xs ++ y)) ys_are (known_more mode xs ys xs_known ys_known)),
)

or_true : (b : Bool) → (b || true) ≡ true
or_true true = refl
or_true false = refl

or_false : (b : Bool) → (b || false) ≡ b
or_false true = refl
or_false false = refl

-- the key of whether a test runs
pub with_runs : (mode : NextestRunMode) (rows : Rows) (key : List ℕ) → is_runs key ≡ true
    → rows_with true rows.settings ≡ with_key mode rows key
with_runs mode rows key is =
    ap₂ rows_with (sym (or_true rows.runs)) (sym (append-nil rows.settings))
    ∙ ap (λ (b : Bool). rows_with (rows.runs || b) (rows.settings ++ (if b then [] else filter (is_named_by key mode) settings))) (sym is)

-- any other key
pub with_settings : (mode : NextestRunMode) (rows : Rows) (key : List ℕ) (named : List Setting) → is_runs key ≡ false → settings_by mode key ≡ named
    → rows_with rows.runs (rows.settings ++ named) ≡ with_key mode rows key
with_settings mode rows key named is are =
    ap₂ rows_with (sym (ap (λ b. rows.runs || b) is ∙ or_false rows.runs)) (ap (λ more. rows.settings ++ more) (sym are))

-- the settings that a key names are put behind
pub with_named : (mode : NextestRunMode) (rows : Rows) (key : List ℕ) (named slice new : List Setting) → is_runs key ≡ false
    → (named ≡ filter (is_named_by key mode) settings) × (named ≢ []) → slice ≡ named → new ≡ rows.settings ++ slice
    → (rows_with rows.runs new ≡ with_key mode rows key) × IsKnownKey mode key
with_named mode rows key named slice new is (are, some) same more =
    let by : settings_by mode key ≡ named = ap (λ (b : Bool). if b then [] else filter (is_named_by key mode) settings) is ∙ sym are in (
      ap (rows_with rows.runs) (more ∙ ap (λ s. rows.settings ++ s) same) ∙ with_settings mode rows key named is by,
      inr (λ none. some (sym by ∙ none)),
    )

none_in : (xs : List Setting) → length xs ≡ 0 → xs ≡ []
none_in [] is = refl
none_in (x ∷ xs) is = absurd (omega arith)

-- no setting was found
pub none_named : (found : Vec Setting Global) (key : List ℕ) (mode : NextestRunMode) → found.items ≡ filter (is_named_by key mode) settings
    → (vec_len found == 0) ≡ true → filter (is_named_by key mode) settings ≡ []
none_named found key mode are none =
    let zero : vec_len found ≡ 0 = eqb-true (vec_len found) 0 none in sym are ∙ none_in found.items (omega (arith, found.ok.0))

-- some were
pub some_named : (found : Vec Setting Global) → (vec_len found == 0) ≡ false → found.items ≢ []
some_named found some none =
    let empty : vec_len found ≡ 0 = found.ok.0 ∙ ap length none in
    let test : (vec_len found == 0) ≡ true = ap (λ n. n == 0) empty in absurd (cc)

not_so : (b : Bool) → (b ≡ true → ⊥) → b ≡ false
not_so true none = absurd (none refl)
not_so false none = refl

not_zero : (n : ℕ) → (suc n == 0) ≡ false
not_zero n = not_so (suc n == 0) (λ is. let zero : suc n ≡ 0 = eqb-true (suc n) 0 is in omega arith)

some_more : (runs : Bool) (xs : List Setting) (more_runs : Bool) (more : List Setting) → (not runs && length xs == 0) ≡ false
    → (not (runs || more_runs) && length (xs ++ more) == 0) ≡ false
some_more true xs more_runs more some = refl
some_more false xs true more some = refl
some_more false [] false more some = absurd (cc)
some_more false (x ∷ xs) false more some = not_zero (length (xs ++ more))

stays : (mode : NextestRunMode) (rows : Rows) (keys : List (List ℕ)) → is_no_row rows ≡ false → is_no_row (with_all mode rows keys) ≡ false
stays mode rows [] some = some
stays mode rows (key ∷ keys) some =
    stays mode (with_key mode rows key) keys (some_more rows.runs rows.settings (is_runs key) (settings_by mode key) some)

some_settings : (runs : Bool) (xs : List Setting) → xs ≢ [] → (not (false || runs) && length ([] ++ xs) == 0) ≡ false
some_settings true xs some = refl
some_settings false [] some = absurd (some refl)
some_settings false (x ∷ xs) some = not_zero (length xs)

known_row : (mode : NextestRunMode) (key : List ℕ) → IsKnownKey mode key → is_no_row (with_key mode no_rows key) ≡ false
known_row mode key (inl is) = ap (λ runs. not (false || runs) && length ([] ++ settings_by mode key) == 0) is
known_row mode key (inr some) = some_settings (is_runs key) (settings_by mode key) some

-- known keys name a row, if there is a key
pub no_keys : (mode : NextestRunMode) (keys : List (List ℕ)) → AreKnownKeys mode keys → is_no_row (rows_by mode keys) ≡ true → keys ≡ []
no_keys mode [] known none = refl
no_keys mode (key ∷ keys) known none =
    let some : is_no_row (with_all mode (with_key mode no_rows key) keys) ≡ false = stays mode (with_key mode no_rows key) keys (known_row mode key known.0) in
    absurd (cc)

pub some_keys : (mode : NextestRunMode) (keys : List (List ℕ)) → is_no_row (rows_by mode keys) ≡ false → rows_by mode keys ≡ rows_or_all mode keys
some_keys mode [] some = absurd (cc)
some_keys mode (key ∷ keys) some = refl

pub all_of_none : (mode : NextestRunMode) (keys : List (List ℕ)) → keys ≡ [] → rows_or_all mode [] ≡ rows_or_all mode keys
all_of_none mode keys none = ap (rows_or_all mode) (sym none)

-- the KEYs of a list, or none
pub listed_keys : (mode : NextestRunMode) (keys : List (List ℕ)) (rows : RequestedSettings) → AreKnownKeys mode keys
    → requested rows ≡ (if is_no_row (rows_by mode keys) then None else Some (rows_by mode keys)) → AreRowsBy mode false None keys rows
listed_keys mode [] rows known are = are
listed_keys mode (key ∷ keys) rows known are =
    let some : is_no_row (with_all mode (with_key mode no_rows key) keys) ≡ false =
    stays mode (with_key mode no_rows key) keys (known_row mode key known.0) in
    (known, are ∙ ap (λ b. if b then None else Some (rows_by mode (key ∷ keys))) some)

-- one key more was read
pub rows_step : (mode : NextestRunMode) (keys : List (Bor (List ℕ))) (i : ℕ) (d : Bor (List ℕ)) (before after : Rows) → i < length keys
    → after ≡ with_key mode before (get_or keys i d).now
    → with_all mode after (map (λ key. key.now) (drop (i + 1) keys)) ≡ with_all mode before (map (λ key. key.now) (drop i keys))
rows_step mode keys i d before after below is =
    ap (λ rows. with_all mode rows (map (λ key. key.now) (drop (i + 1) keys))) is
    ∙ sym (at_drop_more (λ (rest : List (Bor (List ℕ))). with_all mode before (map (λ key. key.now) rest)) keys i d below)

pub known_step : (mode : NextestRunMode) (keys : List (Bor (List ℕ))) (i : ℕ) (d : Bor (List ℕ)) → i < length keys → IsKnownKey mode (get_or keys i d).now
    → AreKnownKeys mode (map (λ key. key.now) (drop (i + 1) keys)) → AreKnownKeys mode (map (λ key. key.now) (drop i keys))
known_step mode keys i d below is rest =
    subst (λ left. AreKnownKeys mode (map (λ key. key.now) left)) (sym (drop_more keys i d below)) (is, rest)
