-- Hints: the known name that a user most likely means.
use Rattle.std.proofs.Common.{◌≡◌, ◌≢◌, ◌<◌, ◌+◌, ◌∙◌, ◌++◌, ◌∷◌, [], All, Bor, List, MatchOption, None, Option, Some, ap, ap₂, codes, get_or, inl, inr, length, map, option_map, string_bytes, subst, sym, take, ℕ}
use Rattle.std.specs.declared.alloc.Global.{Global}
use Rattle.std.proofs.lemmas.List.{map-append, take_more}
use Rattle.std.specs.Prelude.{String}
use Rattle.nextest_elements.specs.Settings.{settings}
use Rattle.nextest_elements.specs.declared.run_mode.NextestRunMode.{NextestRunMode}
use Rattle.nextest_elements.specs.declared.setting.Setting.{Setting}
use Rattle.rinqebo_keys.specs.Keys.{dotted, key_name, key_table, key_text}
use Rattle.rinqebo_report.specs.Hints.{IsNearest, distance, reach}
use Rattle.rinqebo_request.specs.Hints.{IsKeyHint, IsNameHint, IsTextHint, hint_text, other_mode, row_keys}

some_same : {A : Type 0} (x y : A) → Some x ≡ Some y → x ≡ y
some_same x y is = cc

-- the hint of the nearest name, if one is near
pub hinted : (name : List ℕ) (known : List (Bor (List ℕ))) (found : Option (Bor (List ℕ))) (hint : Option (String Global))
    → MatchOption found (All (λ other. reach name < distance name other.now) known) (λ nearest. IsNearest name known nearest.now)
    → option_map string_bytes hint ≡ option_map (λ nearest. hint_text nearest.now) found → IsNameHint name known hint
hinted name known None None near is = near
hinted name known (Some nearest) (Some hint) near is = (nearest.now, near, some_same _ _ is)
hinted name known None (Some hint) near is = absurd (cc)
hinted name known (Some nearest) None near is = absurd (cc)

-- a hint of names is one of their texts
pub of_texts : (name : List ℕ) (names : List (Bor (List ℕ))) (known : List (List ℕ)) (hint : Option (String Global)) → IsNameHint name names hint
    → map (λ other. other.now) names ≡ known → IsTextHint name known hint
of_texts name names known hint is are = (names, are, is)

-- one text more is lent
pub texts_more : {X : Type 0} (text_of : X → List ℕ) (known : List X) (i : ℕ) (d : X) (names new : List (Bor (List ℕ))) (x : Bor (List ℕ))
    → i < length known → map (λ name. name.now) names ≡ map text_of (take i known) → new ≡ names ++ x ∷ [] → x.now ≡ text_of (get_or known i d)
    → map (λ name. name.now) new ≡ map text_of (take (i + 1) known)
texts_more text_of known i d names new x below before more is =
    ap (map (λ name. name.now)) more ∙ map-append (λ name. name.now) names (x ∷ [])
    ∙ ap₂ (λ (a : List (List ℕ)) (t : List ℕ). a ++ t ∷ []) before is
    ∙ sym (map-append text_of (take i known) (get_or known i d ∷ [])) ∙ ap (map text_of) (sym (take_more known i d below))

-- the text of a key, by its table and its name there
pub key_is : (setting : Setting) (mode : NextestRunMode) (table : Option (List ℕ)) (name text shown : List ℕ) → table ≡ key_table setting mode
    → name ≡ key_name setting → text ≡ dotted table name → shown ≡ text → shown ≡ key_text setting mode
key_is setting mode table name text shown table_is name_is text_is same = same ∙ text_is ∙ ap₂ dotted table_is name_is

-- the hint of the key that a setting has in a mode
pub of_other_mode : (key : List ℕ) (mode other : NextestRunMode) (setting : Setting) (shown : List ℕ) (hint : Option (String Global)) → other ≡ other_mode mode
    → key_text setting other ≡ key → shown ≡ key_text setting mode → option_map string_bytes hint ≡ Some (hint_text shown) → IsKeyHint key mode hint
of_other_mode key mode other setting shown None other_is has is said = absurd (cc)
of_other_mode key mode other setting shown (Some hint) other_is has is said =
    inl (setting, subst (λ m. key_text setting m ≡ key) other_is has, some_same _ _ said ∙ ap hint_text is)

-- the hint of the nearest key
pub of_same_mode : (key : List ℕ) (mode other : NextestRunMode) (names : List (List ℕ)) (hint : Option (String Global)) → other ≡ other_mode mode
    → ((setting : Setting) → key_text setting other ≢ key) → names ≡ row_keys mode → IsTextHint key names hint → IsKeyHint key mode hint
of_same_mode key mode other names hint other_is none are is =
    inr (subst (λ m. (setting : Setting) → key_text setting m ≢ key) other_is none, subst (λ known. IsTextHint key known hint) are is)

-- the keys of settings, and behind them `runs`
pub and_runs : (mode : NextestRunMode) (keys new : List (String Global)) (runs : String Global) → map string_bytes keys ≡ map (λ setting. key_text setting mode) settings
    → new ≡ keys ++ runs ∷ [] → string_bytes runs ≡ codes "runs" → map string_bytes new ≡ row_keys mode
and_runs mode keys new runs are more is =
    ap (map string_bytes) more ∙ map-append string_bytes keys (runs ∷ []) ∙ ap₂ (λ (a : List (List ℕ)) (t : List ℕ). a ++ t ∷ []) are is
