-- A map of the first path of each tool.
use Rattle.std.proofs.Common.{◌≡◌, ℕ, List, [], ◌∷◌, ◌++◌, Bool, true, false, cond, Option, Some, None, Result, Ok, Err, OnOk, is_ok, option_map, nat_cmp, refl, sym, ap, subst, ◌∙◌}
use Rattle.std.specs.Borrow.{Bor}
use Rattle.std.specs.BTreeMap.{BTreeMap, get_by, UpdatesBy}
use Rattle.std.specs.Cmp.Lexicographic.{slice_cmp}
use Rattle.std.specs.List.{find}
use Rattle.std.specs.Option.{option_or}
use Rattle.std.specs.Str.{bytes_eq}
use Rattle.std.proofs.lemmas.List.Folds.{find-append}
use Rattle.std.proofs.lemmas.Map.Text.{btree_map_updates_str}
use Rattle.std.proofs.lemmas.Slice.Eq.{bytes_eq-Decides}
use Rattle.nextest_sources.specs.InputFaults.{fault_at_source, second_cause, first_path}
use Rattle.nextest_sources.specs.Causes.{at_source, duplicate_tool}
use Rattle.nextest_sources.specs.Inputs.{tool_source}
use Rattle.nextest_sources.specs.Sources.{ToolFile, path_view}
use Rattle.nextest_sources.specs.declared.sources.ConfigPath.{ConfigPath}

-- what a map has for a tool
abbrev pub path_in : BTreeMap (Bor (List ℕ)) (Bor ConfigPath) → List ℕ → Option (List ℕ)
path_in m tool = option_map (λ p. path_view p.now) (get_by (λ k. slice_cmp nat_cmp tool k.now) m)

no_path : {X Y : Type 0} (f : X → Y) (o : Option X) → option_map f o ≡ None → o ≡ None
no_path f None h = refl
no_path f (Some x) h = cc

-- a file that is not refused has no earlier one of its tool
pub not_second : (before : List ToolFile) (t : ToolFile)
    → fault_at_source (tool_source t) (second_cause before t) ≡ None → first_path t.tool before ≡ None
not_second before t h = no_path (duplicate_tool t.tool) (first_path t.tool before)
    (no_path (at_source (tool_source t)) (second_cause before t) h)

last_of : (o : Option ToolFile) → option_or o None ≡ o
last_of None = refl
last_of (Some t) = refl

step : (old : Option (Bor ConfigPath)) (path : Bor ConfigPath) (found : Option ToolFile) (t : ToolFile)
    (same : Bool) → option_map (λ p. path_view p.now) old ≡ option_map (λ f. f.file.path) found
    → (same ≡ true → found ≡ None) → path_view path.now ≡ t.file.path
    → option_map (λ p. path_view p.now) (cond same (Some path) old)
    ≡ option_map (λ f. f.file.path) (option_or found (cond same (Some t) None))
step old path found t true so_far none is = rw (none refl) (ap (λ p. Some p) is)
step old path found t false so_far none is = rw (last_of found) so_far

updated : {A E : Type 0} {P : Type 0} (r : Result A E) → is_ok r ≡ true → OnOk r P → P
updated (Ok x) is h = h
updated (Err e) is h = cc

-- one more file, the first of its tool
pub next_path : {A E : Type 0} (m n : BTreeMap (Bor (List ℕ)) (Bor ConfigPath)) (tool : List ℕ)
    (path : Bor ConfigPath) (before : List ToolFile) (t : ToolFile)
    → ((q : List ℕ) → path_in m q ≡ first_path q before) → first_path t.tool before ≡ None → (r : Result A E)
    → is_ok r ≡ true
    → OnOk r (UpdatesBy (λ x y. slice_cmp nat_cmp x.now y.now) (λ k. slice_cmp nat_cmp tool k.now) m n (Some path))
    → tool ≡ t.tool → path_view path.now ≡ t.file.path
    → (q : List ℕ) → path_in n q ≡ first_path q (before ++ t ∷ [])
next_path m n tool path before t so_far none r ok updates named is q =
    let old = get_by (λ k. slice_cmp nat_cmp q k.now) m in
    let found = find (λ x. bytes_eq x.tool q) before in
    let first : bytes_eq t.tool q ≡ true → found ≡ None =
    λ same. no_path (λ f. f.file.path) found
    (subst (λ z. first_path z before ≡ None) ((bytes_eq-Decides t.tool q).0 same) none) in
    ap (option_map (λ p. path_view p.now)) (btree_map_updates_str tool m n (Some path) (updated r ok updates) q)
    ∙ ap (λ z. option_map (λ p. path_view p.now) (cond (bytes_eq z q) (Some path) old)) named
    ∙ step old path found t (bytes_eq t.tool q) (so_far q) first is
    ∙ ap (option_map (λ f. f.file.path)) (sym (find-append (λ x. bytes_eq x.tool q) before (t ∷ [])))
