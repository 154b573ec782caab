-- The nearest profile that writes a key.
use Rattle.std.proofs.Common.{◌≡◌, ℕ, suc, ◌<◌, List, ◌∷◌, ◌++◌, length, get_or, take, drop, Option, Some, None, MatchOption, is_none, Bor, sym, ap, ◌∙◌, true, false, arith}
use Rattle.std.proofs.Math.Seq.{drop-cons}
use Rattle.std.proofs.lemmas.List.{get_or-map, length-map, length-take-le, take-append-drop}
use Rattle.std.specs.List.{AllByRecursion}
use Rattle.nextest_tree.specs.Node.{Node}
use Rattle.nextest_documents.specs.Shown.{Path}
use Rattle.nextest_documents.specs.Grounds.{profile_path, Writes, AreGrounds, AreNearestGrounds}
use Rattle.nextest_documents.specs.Layers.{keys_view, Stands, IsHighest}
use Rattle.nextest_documents.specs.declared.grounds.Grounds.{Grounds}

-- the first profile of a chain that writes a key
pub nearest_is : (layers : List Node) (names : List (Bor (List ℕ))) (key : Path) (i : ℕ) (d : Bor (List ℕ))
    (grounds : Grounds) → i < length names → grounds.profile ≡ i
    → AllByRecursion (λ name. Writes layers key name → ⊥) (take i (keys_view names))
    → Writes layers key (get_or names i d).now
    → AreGrounds layers (profile_path (get_or names i d).now ++ key) grounds.layers.items
    → AreNearestGrounds layers (keys_view names) key grounds
nearest_is layers names key i d grounds within at none writes all =
    let chain = keys_view names in
    let name = (get_or names i d).now in
    let there : i < length chain = rw (length-map names (λ (key : Bor (List ℕ)). key.now)) within in
    let read : get_or chain i d.now ≡ name = get_or-map (λ (key : Bor (List ℕ)). key.now) names i d d.now within in
    record {
      nearer = take i chain;
      name = name;
      farther = drop (suc i) chain;
      splits = sym (take-append-drop i chain)
          ∙ ap (λ more. take i chain ++ more) (drop-cons chain i d.now there ∙ ap (λ n. n ∷ drop (suc i) chain) read);
      profile = length-take-le i chain (omega arith) ∙ sym at;
      writes = writes;
      nearest = none;
      layers_are = all;
    }

-- a layer shows something there
pub stands_if : (layers : List Node) (p : Path) (r : Option ℕ)
    → MatchOption r (Stands layers p → ⊥) (IsHighest layers p) → is_none r ≡ false → Stands layers p
stands_if layers p None none some = cc
stands_if layers p (Some i) highest some = (highest.kind, highest.shown.shown)

pub stands_not : (layers : List Node) (p : Path) (r : Option ℕ)
    → MatchOption r (Stands layers p → ⊥) (IsHighest layers p) → is_none r ≡ true → Stands layers p → ⊥
stands_not layers p None none some = none
stands_not layers p (Some i) highest some = cc
