-- Regions of layers, in order.
use Rattle.std.proofs.Common.{◌≡◌, ℕ, suc, ◌<◌, ◌≤◌, ◌+◌, add-one, List, [], ◌∷◌, ◌++◌, length, get_or, take, drop, flat_map, Contains, Option, Some, Bor, sym, ap, ◌∙◌, append_assoc}
use Rattle.std.proofs.Math.Seq.{drop-cons}
use Rattle.std.proofs.lemmas.List.{append-nil, get_or-map, length-map, drop_all}
use Rattle.nextest_tree.specs.Node.{Node}
use Rattle.nextest_tree.specs.declared.tree.Tree.{Tree}
use Rattle.nextest_documents.specs.Shown.{Path}
use Rattle.nextest_documents.specs.Along.{leaf_in}
use Rattle.nextest_documents.specs.Layers.{keys_view}
use Rattle.nextest_documents.specs.Sections.{Region, of_profile, beside, base_path, regions_behind}
use Rattle.nextest_documents.specs.Writers.{writers_in, writers}
use Rattle.nextest_documents.proofs.Lists.{taken}

abbrev pub Writers : Type 0
Writers = List (Region × ℕ)

module _ (region : Region) where
  pub one_writer : (n m at : ℕ) (so_far all new : Writers) → n ≡ suc at → m ≡ at
      → so_far ++ writers_in n region ≡ all → new ≡ so_far ++ (region, at) ∷ [] → new ++ writers_in m region ≡ all
  one_writer n m at so_far all new before after is added =
      rw (added, after) (append_assoc so_far ((region, at) ∷ []) (writers_in at region))
      ∙ ap (λ k. so_far ++ writers_in k region) (sym before) ∙ is

  pub all_writers : (n : ℕ) (so_far all : Writers) → n ≡ 0 → so_far ++ writers_in n region ≡ all → so_far ≡ all
  all_writers n so_far all none is =
      sym (append-nil so_far) ∙ ap (λ k. so_far ++ writers_in k region) (sym none) ∙ is

-- the regions of the profiles from one position on, and of the tables beside them
abbrev pub left : ℕ → List (Bor (List ℕ)) → ℕ → Writers
left count chain i = flat_map (writers_in count) (regions_behind (take i (keys_view chain)) (drop i (keys_view chain)))

pub one_profile : (count : ℕ) (chain : List (Bor (List ℕ))) (i : ℕ) (d : Bor (List ℕ)) (so_far new : Writers)
    → i < length chain → so_far ++ left count chain i ≡ writers (keys_view chain) count
    → new ≡ so_far ++ writers_in count (of_profile (take i (keys_view chain)) (get_or chain i d).now)
    → new ++ left count chain (i + 1) ≡ writers (keys_view chain) count
one_profile count chain i d so_far new within is added =
    let name = (get_or chain i d).now in
    let names = keys_view chain in
    let here : i < length names = rw (length-map chain (λ (key : Bor (List ℕ)). key.now)) within in
    let read : get_or names i d.now ≡ name = get_or-map (λ (key : Bor (List ℕ)). key.now) chain i d d.now within in
    let region = of_profile (take i names) name in
    let next : take (i + 1) names ≡ take i names ++ name ∷ [] =
    taken (λ (key : Bor (List ℕ)). key.now) chain i d within in
    let rest : drop i names ≡ name ∷ drop (i + 1) names =
    rw add-one (drop-cons names i d.now here ∙ ap (λ n. n ∷ drop (suc i) names) read) in
    let step : left count chain i ≡ writers_in count region ++ left count chain (i + 1) =
    ap (λ l. flat_map (writers_in count) (regions_behind (take i names) l)) rest
    ∙ ap (λ l. writers_in count region ++ flat_map (writers_in count) (regions_behind l (drop (i + 1) names)))
    (sym next) in
    ap (λ l. l ++ left count chain (i + 1)) added
    ∙ append_assoc so_far (writers_in count region) (left count chain (i + 1))
    ∙ ap (λ l. so_far ++ l) (sym step) ∙ is

pub profiles_end : (count : ℕ) (chain : List (Bor (List ℕ))) (i : ℕ) (so_far new : Writers) → length chain ≤ i
    → so_far ++ left count chain i ≡ writers (keys_view chain) count → new ≡ so_far ++ writers_in count beside
    → new ≡ writers (keys_view chain) count
profiles_end count chain i so_far new past is added =
    let none : drop i (keys_view chain) ≡ [] =
    drop_all i (keys_view chain) (rw (length-map chain (λ (key : Bor (List ℕ)). key.now)) past) in
    let last : left count chain i ≡ writers_in count beside =
    ap (λ l. flat_map (writers_in count) (regions_behind (take i (keys_view chain)) l)) none
    ∙ append-nil (writers_in count beside) in
    added ∙ ap (λ l. so_far ++ l) (sym last) ∙ is

-- the paths of all leaves that a writer has are among some
abbrev pub HasPaths : List (Option (Bor Tree)) → List Path → Region × ℕ → Type 0
HasPaths layers paths writer =
    (p : Path) (v : Node) → leaf_in layers writer.1 (base_path writer.0 ++ p) ≡ Some v → Contains paths p
