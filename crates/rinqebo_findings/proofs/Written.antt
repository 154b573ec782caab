-- What the files of a run write at a path.
use Rattle.std.proofs.Common.{◌≡◌, ◌+◌, ℕ, List, Option, None, Some, option_map, sym, ap, ◌∙◌}
use Rattle.std.proofs.Math.Numerals.{add-one}
use Rattle.std.specs.Option.{option_or}
use Rattle.nextest_places.specs.declared.step.Step.{Step}
use Rattle.nextest_tree.specs.Node.{Node}
use Rattle.rinqebo_request.specs.declared.files.layers.Layer.{Layer}
use Rattle.rinqebo_findings.specs.Written.{highest_below, written_at}

module _ (layers : List Layer) (path : List Step) where
  -- what the layers below the next place have, by what the layer at a place writes
  next_below : (place next : ℕ) (found : Option Node) → place + 1 ≡ next
      → written_at layers path place ≡ found → highest_below layers path next
      ≡ option_or (option_map (λ node. (place, node)) found) (highest_below layers path place)
  next_below place next found is same =
      ap (highest_below layers path) (sym is ∙ add-one place)
      ∙ ap (λ (o : Option Node). option_or (option_map (λ node. (place, node)) o) (highest_below layers path place)) same

  -- a layer writes nothing there
  pub none_at : (place next : ℕ) → place + 1 ≡ next → written_at layers path place ≡ None
      → highest_below layers path next ≡ highest_below layers path place
  none_at place next is same = next_below place next None is same

  -- a layer writes something there
  pub some_at : (place next : ℕ) (node : Node) → place + 1 ≡ next
      → written_at layers path place ≡ Some node → highest_below layers path next ≡ Some (place, node)
  some_at place next node is same = next_below place next (Some node) is same

  -- below the lowest layer there is none
  pub none_below : (end : ℕ) → end ≡ 0 → highest_below layers path end ≡ None
  none_below end is = ap (highest_below layers path) is
