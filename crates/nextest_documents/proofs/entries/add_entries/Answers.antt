use Rattle.std.proofs.Common.{rules, ◌≡◌, [], ◌∷◌, ◌++◌, map, option_map, sym, ap, ◌∙◌}
use Rattle.std.proofs.lemmas.List.{append-nil, map-append}
use Rattle.nextest_documents.specs.Entries.{leaf_view}
use Rattle.nextest_documents.specs.Layers.{layers_view, keys_view}
use Rattle.nextest_documents.specs.Writers.{IsFound, somes}
use Rattle.nextest_documents.proofs.Finding.{found_taken}
use Rattle.nextest_documents.proofs.entries.add_entries.Goals as goal
use Rattle.nextest_documents.proofs.entries.add_entries.Goals.{in-Some+in_ok-push, in_default}

pub loop-writer-preserved : goal.loop-writer-preserved
loop-writer-preserved c =
    let one = IsFound (layers_view c.args.query.layers.now) (keys_view c.args.query.keys.now)
    c.args.query.with_hidden (keys_view c.args.path.now) in
    let so_far = map leaf_view c.loop-writer.entries.items in
    let found = c.in_ok-entry.field-0 in
    let new = map leaf_view c.match-branch-2.entries.items in
    let added : new ≡ so_far ++ somes (option_map leaf_view found ∷ []) =
    elim c.match-branch-2.branch [
      | in-Some+in_ok-push w ↦
          let items : c.match-branch-2.entries.items ≡ c.loop-writer.entries.items ++ w.in-Some.entry ∷ [] =
          search rules in
          ap (map leaf_view) items ∙ map-append leaf_view c.loop-writer.entries.items (w.in-Some.entry ∷ [])
          ∙ ap (λ o. so_far ++ somes (option_map leaf_view o ∷ [])) (sym w.in-Some.is)
      | in_default w ↦
          let items : c.match-branch-2.entries.items ≡ c.loop-writer.entries.items = search rules in
          ap (map leaf_view) items ∙ sym (append-nil so_far)
          ∙ ap (λ o. so_far ++ somes (option_map leaf_view o ∷ [])) (sym w.in_default.is)
    ] in
    found_taken one c.args.writers.now c.loop-writer.writer-index _ (map leaf_view c.args.entries.now.items) so_far new
    (option_map leaf_view found) c.loop-writer-test.true c.loop-writer.invariant c.in_ok-entry.ensures added
