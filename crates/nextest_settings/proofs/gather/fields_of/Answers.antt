use Rattle.std.proofs.Common.{◌≡◌, ◌++◌, [], map, append-nil, ap, sym, ◌∙◌, get_or, refl, option_map}
use Rattle.std.proofs.lemmas.List.{map-append}
use Rattle.std.specs.List.{cons_option}
use Rattle.nextest_load.specs.ConfigView.{merged_profile_view}
use Rattle.nextest_rules.specs.Rules.{at_name}
use Rattle.nextest_tables.specs.View.{by_name}
use Rattle.nextest_settings.specs.View.{fields_ref_view}
use Rattle.nextest_settings.proofs.FilterMap.{filter_turn}
use Rattle.nextest_settings.proofs.gather.fields_of.Goals as goal
use Rattle.nextest_settings.proofs.gather.fields_of.Goals.{in-Some+in_ok-push, in_default}

pub loop-name-preserved : goal.loop-name-preserved
loop-name-preserved c =
    let profiles = by_name merged_profile_view c.args.profiles.now.entries in
    let old = map fields_ref_view c.loop-name.found.items in
    let x = get_or c.args.names.now c.loop-name.name-index (record { ref_ptr = (0, 0); now = [] }) in
    let new : map fields_ref_view c.match-merged_profile_at.found.items ≡ old
    ++ cons_option (option_map (λ p. p.fields) (at_name x.now profiles)) [] =
    elim c.match-merged_profile_at.branch [
      | in-Some+in_ok-push w ↦
          rw (w.found-is, ← w.in-Some.ensures)
          (ap (map fields_ref_view) w.in_ok-push.ensures.items
          ∙ map-append fields_ref_view c.loop-name.found.items _)
      | in_default w ↦
          rw (w.found-is, ← c.merged_profile_at.ensures, w.in_default.is) (sym (append-nil old))
    ] in
    filter_turn (λ name. option_map (λ p. p.fields) (at_name name profiles)) (λ name. name.now)
    c.args.names.now c.loop-name.name-index old _ x _ c.loop-name.invariant c.loop-name-test.true refl new
