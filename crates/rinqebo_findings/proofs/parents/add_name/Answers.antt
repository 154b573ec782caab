use Rattle.std.proofs.Common.{◌≡◌, ◌∙◌, true, false, cond, ap, sym, rules}
use Rattle.std.proofs.lemmas.Map.Text.{is_eq-slice_cmp}
use Rattle.nextest_inheritance.specs.View.{has_name}
use Rattle.rinqebo_findings.proofs.Profiles.{came_more, new_added, old_left}
use Rattle.rinqebo_findings.proofs.parents.add_name.Goals as goal

pub returns-then-not-is_new : goal.returns-then-not-is_new
returns-then-not-is_new c came new =
    let name = c.args.name.now in
    let seen : has_name c.args.seen.now name ≡ true = search rules in
    came_more came name c.args.seen.now c.insert.new.self c.args.names.now.items c.args.names.now.items
    (λ other. c.in_ok-is_new.ensures.updates.0 (record { ref_ptr = (0, 0); now = other })
    ∙ ap (λ same. cond same true (has_name c.args.seen.now other)) (is_eq-slice_cmp name other))
    (old_left came name c.args.names.now.items (sym (new.has name) ∙ seen)) new

pub returns : goal.returns
returns c came new =
    let name = c.args.name.now in
    let unseen : has_name c.args.seen.now name ≡ false = search rules in
    came_more came name c.args.seen.now c.insert.new.self c.args.names.now.items c.push.new.self.items
    (λ other. c.in_ok-is_new.ensures.updates.0 (record { ref_ptr = (0, 0); now = other })
    ∙ ap (λ same. cond same true (has_name c.args.seen.now other)) (is_eq-slice_cmp name other))
    (new_added came c.args.name c.args.names.now.items c.push.new.self.items (sym (new.has name) ∙ unseen)
    c.in_ok-push.ensures.items) new
