use Rattle.std.proofs.Common.{◌≡◌, ◌∙◌, ◌&&◌, ap, map, refl, sym}
use Rattle.nextest_tree.specs.View.{tree_view}
use Rattle.rinqebo_origins.specs.LeafValue.{is_tellable}
use Rattle.rinqebo_origins.specs.Origins.{step_view}
use Rattle.rinqebo_origins.specs.SpelledLeaves.{steps_text}
use Rattle.rinqebo_origins.proofs.SpelledEntries.{asked_here}
use Rattle.rinqebo_origins.proofs.spelled_report.spelled_entry.Goals as goal

pub returns-then-not-is_asked : goal.returns-then-not-is_asked
returns-then-not-is_asked c =
    let text = c.as_str.ensures.value ∙ c.in_ok-key.ensures
    ∙ ap (λ steps. steps_text (map step_view steps)) c.deref.ensures.value in
    let asked = c.is_asked.ensures ∙ asked_here c.args.keys.now _ _ text in
    ap (λ b. b && is_tellable (tree_view c.args.leaf.now.value.now)) (sym asked ∙ c.if-not-is_asked.true)

pub returns-in_default : goal.returns-in_default
returns-in_default c =
    let text = c.as_str.ensures.value ∙ c.in_ok-key.ensures
    ∙ ap (λ steps. steps_text (map step_view steps)) c.deref.ensures.value in
    let asked = sym (c.is_asked.ensures ∙ asked_here c.args.keys.now _ _ text) ∙ c.if-not-is_asked.false in
    let none = rw c.in_default.is at c.in_ok-value.ensures in
    λ i. asked i && none i

pub returns : goal.returns
returns c =
    let spelled = c.in_ok-key.ensures ∙ ap (λ steps. steps_text (map step_view steps)) c.deref.ensures.value in
    let asked = sym (c.is_asked.ensures ∙ asked_here c.args.keys.now _ _ (c.as_str.ensures.value ∙ spelled))
    ∙ c.if-not-is_asked.false in
    let value = rw c.in-Some.is at c.in_ok-value.ensures in (
      λ i. asked i && value.told i,
      record {
        key_told = spelled;
        value_told = value;
        origin_told = c.in_ok-origin_of.ensures;
        shown = refl;
      },
    )
