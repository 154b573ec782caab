-- The lines up to the last one that a mark shows, each in turn.
use Rattle.std.proofs.Common.{◌≡◌, ◌∙◌, ◌+◌, ◌++◌, drop, length, map, ap, arith}
use Rattle.std.specs.Option.{option_to_list}
use Rattle.std.specs.Str.Lines.{lines}
use Rattle.std.proofs.lemmas.Iterator.{YieldsList-from_take}
use Rattle.std.proofs.lemmas.Iterator.Consumers.{YieldsList-turn, YieldsList-end}
use Rattle.std.proofs.lemmas.Iterator.Splits.{YieldsList-from_lines}
use Rattle.std.proofs.lemmas.List.{length_push}
use Rattle.rinqebo_faults.specs.Lines.{shown_behind, shown_lines, shown_view}
use Rattle.rinqebo_faults.proofs.ShownLines.{all_shown, few_shown, first_three, is_three, next_shown, rest_none, still_few, taken_at}
use Rattle.rinqebo_faults.proofs.lines.lines_of.Goals as goal

pub loop-line-preserved : goal.loop-line-preserved
loop-line-preserved c =
    let l = c.loop-line in
    let text = lines c.args.text.now in
    let n = length l.yielded in
    let t = taken_at text c.last_line.result n _
    (YieldsList-turn (YieldsList-from_take c.last_line.result (YieldsList-from_lines c.args.text.now cc) cc) l.yielded _
    l.yielded_by _ _ c.in-Some.line c.in-Some.is c.next.ensures.steps) in
    let count = length_push l.yielded c.in-Some.line in
    let more = c.in_ok-add_shown.ensures
    ∙ ap (λ o. map shown_view l.shown.items ++ option_to_list o) c.in_ok-part.ensures in
    let next : c.saturating_add-number.result ≡ n + 1 = let a = l.invariant.0 in let b = t.2 in omega arith in (
      omega arith,
      still_few l.shown.items c.add_shown.new.shown.items _ c.is_full.result more l.invariant.1 c.is_full.ensures c.if-is_full.false,
      next_shown c.args.marks.now text n c.in-Some.line.now l.number c.saturating_add-number.result _
          _ _ (shown_behind c.args.marks.now 0 text) l.invariant.0 next count t.0 t.1 more l.invariant.2,
    )

pub returns-then-is_full : goal.returns-then-is_full
unfolding shown_lines
returns-then-is_full c =
    let l = c.loop-line in
    let text = lines c.args.text.now in
    let n = length l.yielded in
    let t = taken_at text c.last_line.result n _
    (YieldsList-turn (YieldsList-from_take c.last_line.result (YieldsList-from_lines c.args.text.now cc) cc) l.yielded _
    l.yielded_by _ _ c.in-Some.line c.in-Some.is c.next.ensures.steps) in
    let count = length_push l.yielded c.in-Some.line in
    let more = c.in_ok-add_shown.ensures
    ∙ ap (λ o. map shown_view l.shown.items ++ option_to_list o) c.in_ok-part.ensures in
    let next : c.saturating_add-number.result ≡ n + 1 = let a = l.invariant.0 in let b = t.2 in omega arith in
    first_three _ _ (shown_behind c.args.marks.now 0 text)
    (next_shown c.args.marks.now text n c.in-Some.line.now l.number c.saturating_add-number.result _
    _ _ (shown_behind c.args.marks.now 0 text) l.invariant.0 next count t.0 t.1 more l.invariant.2)
    (is_three c.add_shown.new.shown.items c.is_full.result c.is_full.ensures c.if-is_full.true)

pub returns : goal.returns
unfolding shown_lines
returns c =
    let l = c.loop-line in
    let text = lines c.args.text.now in
    let e = YieldsList-end (YieldsList-from_take c.last_line.result (YieldsList-from_lines c.args.text.now cc) cc) l.yielded _
    l.yielded_by _ _ c.in-None.is c.next.ensures.steps in
    let none = rest_none c.args.marks.now c.last_line.result (length l.yielded) text c.last_line.ensures e.1 in
    all_shown (map shown_view l.shown.items) _ (shown_behind c.args.marks.now 0 text) l.invariant.2
    (ap (λ k. shown_behind c.args.marks.now k (drop (length l.yielded) text)) l.invariant.0 ∙ none) (few_shown l.shown.items l.invariant.1)
