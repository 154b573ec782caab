use Rattle.std.proofs.Common.{◌≡◌, ◌<◌, ◌-◌, ◌+◌, ◌∷◌, drop, take, length, get_or, sym, ap, ◌∙◌, inr, arith, true≢false}
use Rattle.std.proofs.lemmas.List.{drop_more, drop-drop, length-drop, take_all}
use Rattle.std.proofs.lemmas.Result.{err_from_is_err_and}
use Rattle.filter_engine.proofs.GlobBodies.{none_done, item_taken, all_done, none_behind}
use Rattle.filter_engine.proofs.glob.class.read_ranges.Goals as goal

pub loop-range-init : goal.loop-range-init
loop-range-init c =
    let text = c.args.text.now in
    let some : 0 < length text = omega arith in
    let whole : text ≡ get_or text 0 0 ∷ drop 1 text = drop_more text 0 0 some in
    let first : get_or text 0 0 < 128 = omega arith in (
      get_or text 0 0,
      drop 1 text,
      whole,
      first,
      rw c.new-ranges.ensures.items
          (none_done (get_or text 0 0) (drop 1 text)),
      omega arith,
    )

pub loop-range-preserved : goal.loop-range-preserved
loop-range-preserved c =
    let text = c.args.text.now in
    let at = c.loop-range.at in
    let i = c.loop-range.invariant in
    let len = length-drop at text in
    let whole : take (length text - at) (drop at text) ≡ drop at text =
    take_all (length text - at) (drop at text) (omega arith) in
    let fits = rw whole at c.in_ok-item.ensures.len in (
      i.0,
      i.1,
      i.2,
      i.3,
      rw (← drop-drop c.in_ok-item.len at text)
          (item_taken i.0 i.1 _ _ _ _ _ _ _ i.4 (rw whole at c.in_ok-item.ensures.item) c.in_ok-range.ensures),
      omega arith,
    )

pub returns-clause-ranges : goal.returns-clause-ranges
returns-clause-ranges c =
    let text = c.args.text.now in
    let at = c.loop-range.at in
    let i = c.loop-range.invariant in
    let len = length-drop at text in
    let whole : take (length text - at) (drop at text) ≡ drop at text =
    take_all (length text - at) (drop at text) (omega arith) in
    let closing = rw whole at (c.begins_with.ensures.0 c.loop-range-test.false) in
    let inside : at < length text = omega (arith, ap length closing.1) in
    let more = drop_more text at 0 inside in
    let rest : closing.0 ≡ drop (at + 1) text = ap (drop 1) (sym closing.1 ∙ more) in
    let here : drop at text ≡ 93 ∷ drop (at + 1) text = closing.1 ∙ ap (λ r. 93 ∷ r) rest in
    all_done text i.0 i.1 c.loop-range.range.0 c.loop-range.range.1 (drop at text) (drop (at + 1) text) _ _
    i.2 i.3 i.4 here c.in_ok-add_range.ensures

pub returns-in_err-item-clause-refused : goal.returns-in_err-item-clause-refused
returns-in_err-item-clause-refused c =
    let text = c.args.text.now in
    let at = c.loop-range.at in
    let i = c.loop-range.invariant in
    let len = length-drop at text in
    let whole : take (length text - at) (drop at text) ≡ drop at text =
    take_all (length text - at) (drop at text) (omega arith) in
    let p = err_from_is_err_and c.from_residual.result c.from_residual.ensures.1 in
    rw p.1
    (inr (none_behind text i.0 i.1 c.loop-range.range.0 c.loop-range.range.1 (drop at text)
    c.loop-range.ranges.items i.2 i.4
    (λ ends. true≢false (sym (c.begins_with.ensures.1 (rw (← whole) at ends)) ∙ c.loop-range-test.true))
    (rw whole at c.in_err-item.ensures.item)))
