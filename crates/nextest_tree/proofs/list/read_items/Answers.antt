use Rattle.std.proofs.Common.{◌≡◌, ◌∷◌, ◌+◌, drop, ap, sym, ◌∙◌}
use Rattle.std.specs.Fmt.{decimal}
use Rattle.std.proofs.lemmas.List.{drop_more}
use Rattle.std.proofs.lemmas.Result.{err_from_is_err_and}
use Rattle.nextest_tree.proofs.Reading.{list_done, items_stop}
use Rattle.nextest_tree.proofs.list.read_items.Goals as goal

pub returns-in_err-value-clause-reads : goal.returns-in_err-value-clause-reads
returns-in_err-value-clause-reads g c =
    let p = err_from_is_err_and c.from_residual.result c.from_residual.ensures.1 in
    let i = c.loop-position.position in
    let t = c.index-items-position.result in
    let step : c.format.result.now ≡ decimal i = c.format.ensures.text in
    let next : drop i c.args.items.now ≡ t ∷ drop (i + 1) c.args.items.now =
    drop_more c.args.items.now i t c.loop-position-test.true
    ∙ ap (λ t. t ∷ drop (i + 1) c.args.items.now) (sym c.index-items-position.is) in
    rw (p.1, p.2) (λ f h. items_stop g.T.Element.schema i c.args.items.now t _ _ f next
    (rw (← step) (c.in_err-value.ensures.reads f h)) c.loop-position.invariant.1)

pub returns-clause-value : goal.returns-clause-value
returns-clause-value g c =
    list_done g.T.Element.is_value c.args.items.now c.loop-position.position c.loop-position.values.items
    c.loop-position-test.false c.loop-position.invariant.0
