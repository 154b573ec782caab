use Rattle.std.proofs.Common.{◌≡◌, Err}
use Rattle.filter_language.specs.Filters.{next_view, wanted_in, next_in}
use Rattle.filter_language.specs.Nesting.{shape_view}
use Rattle.filter_language.proofs.Marks.{next_wanted, wanted_wrong, next_joining, stop_passed}
use Rattle.filter_language.proofs.reading.next.next_mark.Goals as goal

pub returns-in_err-wanted-clause-wrong : goal.returns-in_err-wanted-clause-wrong
returns-in_err-wanted-clause-wrong g c =
    let knows = g.E.Matchers.knows_packages c.args.engine.now in
    let compiler = g.E.Matchers.compiled c.args.engine.now in
    let shape = shape_view c.args.nesting.now in
    stop_passed c.from_residual.result c.in_err-wanted.field-0.0
    (λ m. wanted_in compiler knows c.args.kind shape c.args.place.now ≡ Err m)
    (λ m. next_in compiler knows c.args.kind shape c.args.place.now ≡ Err m)
    c.from_residual.ensures.1
    (λ m e. wanted_wrong compiler knows c.args.kind shape c.args.place.now m c.if-nesting.true e)
    c.in_err-wanted.ensures.wrong

pub returns-then-nesting-clause-value : goal.returns-then-nesting-clause-value
returns-then-nesting-clause-value g c =
    next_wanted (g.E.Matchers.compiled c.args.engine.now) (g.E.Matchers.knows_packages c.args.engine.now)
    c.args.kind (shape_view c.args.nesting.now) c.args.place.now
    (next_view g.E.Matchers.meaning (shape_view c.wanted.new.nesting) c.in_ok-wanted.field-0)
    c.if-nesting.true c.in_ok-wanted.ensures.value

pub returns-clause-value : goal.returns-clause-value
returns-clause-value g c =
    rw (next_joining (g.E.Matchers.compiled c.args.engine.now) (g.E.Matchers.knows_packages c.args.engine.now)
    c.args.kind (shape_view c.args.nesting.now) c.args.place.now c.if-nesting.false)
    c.joining.ensures.value

pub returns-clause-wrong : goal.returns-clause-wrong
returns-clause-wrong g c =
    rw (next_joining (g.E.Matchers.compiled c.args.engine.now) (g.E.Matchers.knows_packages c.args.engine.now)
    c.args.kind (shape_view c.args.nesting.now) c.args.place.now c.if-nesting.false)
    c.joining.ensures.wrong
