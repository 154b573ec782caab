use Rattle.std.proofs.Common.{rules, ◌≡◌, ◌∙◌, sym, ap, Ok, Err, Some, is_none, map, arith}
use Rattle.filter_language.specs.Bans.{are_allowed}
use Rattle.filter_language.specs.Filters.{next_view, next_in, marks_in}
use Rattle.filter_language.specs.Grammar.{mark_view}
use Rattle.filter_language.specs.Nesting.{shape_view, start_shape, shape_step, shape_behind, MayEnd}
use Rattle.filter_language.proofs.Bans.{one_allowed}
use Rattle.filter_language.proofs.Marks.{whole_of, marks_begin, mark_kept, marks_done, marks_objected, marks_failed, stop_passed}
use Rattle.filter_language.proofs.Shapes.{one_more_kept, may_end_spells}
use Rattle.filter_language.proofs.reading.reader.read_marks.Goals as goal

pub marks-init : goal.marks-init
marks-init g c =
    let m = g.E.Matchers.meaning in
    let knows = g.E.Matchers.knows_packages c.args.engine.now in
    let none = c.new-marks.ensures.items in
    record {
      utf8 = c.utf8.text;
      left = omega arith;
      objection = tt;
      allowed = sym (ap (λ l. are_allowed c.args.kind knows (map (mark_view m) l)) none);
      shape = ap (λ l. shape_behind start_shape (map (mark_view m) l)) none ∙ ap Some (sym c.new-nesting.ensures);
      whole = marks_begin (g.E.Matchers.compiled c.args.engine.now) knows c.args.kind (mark_view m)
          c.new-marks.result.items (shape_view c.new-nesting.result) c.args.text.now none c.new-nesting.ensures;
    }

pub marks-preserved : goal.marks-preserved
marks-preserved g c =
    let m = g.E.Matchers.meaning in
    let knows = g.E.Matchers.knows_packages c.args.engine.now in
    let compiler = g.E.Matchers.compiled c.args.engine.now in
    let found = c.in-Some.found in
    let next = c.next_mark.new.nesting in
    let step : shape_step (shape_view c.marks.nesting) (mark_view m found.mark) ≡ Some (shape_view next) =
    rw c.in-Some.is at c.in_ok-found.ensures.step in
    let value : next_in compiler knows c.args.kind (shape_view c.marks.nesting) c.marks.place.now
    ≡ Ok (Some (next_view m (shape_view next) found)) = rw c.in-Some.is at c.in_ok-found.ensures.value in
    let past = rw c.in-Some.is at c.in_ok-found.ensures.ok in
    record {
      utf8 = search rules;
      left = search rules;
      objection = search rules;
      allowed = one_allowed c.args.kind knows (mark_view m) c.marks.marks.items c.keep.new.marks.items
          found.mark c.marks.objection found.objection c.or-objection.result c.in_ok-keep.ensures
          c.marks.invariant.allowed (rw c.in-Some.is at c.in_ok-found.ensures.ban) c.or-objection.ensures;
      shape = one_more_kept (mark_view m) c.marks.marks.items c.keep.new.marks.items found.mark start_shape
          (shape_view c.marks.nesting) (shape_view next) c.in_ok-keep.ensures c.marks.invariant.shape step;
      whole = mark_kept compiler knows c.args.kind m c.marks.marks.items c.keep.new.marks.items
          c.marks.objection c.or-objection.result (shape_view c.marks.nesting) (shape_view next) c.marks.place.now
          (whole_of compiler knows c.args.kind c.args.text.now) found c.marks.invariant.whole value
          c.in_ok-keep.ensures c.or-objection.ensures past.0;
    }

pub returns-in_err-found-clause-wrong : goal.returns-in_err-found-clause-wrong
returns-in_err-found-clause-wrong g c =
    let knows = g.E.Matchers.knows_packages c.args.engine.now in
    let compiler = g.E.Matchers.compiled c.args.engine.now in
    let shape = shape_view c.marks.nesting in
    stop_passed c.from_residual.result c.in_err-found.field-0.0
    (λ m. next_in compiler knows c.args.kind shape c.marks.place.now ≡ Err m)
    (λ m. marks_in compiler knows c.args.kind c.args.text.now ≡ Err m) c.from_residual.ensures.1
    (λ m e. marks_failed compiler knows c.args.kind c.args.text.now _ m shape c.marks.place.now
    c.marks.invariant.whole e) c.in_err-found.ensures.wrong

pub returns-in-Some-objection-clause-wrong : goal.returns-in-Some-objection-clause-wrong
returns-in-Some-objection-clause-wrong g c =
    marks_objected (g.E.Matchers.compiled c.args.engine.now) (g.E.Matchers.knows_packages c.args.engine.now)
    c.args.kind c.args.text.now (map (mark_view g.E.Matchers.meaning) c.marks.marks.items) c.marks.objection
    c.in-Some-objection.misread (shape_view c.marks.nesting) c.marks.place.now c.marks.invariant.whole
    (rw c.in_default.is at c.in_ok-found.ensures.value) c.in-Some-objection.is

pub returns-clause-value : goal.returns-clause-value
returns-clause-value g c =
    marks_done (g.E.Matchers.compiled c.args.engine.now) (g.E.Matchers.knows_packages c.args.engine.now)
    c.args.kind c.args.text.now (map (mark_view g.E.Matchers.meaning) c.marks.marks.items) c.marks.objection
    (shape_view c.marks.nesting) c.marks.place.now c.marks.invariant.whole
    (rw c.in_default.is at c.in_ok-found.ensures.value) c.in-None.is

pub returns-clause-ok : goal.returns-clause-ok
returns-clause-ok g c =
    let end : MayEnd (shape_view c.marks.nesting) = rw c.in_default.is at c.in_ok-found.ensures.step in
    may_end_spells (map (mark_view g.E.Matchers.meaning) c.marks.marks.items) (shape_view c.marks.nesting)
    c.marks.invariant.shape end

pub returns-clause-allowed : goal.returns-clause-allowed
returns-clause-allowed g c = sym c.marks.invariant.allowed ∙ ap is_none c.in-None.is
