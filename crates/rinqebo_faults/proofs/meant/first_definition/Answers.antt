-- The lines before another one, each in turn.
use Rattle.std.proofs.Common.{◌≡◌, ◌∙◌, ◌+◌, Some, length, sym, ap, subst, arith, length-take}
use Rattle.std.specs.Prelude.{slice_get}
use Rattle.std.specs.Str.{trim}
use Rattle.std.specs.Str.Lines.{lines}
use Rattle.std.proofs.lemmas.Iterator.{YieldsList-from_take}
use Rattle.std.proofs.lemmas.Iterator.Consumers.{YieldsList-turn, YieldsList-end}
use Rattle.std.proofs.lemmas.Iterator.Splits.{YieldsList-from_lines}
use Rattle.std.proofs.lemmas.List.{length_push}
use Rattle.std.proofs.lemmas.Option.{slice_get-get_or, slice_get_within}
use Rattle.rinqebo_faults.specs.Meant.{IsFirstDefinition, first_behind}
use Rattle.rinqebo_faults.proofs.FirstDefinitions.{none_first, step_first, whole_first}
use Rattle.rinqebo_faults.proofs.ShownLines.{taken_at}
use Rattle.rinqebo_faults.proofs.meant.first_definition.Goals as goal

pub loop-line-init : goal.loop-line-init
loop-line-init c = (cc, none_first (lines c.args.text.now) c.args.defined.now)

pub loop-line-preserved : goal.loop-line-preserved
loop-line-preserved c =
    let l = c.loop-line in
    let text = lines c.args.text.now in
    let name = c.args.defined.now in
    let n = length l.yielded in
    let t = taken_at text c.args.end n _
    (YieldsList-turn (YieldsList-from_take c.args.end (YieldsList-from_lines c.args.text.now cc) cc) l.yielded _
    l.yielded_by _ _ c.in-Some.line c.in-Some.is c.next.ensures.steps) in
    let count = length_push l.yielded c.in-Some.line in
    let there : slice_get text n ≡ Some c.in-Some.line.now =
    slice_get-get_or text n c.in-Some.line.now t.0 ∙ ap Some (sym t.1) in
    let first : c.first_behind-first.result ≡ first_behind l.first n (trim c.in-Some.line.now) name =
    c.first_behind-first.ensures
    ∙ ap (λ k. first_behind l.first k c.trim.result.now name) l.invariant.0
    ∙ ap (λ t. first_behind l.first n t name) c.trim.ensures.trim in
    let a = l.invariant.0 in
    let b = t.2 in (
      omega arith,
      subst (λ k. IsFirstDefinition text k name c.first_behind-first.result) (sym count)
          (subst (IsFirstDefinition text (n + 1) name) (sym first)
          (step_first text n name c.in-Some.line.now l.first there l.invariant.1)),
    )

pub returns : goal.returns
returns c =
    let l = c.loop-line in
    let text = lines c.args.text.now in
    let e = YieldsList-end (YieldsList-from_take c.args.end (YieldsList-from_lines c.args.text.now cc) cc) l.yielded _
    l.yielded_by _ _ c.in-None.is c.next.ensures.steps in
    let few = e.1 in
    let long = length-take c.args.end text in
    whole_first text (length l.yielded) c.args.end c.args.defined.now l.first (omega arith)
    (λ other line high low is. absurd (let inside = slice_get_within text other line is in omega arith)) l.invariant.1
