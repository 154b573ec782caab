use Rattle.std.proofs.Common.{◌≡◌, ◌<◌, length, rules, ◌∙◌}
use Rattle.platform_language.specs.Reading.{reading_view, read_body, finished}
use Rattle.platform_language.proofs.Loops.{at_next, at_zero, at_end, loop_fault}
use Rattle.platform_language.proofs.reading.read_body.Goals as goal
use Rattle.platform_language.proofs.reading.read_body.Goals.{then-loop-left-test+else-not-is_empty, else-loop-left-test}

pub returns-in_err-next-clause-err : goal.returns-in_err-next-clause-err
returns-in_err-next-clause-err c =
    let l = c.loop-left in
    let some : 0 < l.left = search rules in
    let more : 0 < length l.rest.now = search rules in
    let it = loop_fault (read_body c.args.body.now) (length c.args.body.now) l.left (reading_view l.reader)
    l.rest.now c.in_err-next.field-0.0 some more l.invariant.means c.in_err-next.ensures.err in
    search rules

pub loop-left-preserved : goal.loop-left-preserved
loop-left-preserved c =
    let l = c.loop-left in
    let some : 0 < l.left = search rules in
    let more : 0 < length l.rest.now = search rules in
    record {
      utf8 = search rules;
      means = l.invariant.means
          ∙ at_next (length c.args.body.now) l.left (reading_view l.reader) l.rest.now
          (reading_view c.in_ok-next.next) c.in_ok-next.behind.now some more c.in_ok-next.ensures.ok;
    }

pub returns-clause-ok : goal.returns-clause-ok
returns-clause-ok c =
    let l = c.loop-left in
    let r = reading_view l.reader in
    let len = length c.args.body.now in
    let here : read_body c.args.body.now ≡ finished len r =
    elim c.loop-left-test.branch [
      | then-loop-left-test+else-not-is_empty w ↦ l.invariant.means ∙ at_end len l.left r l.rest.now (search rules)
      | else-loop-left-test w ↦ l.invariant.means ∙ at_zero len l.left r l.rest.now (search rules)
    ] in
    rw here c.finish.ensures.ok

pub returns-clause-err : goal.returns-clause-err
returns-clause-err c =
    let l = c.loop-left in
    let r = reading_view l.reader in
    let len = length c.args.body.now in
    let here : read_body c.args.body.now ≡ finished len r =
    elim c.loop-left-test.branch [
      | then-loop-left-test+else-not-is_empty w ↦ l.invariant.means ∙ at_end len l.left r l.rest.now (search rules)
      | else-loop-left-test w ↦ l.invariant.means ∙ at_zero len l.left r l.rest.now (search rules)
    ] in
    rw here c.finish.ensures.err
