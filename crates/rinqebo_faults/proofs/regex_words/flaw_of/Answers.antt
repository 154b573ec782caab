-- Each character is read in turn, up to a flaw or the end.
use Rattle.std.proofs.Common.{◌≡◌, ◌∙◌, ◌+◌, ◌<◌, ℕ, List, length, drop, get_or, sym, ap, arith}
use Rattle.std.proofs.lemmas.Iterator.{YieldsList-from_chars}
use Rattle.std.proofs.lemmas.Iterator.Consumers.{YieldsList-turn, YieldsList-end}
use Rattle.std.proofs.lemmas.List.{at_drop_more, at_drop_all, length_push}
use Rattle.std.specs.Str.{chars}
use Rattle.rinqebo_faults.specs.Regexes.{flaw_behind, flaw_from, read}
use Rattle.rinqebo_faults.specs.declared.regex_words.Scan.{Scan}
use Rattle.rinqebo_faults.proofs.regex_words.flaw_of.Goals as goal

next_read : (cs : List ℕ) (n c : ℕ) (scan : Scan) → (n < length cs) × (c ≡ get_or cs n c)
    → flaw_from (drop n cs) scan ≡ flaw_behind (flaw_from (drop (n + 1) cs)) (read scan c)
next_read cs n c scan h =
    at_drop_more (λ xs. flaw_from xs scan) cs n c h.0
    ∙ ap (λ d. flaw_behind (flaw_from (drop (n + 1) cs)) (read scan d)) (sym h.1)

pub returns-in-Err : goal.returns-in-Err
returns-in-Err c =
    let t = YieldsList-turn (YieldsList-from_chars c.args.pattern.now c.utf8.pattern cc) c.loop-c.yielded _
    c.loop-c.yielded_by _ _ c.in-Some.c c.in-Some.is c.next.ensures.steps in
    ap (flaw_behind (flaw_from (drop (length c.loop-c.yielded + 1) (chars c.args.pattern.now)))) c.in-Err.ensures
    ∙ sym (next_read _ _ _ c.loop-c.scan t) ∙ c.loop-c.invariant

pub loop-c-preserved : goal.loop-c-preserved
loop-c-preserved c =
    let t = YieldsList-turn (YieldsList-from_chars c.args.pattern.now c.utf8.pattern cc) c.loop-c.yielded _
    c.loop-c.yielded_by _ _ c.in-Some.c c.in-Some.is c.next.ensures.steps in
    rw (length_push c.loop-c.yielded c.in-Some.c)
    (ap (flaw_behind (flaw_from (drop (length c.loop-c.yielded + 1) (chars c.args.pattern.now)))) c.in-Ok.ensures
    ∙ sym (next_read _ _ _ c.loop-c.scan t) ∙ c.loop-c.invariant)

pub returns : goal.returns
returns c =
    let t = YieldsList-end (YieldsList-from_chars c.args.pattern.now c.utf8.pattern cc) c.loop-c.yielded _
    c.loop-c.yielded_by _ _ c.in-None.is c.next.ensures.steps in
    c.end.ensures
    ∙ sym (at_drop_all (λ cs. flaw_from cs c.loop-c.scan) (chars c.args.pattern.now) (length c.loop-c.yielded) (omega (arith, t.1)))
    ∙ c.loop-c.invariant
