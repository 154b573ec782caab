use Rattle.std.proofs.Common.{map, length, ◌+◌, ap, sym, subst, ◌∙◌, arith}
use Rattle.rule_lists.specs.Lists.{IsListOf}
use Rattle.rule_lists.proofs.ListOf.{list-of}
use Rattle.rule_lists.proofs.Columns.{column-is}
use Rattle.rule_lists.proofs.Built.{built-start, built-end, later-step, rows-in, rows-out}
use Rattle.rule_lists.specs.Rows.{list_at}
use Rattle.rule_lists.proofs.rows.build_rows.Goals as goal

pub loop-k-init : goal.loop-k-init
loop-k-init g c =
    let tests = map (λ list. g.R.Listed.listed c.args.place.now list) c.args.lists.now in
    let start = built-start tests (c.args.first + length c.args.rules.now) c.args.rules.now
    c.new-rows.result.items c.new-rows.ensures.items in
    record { rows = start.0; later = start.1 }

pub loop-k-preserved-in-Continue-1 : goal.loop-k-preserved-in-Continue-1
loop-k-preserved-in-Continue-1 g c =
    let tests = map (λ list. g.R.Listed.listed c.args.place.now list) c.args.lists.now in
    let later = later-step tests c.args.first c.args.rules.now c.loop-k.k c.index-rules-k.result
    c.loop-k-test.true c.loop-k.auto.k c.index-rules-k.is c.loop-k.later c.lists_with-lists.result
    c.loop-k.invariant.later c.lists_with-lists.ensures in
    record {
      rows = rw c.in_ok-push.ensures.items
          (rows-in tests c.args.first c.args.rules.now c.loop-k.k c.index-rules-k.result c.loop-k-test.true
          c.loop-k.auto.k c.index-rules-k.is c.loop-k.rows.items _ c.lists_with-lists.result
          c.if-lists-ne0.true c.lists_with-lists.ensures later c.loop-k.invariant.rows);
      later = later;
    }

pub loop-k-preserved : goal.loop-k-preserved
loop-k-preserved g c =
    let tests = map (λ list. g.R.Listed.listed c.args.place.now list) c.args.lists.now in
    let later = later-step tests c.args.first c.args.rules.now c.loop-k.k c.index-rules-k.result
    c.loop-k-test.true c.loop-k.auto.k c.index-rules-k.is c.loop-k.later c.lists_with-lists.result
    c.loop-k.invariant.later c.lists_with-lists.ensures in
    record {
      rows = rows-out tests c.args.first c.args.rules.now c.loop-k.k c.index-rules-k.result c.loop-k-test.true
          c.loop-k.auto.k c.index-rules-k.is c.loop-k.rows.items c.lists_with-lists.result
          c.if-lists-ne0.false c.lists_with-lists.ensures c.loop-k.invariant.rows;
      later = later;
    }

pub returns-clause-lists : goal.returns-clause-lists
returns-clause-lists g c =
    let listed = g.R.Listed.listed c.args.place.now in
    let first = c.args.first in
    let rules = c.args.rules.now in
    let rows = built-end (map listed c.args.lists.now) first rules c.loop-k.k c.reverse.new.self.items
    (omega (arith, c.loop-k-test.false)) (c.reverse.ensures.items ∙ c.loop-k.invariant.rows) in
    λ k list e. subst (IsListOf (listed list) first rules)
    (sym (ap (list_at k) rows ∙ column-is listed c.args.lists.now first rules k list e))
    (list-of (listed list) first rules)
