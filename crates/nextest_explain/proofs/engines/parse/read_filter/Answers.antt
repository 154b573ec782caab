use Rattle.std.proofs.Common.{◌∙◌, ap, sym, rules, option_map, map}
use Rattle.nextest_explain.specs.Engines.FilterValues.{term_of, lists_of}
use Rattle.nextest_explain.specs.Engines.FilterTexts.{parts_so_far, filter_after, pieces, filter_in_pieces}
use Rattle.nextest_explain.proofs.engines.FilterTexts.{first_none, first_some, more_none, more_some, begun_by}
use Rattle.nextest_explain.proofs.engines.parse.read_filter.Goals as goal

pub returns-in_default : goal.returns-in_default
returns-in_default c = sym (ap filter_in_pieces c.in_default.ensures.parts)

pub returns-in_default-2 : goal.returns-in_default-2
returns-in_default-2 c =
    sym (first_none c.args.text.now c.in-Some.piece.now c.in-Some.rest.now c.in-Some.ensures.parts
    (sym c.in_ok-term.ensures ∙ ap (option_map term_of) c.in_default-2.is))

pub loop-piece-init : goal.loop-piece-init
loop-piece-init c =
    let rest = c.in-Some.rest.now in
    let read = sym c.in_ok-term.ensures ∙ ap (option_map term_of) c.in-Some-2.is in
    let parts = begun_by _ _ (term_of c.in-Some-2.term) (ap lists_of c.new.ensures.items)
    (ap (map term_of) c.in_ok-vec.ensures.items) in
    record {
      utf8 = search rules;
      means = first_some c.args.text.now c.in-Some.piece.now rest (term_of c.in-Some-2.term)
          c.in-Some.ensures.parts read ∙ ap (λ s. filter_after s (pieces rest)) parts;
    }

pub returns-in_default-3 : goal.returns-in_default-3
returns-in_default-3 c =
    let l = c.loop-piece in
    let none = sym c.in_ok-more.ensures ∙ ap (option_map parts_so_far) c.in_default-3.is in
    sym (l.invariant.means ∙ more_none (parts_so_far l.read) l.rest.now c.in-Some-cut.piece.now
    c.in-Some-cut.behind.now c.in-Some-cut.ensures.parts none)

pub loop-piece-preserved : goal.loop-piece-preserved
loop-piece-preserved c =
    let l = c.loop-piece in
    let more = c.in-Some-3.more in
    let some = sym c.in_ok-more.ensures ∙ ap (option_map parts_so_far) c.in-Some-3.is in
    record {
      utf8 = search rules;
      means = l.invariant.means
          ∙ more_some (parts_so_far l.read) (parts_so_far more) l.rest.now c.in-Some-cut.piece.now
          c.in-Some-cut.behind.now c.in-Some-cut.ensures.parts some;
    }
