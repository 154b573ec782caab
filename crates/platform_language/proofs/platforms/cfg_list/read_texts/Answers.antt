-- One text more is empty, writes a line, or is the first that is bad.
use Rattle.std.proofs.Common.{◌+◌, ◌∙◌, sym, ap, subst, map, take, arith}
use Rattle.std.proofs.lemmas.List.{take_all}
use Rattle.platform_language.specs.Platforms.Platforms.{line_view, line_of}
use Rattle.platform_language.specs.Platforms.CfgLines.{WritesLines}
use Rattle.platform_language.proofs.platforms.CfgLineLemmas.{texts_at, length-texts, WritesLines-none, WritesLines-more, WritesLines-same, first_bad}
use Rattle.platform_language.proofs.platforms.cfg_list.read_texts.Goals as goal

pub loop-index-init : goal.loop-index-init
loop-index-init c = WritesLines-none (texts_at c.args.texts.now) _ (ap (map line_view) c.new-read.ensures.items)

pub loop-index-preserved-then-is_empty : goal.loop-index-preserved-then-is_empty
loop-index-preserved-then-is_empty c =
    WritesLines-same c.args.texts.now c.loop-index.index _ (map line_view c.loop-index.read.items)
    c.loop-index-test.true c.loop-index.invariant
    (sym c.is_empty.ensures ∙ c.if-is_empty.true)

pub loop-index-preserved : goal.loop-index-preserved
loop-index-preserved c =
    subst (WritesLines (take (c.loop-index.index + 1) (texts_at c.args.texts.now))) (sym c.in_ok-push_line.ensures)
    (WritesLines-more c.args.texts.now c.loop-index.index _ (map line_view c.loop-index.read.items)
    (line_of c.in-Some.key.now c.in-Some.value) c.loop-index-test.true c.loop-index.invariant
    (sym c.is_empty.ensures ∙ c.if-is_empty.false) c.in-Some.ensures)

pub returns-in_default : goal.returns-in_default
returns-in_default c =
    first_bad c.args.texts.now c.loop-index.index _ (map line_view c.loop-index.read.items)
    c.loop-index-test.true c.loop-index.invariant
    (sym c.is_empty.ensures ∙ c.if-is_empty.false) c.in_default.ensures

pub returns : goal.returns
returns c =
    let texts = texts_at c.args.texts.now in
    subst (λ all. WritesLines all (map line_view c.loop-index.read.items))
    (take_all c.loop-index.index texts (omega (arith, length-texts c.args.texts.now))) c.loop-index.invariant
