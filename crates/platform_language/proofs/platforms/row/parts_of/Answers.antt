-- The cell is cut at its commas.
use Rattle.std.proofs.Common.{◌≡◌, ◌∙◌, sym, subst, IfOk, map, lit<, []}
use Rattle.std.specs.Prelude.{◌==◌, if◌then◌else◌}
use Rattle.std.specs.List.{slice_split}
use Rattle.std.proofs.lemmas.Iterator.Consumers.{map_from_collect}
use Rattle.std.proofs.lemmas.Iterator.Splits.{YieldsList-from_str_split}
use Rattle.platform_language.proofs.platforms.row.parts_of.Goals as goal

pub returns : goal.returns
returns c =
    let cell = c.args.cell.now in
    let parts = slice_split (λ byte. byte == 44) cell in
    subst (λ empty. IfOk c.collect.result (λ made. map (λ part. part.now) made.items ≡ (if empty then [] else parts)))
    (sym (sym c.is_empty.ensures ∙ c.if-is_empty.false))
    (map_from_collect _ c.collect.ensures.ran
    (YieldsList-from_str_split 44 cell (lit< tt) c.split.ensures.text c.split.ensures.has_more
    c.split.ensures.pattern))
