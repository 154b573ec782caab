use Rattle.std.proofs.Common.{◌≡◌, ◌<◌, ◌-◌, ◌∷◌, drop, take, length, sym, ap, ◌∙◌, arith, true≢false}
use Rattle.std.proofs.lemmas.List.{drop_more, length-drop, take_all}
use Rattle.filter_engine.proofs.GlobParts.{folders_written, star_written}
use Rattle.filter_engine.proofs.glob.part.read_star.Goals as goal

pub returns-then-begins_folders-clause-part : goal.returns-then-begins_folders-clause-part
returns-then-begins_folders-clause-part c =
    let text = c.args.text.now in
    let w = c.begins_folders.ensures.0 c.if-begins_folders.true in
    let len = length-drop 3 text in
    let whole : take (length text - 3) (drop 3 text) ≡ drop 3 text =
    take_all (length text - 3) (drop 3 text) (omega arith) in
    let rest : drop 3 text ≡ w.0 = ap (drop 3) w.1 in
    rw (c.folders_part.ensures, whole)
    (folders_written c.args.inside c.args.place text (drop 3 text) (w.1 ∙ ap (λ r. 42 ∷ 42 ∷ 47 ∷ r) (sym rest)) w.2)

pub returns-then-begins_last-clause-part : goal.returns-then-begins_last-clause-part
returns-then-begins_last-clause-part c =
    let text = c.args.text.now in
    let w = c.begins_last.ensures.0 c.if-begins_last.true in
    let rest : drop 2 text ≡ w.0 = ap (drop 2) w.1 in
    rw rest (w.1, w.2)

pub returns-clause-part : goal.returns-clause-part
returns-clause-part c =
    let text = c.args.text.now in
    let some : 0 < length text = c.requires.some in
    let e = drop_more text 0 0 some in
    star_written c.args.inside c.args.place text (drop 1 text) (e ∙ ap (λ b. b ∷ drop 1 text) c.requires.star)
    (λ w. true≢false (sym (c.begins_folders.ensures.1 w) ∙ c.if-begins_folders.false))
    (λ w. true≢false (sym (c.begins_last.ensures.1 w) ∙ c.if-begins_last.false))
