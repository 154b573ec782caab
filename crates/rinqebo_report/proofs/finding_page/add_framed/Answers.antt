use Rattle.std.proofs.Common.{◌≡◌, ◌++◌, List, [], ◌∷◌, string_bytes}
use Rattle.rinqebo_report.proofs.Pages.{and_runs}
use Rattle.rinqebo_report.proofs.WholeTexts.{on_ok}
use Rattle.rinqebo_report.specs.Excerpts.{excerpt_runs, remarks_runs}
use Rattle.rinqebo_report.specs.Pages.{title_runs, arrow_runs, apart_runs, framed_runs}
use Rattle.rinqebo_report.specs.Pieces.{Run, ending, page_text}
use Rattle.rinqebo_report.proofs.finding_page.add_framed.Goals as goal

pub returns : goal.returns
returns c =
    let tint = c.args.colour in
    let finding = c.args.finding.now in
    let title = title_runs finding in
    let arrow = arrow_runs c.args.margin c.args.root.now c.args.sources.now finding.place finding.column in
    let excerpt = excerpt_runs c.args.margin finding in
    let apart = apart_runs finding in
    let remarks = remarks_runs c.args.margin finding in
    let last : List Run = ending ∷ [] in
    on_ok c.add_end.result
    (string_bytes c.add_end.new.out ≡ string_bytes c.add_remarks.new.out ++ page_text tint last)
    (string_bytes c.add_end.new.out ≡ string_bytes c.args.out.now
    ++ page_text tint (framed_runs c.args.margin c.args.root.now c.args.sources.now finding))
    (λ ended.
    and_runs tint title (arrow ++ (excerpt ++ (apart ++ (remarks ++ last)))) _ _ _ c.in_ok-add_title.ensures
    (and_runs tint arrow (excerpt ++ (apart ++ (remarks ++ last))) _ _ _ c.in_ok-add_arrow.ensures
    (and_runs tint excerpt (apart ++ (remarks ++ last)) _ _ _ c.in_ok-add_excerpt.ensures
    (and_runs tint apart (remarks ++ last) _ _ _ c.in_ok-add_apart.ensures
    (and_runs tint remarks last _ _ _ c.in_ok-add_remarks.ensures ended)))))
    c.add_end.ensures
