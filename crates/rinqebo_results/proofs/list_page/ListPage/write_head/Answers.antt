use Rattle.std.proofs.Common.{◌∙◌, [], inr, subst}
use Rattle.std.proofs.KnownBytes.{Appends-nil}
use Rattle.std.specs.Io.KnownBytes.{Appends}
use Rattle.rinqebo_report.specs.Headers.{list_head_runs}
use Rattle.rinqebo_report.specs.Pieces.{page_text}
use Rattle.rinqebo_results.proofs.Stops.{passed_stop, stops_text}
use Rattle.rinqebo_results.proofs.list_page.ListPage.write_head.Goals as goal

pub returns-in_err-write_text-clause-err : goal.returns-in_err-write_text-clause-err
returns-in_err-write_text-clause-err g c =
    let self = c.args.self.now in
    let old = g.O.Write.contents c.args.out.now in
    let new = g.O.Write.contents c.write_text.new.out in
    let page = page_text self.paper.colour (list_head_runs self.paper.columns c.args.asked.now) in
    passed_stop _ c.from_residual-in_err-write_text.result c.in_err-write_text.field-0.0
    c.from_residual-in_err-write_text.ensures.1
    (stops_text (λ _. ⊥) (λ _. ⊥) (λ whole. Appends old whole page) old old new c.as_str.result.now
    c.in_err-write_text.field-0.0 c.in_err-write_text.ensures.err ([], Appends-nil old)
    c.write_text.ensures.begun
    (λ whole written. inr (subst (Appends old whole) (c.as_str.ensures.value ∙ c.in_ok-text.ensures) written)))
