use Rattle.std.proofs.Common.{◌∙◌, [], ap, inr, string_bytes, subst}
use Rattle.std.proofs.KnownBytes.{Appends-nil}
use Rattle.std.specs.Io.KnownBytes.{Appends}
use Rattle.rinqebo_report.specs.Pages.{list_end_runs}
use Rattle.rinqebo_report.specs.Pieces.{page_text}
use Rattle.rinqebo_results.specs.ListedBy.{places_of}
use Rattle.rinqebo_results.specs.Written.{EndsPage}
use Rattle.rinqebo_results.proofs.Listing.{reported_in}
use Rattle.rinqebo_results.proofs.Stops.{passed_stop, stops_text}
use Rattle.rinqebo_results.proofs.list_page.ListPage.write_end.Goals as goal

pub returns-clause-ok : goal.returns-clause-ok
returns-clause-ok g c =
    let self = c.args.self.now in
    let head = self.head.now in
    record {
      unused = c.in_ok-origins.origins;
      are_origins = reported_in _ _ _ _ c.deref.ensures.value c.in_ok-origins.ensures;
      page = subst (Appends (g.O.Write.contents c.args.out.now) (g.O.Write.contents c.write_last.new.out))
          (c.as_str.ensures.value ∙ c.in_ok-text.ensures
          ∙ ap (λ origins. page_text self.paper.colour (list_end_runs self.paper.columns (string_bytes head.root)
          head.sources.items c.args.count origins)) c.deref-2.ensures.value) c.in_ok-write_last.ensures.ok;
    }

pub returns-in_err-write_last-clause-err : goal.returns-in_err-write_last-clause-err
returns-in_err-write_last-clause-err g c =
    let self = c.args.self.now in
    let head = self.head.now in
    let old = g.O.Write.contents c.args.out.now in
    let new = g.O.Write.contents c.write_last.new.out in
    passed_stop _ c.from_residual-in_err-write_last.result c.in_err-write_last.field-0.0
    c.from_residual-in_err-write_last.ensures.1
    (stops_text (λ _. ⊥) (λ _. ⊥)
    (EndsPage self.session.now head self.paper c.args.count (places_of c.args.unused.now) old) old old new
    c.as_str.result.now c.in_err-write_last.field-0.0 c.in_err-write_last.ensures.err ([], Appends-nil old)
    c.write_last.ensures.begun
    (λ whole written. inr (record {
      unused = c.in_ok-origins.origins;
      are_origins = reported_in _ _ _ _ c.deref.ensures.value c.in_ok-origins.ensures;
      page = subst (Appends old whole)
          (c.as_str.ensures.value ∙ c.in_ok-text.ensures
          ∙ ap (λ origins. page_text self.paper.colour (list_end_runs self.paper.columns (string_bytes head.root)
          head.sources.items c.args.count origins)) c.deref-2.ensures.value) written;
    })))
