use Rattle.std.proofs.Common.{◌≡◌, ◌++◌, OnOk, string_bytes, subst, sym}
use Rattle.rinqebo_report.specs.Pages.{ignored_runs}
use Rattle.rinqebo_report.specs.Pieces.{page_text}
use Rattle.rinqebo_report.proofs.why_page.add_ignored.Goals as goal

pub returns-then-is_ignored : goal.returns-then-is_ignored
returns-then-is_ignored c =
    subst (λ is_ignored. OnOk c.add_remark.result (string_bytes c.add_remark.new.out
    ≡ string_bytes c.args.out.now ++ page_text c.args.colour (ignored_runs is_ignored)))
    (sym c.if-is_ignored.true) c.add_remark.ensures
