use Rattle.std.proofs.Common.{Bor, List, ap, map, refl, ℕ}
use Rattle.rinqebo_report.proofs.AlikeRequests.{alike}
use Rattle.rinqebo_resolve.specs.Asking.{requested_view}
use Rattle.rinqebo_resolve.proofs.ShownLists.{named_in}
use Rattle.rinqebo_resolve.proofs.asking.RequestedRun.request.Goals as goal

pub returns : goal.returns
returns c =
    let named = named_in (requested_view c.args.self.now) c.in_ok-question.field-0 c.in_ok-question.ensures in
    record {
      question = c.in_ok-question.ensures;
      shown = alike c.args.command named.0 (ap (map (λ (key : Bor (List ℕ)). key.now)) c.new.ensures.items) refl refl named.1;
      engines = c.engines.ensures;
      features = c.in_ok-features_of.ensures;
      format = refl;
    }
