use Rattle.std.proofs.Common.{◌∙◌, ap, map}
use Rattle.nextest_inheritance.specs.View.{borrowed_view}
use Rattle.rinqebo_request.specs.Files.Origins.{reported_file}
use Rattle.rinqebo_results.proofs.Requests.{requested_on}
use Rattle.rinqebo_diff.proofs.sides.side_of.Goals as goal

pub returns : goal.returns
returns c = record {
  root = c.in_ok-clone.ensures.cases;
  sources = c.in_ok-sources_of.ensures ∙ ap (map (λ layer. reported_file layer.source)) c.deref.ensures.value;
  requested = requested_on c.args.loaded.now.session c.args.side.now.profile.now c.args.side.now.mode _ _ _
      (ap borrowed_view c.deref-2.ensures.value) c.in_ok-requested_of.ensures;
}
