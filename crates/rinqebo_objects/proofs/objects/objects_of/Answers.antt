use Rattle.std.proofs.Common.{map, option_map, string_bytes}
use Rattle.nextest_sources.specs.WarningsView.{warnings_view}
use Rattle.serde_json.specs.View.{view}
use Rattle.rinqebo_objects.specs.Scripts.{directories_view}
use Rattle.rinqebo_objects.specs.Uses.{used_by}
use Rattle.rinqebo_objects.proofs.ExactObjects.{objects_nest, objects_are_whole}
use Rattle.rinqebo_objects.proofs.objects.objects_of.Goals as goal

pub invariant_of-result : goal.invariant_of-result
invariant_of-result g c =
    let facts = c.args.profile.now.facts in
    let run = c.in_ok-run.run' in
    let profiles = map string_bytes c.args.around.profiles.now in
    let warnings = warnings_view c.args.around.warnings.now in
    let directories = directories_view c.args.around.directories in
    let used = used_by c.args.list in
    let origins = option_map (λ origins. origins.now) c.args.around.origins in
    let value = view c.in_ok-value.value in
    record {
      nests = objects_nest facts run profiles warnings directories used origins value c.in_ok-value.ensures;
      whole = objects_are_whole facts run profiles warnings directories used origins value c.in_ok-value.ensures;
    }
