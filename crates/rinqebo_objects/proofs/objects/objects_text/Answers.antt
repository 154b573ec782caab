use Rattle.serde_json.specs.View.{view}
use Rattle.rinqebo_objects.proofs.objects.objects_text.Goals as goal

pub returns : goal.returns
returns g c =
    let objects = view c.in_ok-objects.objects.value in
    (objects, c.in_ok-objects.ensures, c.in_ok-text.ensures.text)
