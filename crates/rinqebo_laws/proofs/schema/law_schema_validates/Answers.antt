use Rattle.rinqebo_laws.proofs.Meanings.{accepts_from, accepts_to}
use Rattle.rinqebo_laws.proofs.SchemaValidates.{every_same, file_once}
use Rattle.rinqebo_laws.proofs.schema.law_schema_validates.Goals as goal
use Rattle.rinqebo_laws.specs.Matching.{IsMatched}
use Rattle.nextest_shape.specs.FileForm.{file_form}

pub returns : goal.returns
returns c = record {
  every = every_same;
  file = λ m. every_same m file_form file_once;
  meant = λ f v. (accepts_from _ (λ p s h. h) f v, accepts_to _ (λ p s h. h) f v);
  accepted = λ m more v h. (every_same m file_form file_once v).1 (accepts_to (IsMatched m) more file_form v h);
  valid = λ m less v h. accepts_from (IsMatched m) less file_form v ((every_same m file_form file_once v).0 h);
}
