use Rattle.std.proofs.Common.{◌∙◌, ap, codes, option_map, refl, sym}
use Rattle.std.proofs.lemmas.Slice.Eq.{bytes_eq-Decides}
use Rattle.rinqebo_request.proofs.Choosing.{chosen_one}
use Rattle.rinqebo_request.proofs.Commands.{differs}
use Rattle.rinqebo_request.proofs.check_words.file_named.Goals as goal

pub returns-then-eq : goal.returns-then-eq
returns-then-eq c = (
  sym c.has.ensures ∙ c.if-has.false,
  (bytes_eq-Decides c.args.path.now (codes "-")).0 (sym c.eq.ensures ∙ c.if-eq.true),
  chosen_one c.args.shown _ c.unwrap_or.result _ c.unwrap_or.ensures refl,
)

pub returns-in-None : goal.returns-in-None
returns-in-None c = (
  sym c.has.ensures ∙ c.if-has.false,
  differs c.args.path.now (codes "-") (sym c.eq.ensures ∙ c.if-eq.false),
  refl,
  ap (option_map (λ t. t.now)) c.in-None.is,
)
