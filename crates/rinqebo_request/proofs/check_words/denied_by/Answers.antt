use Rattle.std.proofs.Common.{◌∙◌, codes, refl, sym}
use Rattle.std.proofs.lemmas.Slice.Eq.{bytes_eq-Decides}
use Rattle.rinqebo_request.proofs.check_words.denied_by.Goals as goal

pub returns-then-eq : goal.returns-then-eq
returns-then-eq c = ((bytes_eq-Decides c.args.word.now (codes "warnings")).0 (sym c.eq.ensures ∙ c.if-eq.true), refl)
