use Rattle.std.proofs.Common.{rules, tests}
use Rattle.std.proofs.lemmas.Iterator.{YieldsList-from_slice}
use Rattle.std.proofs.lemmas.Iterator.Search.{position_from_yields_List}
use Rattle.rinqebo_changes.specs.Keyed.{is_of}
use Rattle.rinqebo_changes.proofs.KeyedRows.{place_by}
use Rattle.rinqebo_changes.proofs.keyed.place_of.Goals as goal

pub returns : goal.returns
returns c =
    place_by c.args.key.now c.args.rows.now c.position.result
    (position_from_yields_List (is_of c.args.key.now) _ _ c.position.result c.position.ensures.ran
    (YieldsList-from_slice c.args.rows.now cc) (λ x b q k. search (rules, tests)))
