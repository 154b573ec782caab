use Rattle.std.proofs.Common.{option_map, subst, sym}
use Rattle.std.proofs.lemmas.List.Elements.{All-get_or}
use Rattle.rinqebo_origins.proofs.Copies.{known_at}
use Rattle.rinqebo_origins.specs.KnownOrigins.{AreOriginsAt, IsKnown}
use Rattle.rinqebo_origins.specs.RulePlaces.{place_view}
use Rattle.rinqebo_origins.proofs.origins.known_of.Goals as goal

pub returns-then-are_of : goal.returns-then-are_of
returns-then-are_of c = λ basis all.
    let found = c.if-are_of.true in
    subst (AreOriginsAt basis (option_map place_view c.args.rule) (option_map (λ table. table.now) c.args.key.table)
    c.args.key.key.now) (sym c.as_slice.ensures.value)
    (known_at basis c.one-item.result _ _ _ (c.are_of.ensures.rule found) (c.are_of.ensures.table found) (c.are_of.ensures.key found)
    (subst (IsKnown basis) (sym c.one-item.is)
    (All-get_or (IsKnown basis) c.args.known.now c.loop-one.one-index c.one-item.result c.loop-one-test.true all)))
