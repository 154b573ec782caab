use Rattle.std.proofs.Common.{ℕ, All, List, Option, option_map, subst, sym}
use Rattle.std.proofs.lemmas.List.Elements.{All-push}
use Rattle.nextest_inheritance.specs.View.{borrowed_view}
use Rattle.rinqebo_origins.proofs.Copies.{copies_at, copies_reported}
use Rattle.rinqebo_origins.specs.KnownOrigins.{AreOriginsAt, IsKnown}
use Rattle.rinqebo_origins.specs.RulePlaces.{Place, place_view}
use Rattle.rinqebo_origins.specs.TestOrigins.{Basis}
use Rattle.rinqebo_origins.proofs.origins.Origins.of.Goals as goal

pub returns-in-Some-clause-told : goal.returns-in-Some-clause-told
returns-in-Some-clause-told c =
    let basis = c.args.self.now in
    let known : All (IsKnown basis) c.deref.result.now =
    subst (All (IsKnown basis)) (sym c.deref.ensures.value)
    (subst (λ b. All (IsKnown b) c.self.inside.known.items) c.self.view_is c.self.invariant) in
    copies_reported c.all_copied.result basis _ _ _ c.in-Some.origins.now c.all_copied.ensures
    (c.in-Some.ensures basis known)

pub invariant_of-self-2 : goal.invariant_of-self-2
invariant_of-self-2 c =
    let basis : Basis = record { layers = c.self.inside.layers.now; chain = borrowed_view c.self.inside.chain.now } in
    rw c.in_ok-push.ensures.items (All-push (IsKnown basis) _ _ c.self.invariant c.in_ok-origins.ensures)

pub returns-clause-told : goal.returns-clause-told
returns-clause-told c =
    let basis = c.args.self.now in
    let place : Option Place = option_map place_view c.args.rule in
    let table : Option (List ℕ) = option_map (λ table. table.now) c.args.key.table in
    let name : List ℕ = c.args.key.key.now in
    copies_at basis place table name c.deref-2.result.now c.in_ok-copies.copies.items c.in_ok-copies.ensures
    (subst (AreOriginsAt basis place table name) (sym c.deref-2.ensures.value)
    (subst (λ b. AreOriginsAt b place table name c.in_ok-origins.origins.items) c.self.view_is
    c.in_ok-origins.ensures))
