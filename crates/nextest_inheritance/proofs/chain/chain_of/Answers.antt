use Rattle.std.proofs.Common.{rules, arith, ◌≡◌, ◌≢◌, ◌++◌, ◌∷◌, [], length, ap, ◌∙◌, Bor, unwrap_or}
use Rattle.std.specs.Map.{keys_of}
use Rattle.std.proofs.lemmas.Grind.{common_steps}
use Rattle.std.proofs.lemmas.List.{length-map}
use Rattle.nextest_inheritance.specs.Names.{Name, default_name}
use Rattle.nextest_inheritance.specs.Parents.{parents_in, parent_or_default}
use Rattle.nextest_inheritance.specs.View.{parents_view, borrowed_view}
use Rattle.nextest_inheritance.proofs.Following.{follow_start, follow_step, follow_short, follow_end, unwrap_seen}
use Rattle.nextest_inheritance.proofs.chain.chain_of.Goals as goal

pub loop-next-init : goal.loop-next-init
loop-next-init g c =
    let written = parents_view g.P.Inherits.parent c.args.profiles.now.entries in record {
      followed = rw c.new-chain.ensures.items
          (follow_start (parents_in written) (keys_of written) c.args.name.now c.requires);
      text = c.utf8.name;
    }

pub loop-next-smaller : goal.loop-next-smaller
loop-next-smaller g c =
    let written = parents_view g.P.Inherits.parent c.args.profiles.now.entries in
    let other : c.loop-next.next.now ≢ default_name = search rules in
    let short = follow_short (parents_in written) (keys_of written) c.args.name.now
    (borrowed_view c.loop-next.chain.items) c.loop-next.next.now c.loop-next.invariant.followed other in
    let keys : length (keys_of written) ≡ length c.args.profiles.now.entries = simp length-map in
    let path : length (borrowed_view c.loop-next.chain.items) ≡ length c.loop-next.chain.items = simp length-map in
    omega (arith, short, keys, path, c.in_ok-push.ensures.len)

pub loop-next-preserved : goal.loop-next-preserved
loop-next-preserved g c =
    let written = parents_view g.P.Inherits.parent c.args.profiles.now.entries in
    let other : c.loop-next.next.now ≢ default_name = search rules in
    let path : borrowed_view c.push.new.self.items ≡ borrowed_view c.loop-next.chain.items
    ++ c.loop-next.next.now ∷ [] = grind (arith, common_steps) in
    let next : c.unwrap_or-next.result.now ≡ parent_or_default (parents_in written) c.loop-next.next.now =
    ap (λ (found : Bor Name). found.now) c.unwrap_or-next.ensures ∙ unwrap_seen c.parent_of.result _
    ∙ ap (λ found. unwrap_or found default_name) c.parent_of.ensures in record {
      followed = rw (path, next)
          (follow_step (parents_in written) (keys_of written) c.args.name.now
          (borrowed_view c.loop-next.chain.items) c.loop-next.next.now c.loop-next.invariant.followed other);
      text = c.unwrap_or-next.utf8;
    }

pub returns : goal.returns
returns g c =
    let written = parents_view g.P.Inherits.parent c.args.profiles.now.entries in
    follow_end (parents_in written) (keys_of written) c.args.name.now (borrowed_view c.loop-next.chain.items)
    c.loop-next.next.now c.loop-next.invariant.followed (search rules)
