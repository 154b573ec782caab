use Rattle.std.proofs.Common.{◌≡◌, map, string_bytes, refl, sym, ap, ◌∙◌, false, ◌∷◌, [], arith}
use Rattle.std.proofs.lemmas.Grind.{common_steps}
use Rattle.nextest_tree.specs.Key.{key_text}
use Rattle.nextest_tree.specs.Schema.{is_one_of, below}
use Rattle.nextest_tree.specs.Reads.{walk_view, noting}
use Rattle.nextest_tree.proofs.Reading.{left, left_one, noting_none}
use Rattle.nextest_tree.proofs.Trees.{keys-members}
use Rattle.nextest_tree.proofs.table.note_others.Goals as goal

pub loop-key-init : goal.loop-key-init
loop-key-init c =
    let at = walk_view c.args.walk.now in
    record {
      path = refl;
      noted =
          ap (λ ks. left c.args.names.now at.path ks at)
          (ap (map string_bytes) (c.into_iter-key-iterator.ensures.into_iter_gives
          ∙ c.keys-key-items.ensures.rest) ∙ sym (keys-members c.args.members.now.entries));
    }

pub loop-key-preserved-in-Continue-1 : goal.loop-key-preserved-in-Continue-1
loop-key-preserved-in-Continue-1 c =
    let l = c.loop-key in
    let p = (walk_view c.args.walk.now).path in
    let k = string_bytes c.in-Some.key.now in
    let free : is_one_of (map key_text c.args.names.now) k ≡ false =
    rw (← c.as_str.ensures.value) (sym c.is_among.ensures ∙ grind (arith, common_steps, c.if-not-is_among.true)) in
    let named : walk_view c.note.new.self ≡ noting (below p k ∷ []) (walk_view l.walk) =
    rw (← l.invariant.path, ← c.as_str-then-not-is_among.ensures.value) c.in_ok-note.ensures.ok in
    record {
      path = ap (λ s. s.path) named ∙ l.invariant.path;
      noted = left_one c.args.names.now p k (map string_bytes c.next.new.self) (walk_view l.walk)
          (walk_view c.note.new.self) free named
          ∙ ap (λ ks. left c.args.names.now p (map string_bytes ks) (walk_view l.walk)) (sym c.in-Some.ensures.steps)
          ∙ l.invariant.noted;
    }

pub returns-clause-ok : goal.returns-clause-ok
returns-clause-ok c =
    sym (noting_none (walk_view c.loop-key.walk))
    ∙ ap (λ ks. left c.args.names.now (walk_view c.args.walk.now).path (map string_bytes ks)
    (walk_view c.loop-key.walk)) (sym c.in-None.ensures.steps.0)
    ∙ c.loop-key.invariant.noted
