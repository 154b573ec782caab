use Rattle.std.proofs.Common.{◌≡◌, ◌==◌, ◌-◌, ◌<◌, true, false, length, le_refl, refl, ◌∙◌, rules, arith}
use Rattle.std.proofs.lemmas.Grind.{common_steps}
use Rattle.toml_parser.specs.Lexical.{first, skip_blank}
use Rattle.nextest_places.specs.Expressions.{after_value}
use Rattle.nextest_places.proofs.Passing.{items_end, items_more, members_end, members_more, value_atom, value_items, value_members}
use Rattle.nextest_places.proofs.expression.+after_value.Goals as goal

pub after_items-items-init : goal.after_items-items-init
after_items-items-init t c = (search rules, le_refl _, λ n h. (n, h, refl))

pub after_items-returns-then-first-eq93-clause-value : goal.after_items-returns-then-first-eq93-clause-value
after_items-returns-then-first-eq93-clause-value t c n h =
    let l = c.items in
    let (m, room, loop) = l.invariant.2 n h in
    let closing : (first (skip_blank l.rest.now) == 93) ≡ true = grind (arith, common_steps) in
    loop ∙ items_end (after_value c.args.depth) m l.rest.now (omega arith) closing
    ∙ rw (c.skip.ensures.rest, c.skip_blank-start.ensures.rest) refl

pub after_items-items-preserved : goal.after_items-items-preserved
after_items-items-preserved t c =
    let l = c.items in
    let start_is = c.skip_blank-start.ensures.rest in
    let other : (first (skip_blank l.rest.now) == 93) ≡ false = grind (arith, common_steps) in
    let shorter = c.in_ok-after.ensures.shorter in
    let within = c.in_ok-rest.ensures.within in
    let before = c.skip_blank-start.ensures.within in (
      search rules,
      omega (arith, l.invariant.1),
      λ n h.
          let (m, room, loop) = l.invariant.2 n h in (
            m - 1,
            omega arith,
            loop ∙ items_more (after_value c.args.depth) m l.rest.now _ _ (omega arith) other
                (rw start_is at c.in_ok-after.ensures.value) c.in_ok-rest.ensures.value,
          ),
    )

pub after_members-members-init : goal.after_members-members-init
after_members-members-init t c = (search rules, le_refl _, λ n h. (n, h, refl))

pub after_members-returns-then-first-eq125-clause-value : goal.after_members-returns-then-first-eq125-clause-value
after_members-returns-then-first-eq125-clause-value t c n h =
    let l = c.members in
    let (m, room, loop) = l.invariant.2 n h in
    let closing : (first (skip_blank l.rest.now) == 125) ≡ true = grind (arith, common_steps) in
    loop ∙ members_end (after_value c.args.depth) m l.rest.now (omega arith) closing
    ∙ rw (c.skip.ensures.rest, c.skip_blank-start.ensures.rest) refl

pub after_members-members-preserved : goal.after_members-members-preserved
after_members-members-preserved t c =
    let l = c.members in
    let start_is = c.skip_blank-start.ensures.rest in
    let other : (first (skip_blank l.rest.now) == 125) ≡ false = grind (arith, common_steps) in
    let shorter = c.in_ok-at_value.ensures.shorter in
    let shorter_again = c.in_ok-after.ensures.shorter in
    let within = c.in_ok-rest.ensures.within in
    let before = c.skip_blank-start.ensures.within in (
      search rules,
      omega (arith, l.invariant.1),
      λ n h.
          let (m, room, loop) = l.invariant.2 n h in (
            m - 1,
            omega arith,
            loop ∙ members_more (after_value c.args.depth) m l.rest.now _ _ _ (omega arith) other
                (rw start_is at c.in_ok-at_value.ensures.value) c.in_ok-after.ensures.value
                c.in_ok-rest.ensures.value,
          ),
    )

pub after_value-returns-then-byte-ne123-clause-value : goal.after_value-returns-then-byte-ne123-clause-value
after_value-returns-then-byte-ne123-clause-value t c =
    let s = c.args.s.now in
    let a : (first s == 91) ≡ false = grind (arith, common_steps) in
    let b : (first s == 123) ≡ false = grind (arith, common_steps) in
    rw (value_atom c.args.depth s a b) c.after_atom.ensures.value

pub after_value-returns-then-byte-eq91-clause-value : goal.after_value-returns-then-byte-eq91-clause-value
after_value-returns-then-byte-eq91-clause-value t c =
    let s = c.args.s.now in
    let some : 0 < c.args.depth = omega arith in
    let a : (first s == 91) ≡ true = grind (arith, common_steps) in
    rw (value_items c.args.depth s some a, ← c.skip.ensures.rest)
    (c.after_items.ensures.value (length s) c.skip.ensures.shorter)

pub after_value-returns-else-byte-eq91-clause-value : goal.after_value-returns-else-byte-eq91-clause-value
after_value-returns-else-byte-eq91-clause-value t c =
    let s = c.args.s.now in
    let some : 0 < c.args.depth = omega arith in
    let a : (first s == 91) ≡ false = grind (arith, common_steps) in
    let b : (first s == 123) ≡ true = grind (arith, common_steps) in
    rw (value_members c.args.depth s some a b, ← c.skip-else-byte-eq91.ensures.rest)
    (c.after_members.ensures.value (length s) c.skip-else-byte-eq91.ensures.shorter)
