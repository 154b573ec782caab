use Rattle.std.proofs.Common.{ℕ, ◌<◌, ◌+◌, length, arith, sym, subst, ◌∙◌}
use Rattle.nextest_inheritance.proofs.Least.{IsLeastBelow, least_kept, least_lower}
use Rattle.nextest_inheritance.proofs.cycles.place_of_least.Goals as goal
use Rattle.nextest_inheritance.proofs.cycles.place_of_least.Goals.{then-lt, else-lt}

pub loop-place-preserved : goal.loop-place-preserved
loop-place-preserved c =
    let names = c.args.names.now in
    let within : c.loop-place.least < length names = c.loop-place.invariant.within (omega arith) in
    let so_far : IsLeastBelow names c.loop-place.least c.loop-place.place = c.loop-place.invariant.least in
    elim c.if-lt.branch [
      | then-lt w ↦ record {
        within = λ _. omega (arith, w.least-is);
        least = let P : ℕ → Type 0 = λ k. IsLeastBelow names k (c.loop-place.place + 1) in
            subst P (sym w.least-is) (least_lower names c.loop-place.least c.loop-place.place _ _ within
            c.loop-place-test.true (sym c.lt.ensures ∙ w.if-lt.true) so_far);
      }
      | else-lt w ↦ record {
        within = λ _. omega (arith, w.least-is);
        least = let P : ℕ → Type 0 = λ k. IsLeastBelow names k (c.loop-place.place + 1) in
            subst P (sym w.least-is) (least_kept names c.loop-place.least c.loop-place.place _ _ within
            c.loop-place-test.true (sym c.lt.ensures ∙ w.if-lt.false) so_far);
      }
    ]
