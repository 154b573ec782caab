use Rattle.std.proofs.Common.{◌≡◌, ◌∙◌, ◌++◌, ◌-◌, ℕ, List, [], rules, length, take, drop, ap, sym, subst, append_assoc, append-nil, take-append-drop, drop_of_length-le}
use Rattle.std.proofs.KnownBytes.{Appends-kept, Appends-trans}
use Rattle.std.proofs.lemmas.List.{take_rest}
use Rattle.std.specs.Io.KnownBytes.{Appends}
use Rattle.rinqebo_results.proofs.streams.write_bytes.Goals as goal

-- what is taken from the rest goes to what is done
moved : (all done rest : List ℕ) (n : ℕ) → all ≡ done ++ rest
    → all ≡ (done ++ take n rest) ++ take (length rest - n) (drop n rest)
moved all done rest n split =
    split
    ∙ ap (λ l. done ++ l) (sym (take-append-drop n rest))
    ∙ sym (append_assoc done (take n rest) (drop n rest))
    ∙ ap (λ l. (done ++ take n rest) ++ l) (sym (take_rest rest n))

pub loop-preserved : goal.loop-preserved
loop-preserved g c =
    let (done, split, appended) = c.loop.invariant in
    let rest = c.loop.rest.now in
    let n = c.in_ok-count.count in
    (done ++ take n rest, moved _ done rest n split, Appends-trans _ _ _ _ _ appended c.in_ok-count.ensures.taken)

pub returns-then-is_empty-clause-ok : goal.returns-then-is_empty-clause-ok
returns-then-is_empty-clause-ok g c =
    let (done, split, appended) = c.loop.invariant in
    let rest = c.loop.rest.now in
    let empty : rest ≡ [] = drop_of_length-le rest {i = 0} (search rules) in
    subst (Appends _ _) (sym (split ∙ ap (λ l. done ++ l) empty ∙ append-nil done)) appended

pub returns-then-is_empty-clause-begun : goal.returns-then-is_empty-clause-begun
returns-then-is_empty-clause-begun g c =
    let (done, split, appended) = c.loop.invariant in
    record { part = done; rest = c.loop.rest.now; split = split; grown = appended }

pub returns-in_err-count-clause-begun : goal.returns-in_err-count-clause-begun
returns-in_err-count-clause-begun g c =
    let (done, split, appended) = c.loop.invariant in
    record {
      part = done;
      rest = c.loop.rest.now;
      split = split;
      grown = Appends-kept _ _ _ _ appended c.in_err-count.ensures.kept;
    }

pub returns-clause-begun : goal.returns-clause-begun
returns-clause-begun g c =
    let (done, split, appended) = c.loop.invariant in
    record { part = done; rest = c.loop.rest.now; split = split; grown = appended }
