use Rattle.std.proofs.Common.{◌≡◌, ◌∙◌, ◌++◌, ◌-◌, ℕ, List, [], rules, length, take, drop, ap, sym, subst, append_assoc, append-nil, take-append-drop, drop_of_length-le}
use Rattle.std.proofs.KnownBytes.{Appends-kept, Appends-trans}
use Rattle.std.proofs.lemmas.List.{take_rest}
use Rattle.std.specs.Io.KnownBytes.{Appends}
use Rattle.nextest_explain.specs.Writing.{AppendsBeginning}
use Rattle.nextest_explain.proofs.Writers.{at_fault}
use Rattle.nextest_explain.proofs.writing.write_bytes.Goals as goal

-- what is taken from the rest goes to what is done
moved : (all done rest : List ℕ) (n : ℕ) → all ≡ done ++ rest
    → all ≡ (done ++ take n rest) ++ take (length rest - n) (drop n rest)
moved all done rest n split =
    split
    ∙ ap (λ l. done ++ l) (sym (take-append-drop n rest))
    ∙ sym (append_assoc done (take n rest) (drop n rest))
    ∙ ap (λ l. (done ++ take n rest) ++ l) (sym (take_rest rest n))

pub loop-rest-preserved : goal.loop-rest-preserved
loop-rest-preserved g c =
    let (done, split, appended) = c.loop-rest.invariant in
    let rest = c.loop-rest.rest.now in
    let n = c.in_ok-count.count in
    (done ++ take n rest, moved _ done rest n split, Appends-trans _ _ _ _ _ appended c.in_ok-count.ensures.taken)

pub returns-in_err-count-clause-begun : goal.returns-in_err-count-clause-begun
returns-in_err-count-clause-begun g c =
    let (done, split, appended) = c.loop-rest.invariant in
    let begun : AppendsBeginning (g.W.Write.contents c.args.out.now) (g.W.Write.contents c.write_some.new.out)
    c.args.bytes.now = (
      done,
      c.loop-rest.rest.now,
      split,
      search rules,
      Appends-kept _ _ _ _ appended
          c.in_err-count.ensures.kept,
    ) in
    at_fault c.from_residual.result _ begun

pub returns-clause-ok : goal.returns-clause-ok
returns-clause-ok g c =
    let (done, split, appended) = c.loop-rest.invariant in
    let rest = c.loop-rest.rest.now in
    let empty : rest ≡ [] = drop_of_length-le rest {i = 0} (search rules) in
    subst (Appends _ _) (sym (split ∙ ap (λ l. done ++ l) empty ∙ append-nil done)) appended
