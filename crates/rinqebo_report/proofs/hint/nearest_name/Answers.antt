-- One name more is near or not, and at the end all of them are gone through.
use Rattle.std.proofs.Common.{◌≡◌, ◌<◌, ◌≤◌, ◌+◌, ◌++◌, [], ◌∷◌, take, take_all, get_or, Some, Bor, List, ℕ, subst, sym, ap, ◌∙◌, arith}
use Rattle.std.proofs.lemmas.Grind.{take_at_read}
use Rattle.rinqebo_report.proofs.Nearest.{IsFound, far_push, near_push}
use Rattle.rinqebo_report.specs.Hints.{distance, reach, first_of}
use Rattle.rinqebo_report.specs.declared.hint.Candidate.{Candidate}
use Rattle.rinqebo_report.proofs.hint.nearest_name.Goals as goal
use Rattle.rinqebo_report.proofs.hint.nearest_name.Goals.{then-candidate-reach, else-candidate-reach}

pub loop-other-preserved : goal.loop-other-preserved
loop-other-preserved c =
    let name = c.args.name.now in
    let known = c.args.known.now in
    let before : List (Bor (List ℕ)) = take c.loop-other.other-index known in
    let none : Bor (List ℕ) = record { ref_ptr = (0, 0); now = [] } in
    let other : Bor (List ℕ) = get_or known c.loop-other.other-index none in
    let more : take (c.loop-other.other-index + 1) known ≡ before ++ other ∷ [] =
    (take_at_read known c.loop-other.other-index none c.loop-other-test.true).1 in
    let candidate : Candidate = record { name = other; distance = c.in_ok-levenshtein.field-0 } in
    let is : candidate.distance ≡ distance name other.now = c.in_ok-levenshtein.ensures.value in
    let limit : c.max-reach.result ≡ reach name = omega (arith, c.max-reach.ensures, c.char_count.ensures) in
    elim c.if-candidate-reach.branch [
      | then-candidate-reach w ↦ (
          let near : candidate.distance ≤ reach name = omega (arith, w.if-candidate-reach.true) in
          let found = near_push name before candidate c.loop-other.nearest c.loop-other.invariant is near in
          subst (λ f. IsFound name (take (c.loop-other.other-index + 1) known) f)
          (sym (w.nearest-is ∙ ap Some w.first_of.ensures))
          (subst (λ names. IsFound name names (Some (first_of c.loop-other.nearest candidate))) (sym more) found))
      | else-candidate-reach w ↦ (
          let far : reach name < distance name other.now = omega (arith, w.if-candidate-reach.false) in
          let found = far_push name before other c.loop-other.nearest c.loop-other.invariant far in
          subst (λ f. IsFound name (take (c.loop-other.other-index + 1) known) f) (sym w.nearest-is)
          (subst (λ names. IsFound name names c.loop-other.nearest) (sym more) found))
    ]

pub returns-in-Some : goal.returns-in-Some
returns-in-Some c =
    let known = c.args.known.now in
    let all : take c.loop-other.other-index known ≡ known =
    take_all c.loop-other.other-index known c.loop-other-test.false in
    (subst (λ f. IsFound c.args.name.now known f) c.in-Some.is
    (subst (λ names. IsFound c.args.name.now names c.loop-other.nearest) all c.loop-other.invariant)).1

pub returns-in-None : goal.returns-in-None
returns-in-None c =
    let known = c.args.known.now in
    let all : take c.loop-other.other-index known ≡ known =
    take_all c.loop-other.other-index known c.loop-other-test.false in
    subst (λ f. IsFound c.args.name.now known f) c.in-None.is
    (subst (λ names. IsFound c.args.name.now names c.loop-other.nearest) all c.loop-other.invariant)
