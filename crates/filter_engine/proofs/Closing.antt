-- States closed under the edges that read no byte.
use Rattle.std.proofs.Common.{◌≡◌, ℕ, ◌+◌, ◌<◌, ◌≤◌, List, [], length, get_or, sym, ap, ◌∙◌, ⊎_elim, arith, append-nil, length-append}
use Rattle.std.specs.Prelude.{Contains}
use Rattle.std.proofs.lemmas.Bool.{cases_eq}
use Rattle.std.proofs.lemmas.List.{get_or_append_left}
use Rattle.std.proofs.lemmas.List.Elements.{Contains-get_or}
use Rattle.regex_nfa.specs.Run.{state_of}
use Rattle.regex_nfa.specs.Paths.{EmptyEdge}
use Rattle.regex_nfa.specs.declared.state.State.TheVariants.{Match}
use Rattle.regex_nfa.specs.declared.nfa.Nfa.{Nfa}
use Rattle.regex_nfa.proofs.PathsLemmas.{EmptyEdge-IsBelow}
use Rattle.regex_nfa.proofs.RunLemmas.{any_default}
use Rattle.regex_vm.proofs.NfaLemmas.{below_within}
use Rattle.filter_engine.specs.Runs.{AreStates, Extends, AddsTargets, Reached, among, behind, IsClosing}
use Rattle.filter_engine.proofs.Targets.{extends_on, keeps}

-- The state ends no match, and each state to which it leads with no byte is among these.
pub record IsFollowed (nfa : Nfa) (name : List ℕ) (at q : ℕ) (states : List ℕ) : Type 0 where
  pub unmatched : state_of nfa q ≡ Match → ⊥
  pub targets : (r : ℕ) → EmptyEdge nfa name at q r → Contains states r

-- So many of the states are followed, and a match from one of all is one from an old one.
pub record IsFollowedTo (nfa : Nfa) (name : List ℕ) (at : ℕ) (old states : List ℕ) (done : ℕ) : Type 0 where
  pub within : AreStates nfa states
  pub kept : Extends old states
  pub reached : (q : ℕ) → Contains states q → Reached nfa name at old q
  pub some : done ≤ length states
  pub followed : (k : ℕ) → k < done → IsFollowed nfa name at (get_or states k 0) states

-- What a list has at a place, one that extends it has there.
pub at_place : (old new : List ℕ) (k : ℕ) → Extends old new → k < length old → get_or new k 0 ≡ get_or old k 0
at_place old new k (added, is) h = ap (λ l. get_or l k 0) is ∙ get_or_append_left old added 0 k h

pub longer : (old new : List ℕ) → Extends old new → length old ≤ length new
longer old new (added, is) = omega (arith, ap length is, length-append old added)

module _ (nfa : Nfa) (name : List ℕ) (at : ℕ) where
  -- At first none is followed.
  pub none_followed : (states : List ℕ) → AreStates nfa states → IsFollowedTo nfa name at states states 0
  none_followed states within = record {
    within = within;
    kept = ([], sym (append-nil states));
    reached = λ q there. among q there;
    some = omega arith;
    followed = λ k below. absurd (omega arith);
  }

  -- A followed state stays so where states are added.
  still_followed : (q : ℕ) (old new : List ℕ) → Extends old new → IsFollowed nfa name at q old
      → IsFollowed nfa name at q new
  still_followed q old new kept is =
      record { unmatched = is.unmatched; targets = λ r edge. keeps old new r kept (is.targets r edge) }

  -- What an added state is.
  pub within_more : (q : ℕ) (states new : List ℕ) → AreStates nfa states
      → AddsTargets nfa name at q states new → AreStates nfa new
  within_more q states new within adds r there =
      ⊎_elim (λ old. within r old) (λ edge. below_within nfa r q (EmptyEdge-IsBelow nfa name at q r edge))
      (adds.added r there)

  -- A state that was added is reached through the state that led there.
  reached_more : (q : ℕ) (old states new : List ℕ) → ((p : ℕ) → Contains states p → Reached nfa name at old p)
      → Contains states q → AddsTargets nfa name at q states new → (r : ℕ) → Contains new r → Reached nfa name at old r
  reached_more q old states new reached there adds r found =
      ⊎_elim (λ before. reached r before) (λ edge. behind q r (reached q there) edge) (adds.added r found)

  -- One more is followed.
  pub followed_more : (old states new : List ℕ) (done q : ℕ) → IsFollowedTo nfa name at old states done
      → done < length states
      → q ≡ get_or states done 0 → (state_of nfa q ≡ Match → ⊥) → AddsTargets nfa name at q states new
      → IsFollowedTo nfa name at old new (done + 1)
  followed_more old states new done q before below is unmatched adds =
      let there : Contains states q = rw is (Contains-get_or states done 0 below) in
      let more : length states ≤ length new = longer states new adds.kept in
      record {
        within = within_more q states new before.within adds;
        kept = extends_on old states new before.kept adds.kept;
        reached = reached_more q old states new before.reached there adds;
        some = omega arith;
        followed = λ k h.
            let place : k < length states = let le = before.some in omega arith in
            rw (at_place states new k adds.kept place)
            (⊎_elim
            (λ (same : k ≡ done). rw (same, ← is) (record { unmatched = unmatched; targets = adds.all }))
            (λ (other : k ≡ done → ⊥). still_followed (get_or states k 0) states new adds.kept
            (before.followed k (omega arith)))
            (cases_eq k done));
      }

  -- A state that ends a match is reached.
  pub matches_here : (old states : List ℕ) (done q : ℕ) → IsFollowedTo nfa name at old states done
      → done < length states → q ≡ get_or states done 0 → state_of nfa q ≡ Match
      → (r : ℕ) × Reached nfa name at old r × (state_of nfa r ≡ Match)
  matches_here old states done q before below is ends =
      (q, before.reached q (rw is (Contains-get_or states done 0 below)), ends)

  -- Where all are followed, the states are closed.
  pub closed_when_done : (old states : List ℕ) (done : ℕ) → IsFollowedTo nfa name at old states done
      → length states ≤ done
      → IsClosing nfa name at old states
  closed_when_done old states done before all =
      let of : (q : ℕ) → Contains states q → IsFollowed nfa name at q states =
      λ q (k, h, e).
      let same : get_or states k 0 ≡ q = any_default states k 0 q h ∙ e in
      rw same at (before.followed k (omega arith)) in
      record {
        kept = before.kept;
        reached = before.reached;
        closed = record {
          unmatched = λ q there. (of q there).unmatched;
          targets =
              λ q r there. (of q there).targets r;
        };
      }
