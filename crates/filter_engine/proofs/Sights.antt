-- Positions of names that assertions on the start and the end do not tell apart.
use Rattle.std.proofs.Common.{◌≡◌, ℕ, ◌-◌, ◌<◌, ◌≤◌, ◌⊎◌, true, false, cond, not, List, length, None, is_some, slice_get, refl, sym, ap, ◌∙◌, ⊎_elim, arith, true≢false, ne_eqb}
use Rattle.std.proofs.lemmas.Bool.{cases_eq}
use Rattle.std.proofs.lemmas.Option.{slice_get-get_or, slice_get_past}
use Rattle.regex_hir.specs.Text.{byte_before}
use Rattle.regex_hir.specs.Looks.{holds, holds_between}
use Rattle.regex_hir.specs.declared.look.Look.{Look}
use Rattle.regex_hir.specs.declared.look.Look.TheVariants.{Start, End}
use Rattle.regex_nfa.specs.Paths.{EmptyEdge, by_first, by_second, by_save, by_look}
use Rattle.regex_nfa.specs.declared.nfa.Nfa.{Nfa}
use Rattle.filter_engine.specs.Runs.{Reached, among, behind, IsClosing}
use Rattle.filter_engine.specs.Tables.{SeesEdges, IsAt}

-- Both positions are at the start of their names or neither is, and so with the end.
pub record IsLike (name : List ℕ) (at : ℕ) (other : List ℕ) (there : ℕ) : Type 0 where
  pub inside : at ≤ length name
  pub inside_other : there ≤ length other
  pub start : at ≡ 0 → there ≡ 0
  pub start_other : there ≡ 0 → at ≡ 0
  pub end : at ≡ length name → there ≡ length other
  pub end_other : there ≡ length other → at ≡ length name

pub turned : (name : List ℕ) (at : ℕ) (other : List ℕ) (there : ℕ) → IsLike name at other there
    → IsLike other there name at
turned name at other there like = record {
  inside = like.inside_other;
  inside_other = like.inside;
  start = like.start_other;
  start_other = like.start;
  end = like.end_other;
  end_other = like.end;
}

-- Positions before a byte at which a search may be in a row.
pub like_before : (row : ℕ) (name : List ℕ) (at : ℕ) (other : List ℕ) (there : ℕ) → IsAt row name at
    → IsAt row other there → at < length name → there < length other → IsLike name at other there
like_before row name at other there one two before before_other = record {
  inside = one.inside;
  inside_other = two.inside;
  start = λ zero. two.first (one.later zero);
  start_other = λ zero. one.first (two.later zero);
  end = λ past. absurd (omega arith);
  end_other = λ past. absurd (omega arith);
}

-- Positions at the end.
pub like_at_end : (row : ℕ) (name : List ℕ) (at : ℕ) (other : List ℕ) (there : ℕ) → IsAt row name at
    → IsAt row other there → at ≡ length name → there ≡ length other → IsLike name at other there
like_at_end row name at other there one two ends ends_other = record {
  inside = one.inside;
  inside_other = two.inside;
  start = λ zero. two.first (one.later zero);
  start_other = λ zero. one.first (two.later zero);
  end = λ _. ends_other;
  end_other = λ _. ends;
}

module _ (name : List ℕ) (at : ℕ) where
  start_at_zero : at ≡ 0 → holds Start name at ≡ true
  unfolding holds holds_between byte_before
  start_at_zero zero = rw zero refl

  start_later : (at ≡ 0 → ⊥) → at ≤ length name → holds Start name at ≡ false
  unfolding holds holds_between byte_before
  start_later other inside =
      ap (λ b. not (is_some (cond b None (slice_get name (at - 1))))) (ne_eqb at 0 other)
      ∙ ap (λ o. not (is_some o)) (slice_get-get_or name (at - 1) 0 (let some : at ≡ 0 → ⊥ = other in omega arith))

  end_at_end : at ≡ length name → holds End name at ≡ true
  unfolding holds holds_between
  end_at_end ends = ap (λ o. not (is_some o)) (slice_get_past name at (omega arith))

  end_before : at < length name → holds End name at ≡ false
  unfolding holds holds_between
  end_before before = ap (λ o. not (is_some o)) (slice_get-get_or name at 0 before)

module _ (name : List ℕ) (at : ℕ) (other : List ℕ) (there : ℕ) (like : IsLike name at other there) where
  same_start : holds Start name at ≡ true → holds Start other there ≡ true
  same_start ok =
      ⊎_elim
      (λ (zero : at ≡ 0). start_at_zero other there (like.start zero))
      (λ (later : at ≡ 0 → ⊥). absurd (true≢false (sym ok ∙ start_later name at later like.inside)))
      (cases_eq at 0)

  same_end : holds End name at ≡ true → holds End other there ≡ true
  same_end ok =
      ⊎_elim
      (λ (ends : at ≡ length name). end_at_end other there (like.end ends))
      (λ (before : at ≡ length name → ⊥).
      let inside = like.inside in
      absurd (true≢false (sym ok ∙ end_before name at (omega arith))))
      (cases_eq at (length name))

  same_holds : (look : Look) → (look ≡ Start) ⊎ (look ≡ End) → holds look name at ≡ true
      → holds look other there ≡ true
  same_holds look sees ok =
      ⊎_elim
      (λ (start : look ≡ Start). rw start (same_start (rw start at ok)))
      (λ (end : look ≡ End). rw end (same_end (rw end at ok)))
      sees

module _ (nfa : Nfa) (sees : SeesEdges nfa) where
  same_edge : (name : List ℕ) (at : ℕ) (other : List ℕ) (there : ℕ) → IsLike name at other there
      → (q r : ℕ) → EmptyEdge nfa name at q r → EmptyEdge nfa other there q r
  same_edge name at other there like q r (by_first second is) = by_first second is
  same_edge name at other there like q r (by_second first is) = by_second first is
  same_edge name at other there like q r (by_save slot is) = by_save slot is
  same_edge name at other there like q r (by_look l is ok) =
      by_look l is (same_holds name at other there like l (sees q r l is) ok)

  -- What is reached at the one position is reached at the other.
  pub same_reached : (name : List ℕ) (at : ℕ) (other : List ℕ) (there : ℕ) → IsLike name at other there
      → (states : List ℕ) (q : ℕ) → Reached nfa name at states q → Reached nfa other there states q
  same_reached name at other there like states q (among _ among_them) = among q among_them
  same_reached name at other there like states q (behind p _ before edge) =
      behind p q (same_reached name at other there like states p before)
      (same_edge name at other there like p q edge)

  -- States closed at the one position are closed at the other.
  pub same_closing : (name : List ℕ) (at : ℕ) (other : List ℕ) (there : ℕ) → IsLike name at other there
      → (old new : List ℕ) → IsClosing nfa name at old new → IsClosing nfa other there old new
  same_closing name at other there like old new closing = record {
    kept = closing.kept;
    reached = λ q there_too. same_reached name at other there like old q (closing.reached q there_too);
    closed = record {
      unmatched = closing.closed.unmatched;
      targets = λ q r among_them edge.
          closing.closed.targets q r among_them
          (same_edge other there name at (turned name at other there like) q r edge);
    };
  }
