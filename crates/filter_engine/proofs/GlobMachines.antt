-- The automata of whole globs.
use Rattle.std.proofs.Common.{◌≡◌, ℕ, ◌⊎◌, true, false, List, [], ◌∷◌, map, refl, sym, ap, ◌∙◌, subst, ⊎_elim, inl, inr, true≢false}
use Rattle.std.specs.Prelude.{is_some}
use Rattle.regex_hir.specs.Re.{Re, look}
use Rattle.regex_hir.specs.Find.{find}
use Rattle.regex_hir.specs.Meaning.{meaning, cat_all}
use Rattle.regex_hir.specs.declared.hir.Hir.{Hir}
use Rattle.regex_hir.specs.declared.look.Look.TheVariants.{Start, End}
use Rattle.regex_nfa.specs.declared.nfa.Nfa.{Nfa}
use Rattle.filter_engine.specs.Runs.{finds}
use Rattle.filter_engine.specs.declared.glob.fault.RowFault.{RowFault}
use Rattle.filter_engine.specs.declared.glob.fault.RowFault.TheVariants.{Memory}
use Rattle.filter_engine.specs.Globs.{ends_row, Row, WritesRow, RowTakes, IsGlob, GlobMatches, IsGlobMachine}
use Rattle.filter_engine.specs.GlobReading.{ReadsRow, NoRow}
use Rattle.filter_engine.specs.declared.glob.place.Place.TheVariants as place
use Rattle.filter_engine.proofs.GlobPatterns.{whole_found}

-- A glob ends with its text.
pub glob_ends : (rest : List ℕ) → ends_row false rest ≡ true → rest ≡ []
glob_ends [] e = refl
glob_ends (b ∷ rest) e = absurd (true≢false (sym e))

-- A glob whose row is known.
pub glob_of : (text : List ℕ) (hirs : List Hir) (rest : List ℕ) → ReadsRow false 250 text hirs rest
    → rest ≡ [] → IsGlob text
unfolding IsGlob
glob_of text hirs rest (row, one, patterns) none = (row, (one row []).1 (refl, sym none))

-- The automaton of the row that a text writes.
pub glob_machine : (text : List ℕ) (hirs : List Hir) (rest : List ℕ) (nfa : Nfa) (re : Re)
    → ReadsRow false 250 text hirs rest → rest ≡ []
    → re ≡ cat_all (look Start ∷ cat_all (map meaning hirs) ∷ look End ∷ [])
    → ((name : List ℕ) → finds nfa name ≡ is_some (find re name 0)) → IsGlobMachine text nfa
unfolding GlobMatches
glob_machine text hirs rest nfa re (row, one, patterns) none is finds_it name bytes =
    let whole = whole_found (RowTakes row) (cat_all (map meaning hirs)) patterns.0 name bytes in
    let same : finds nfa name
    ≡ is_some (find (cat_all (look Start ∷ cat_all (map meaning hirs) ∷ look End ∷ [])) name 0) =
    finds_it name ∙ ap (λ r. is_some (find r name 0)) is in (
      λ found. (row, (one row []).1 (refl, sym none), whole.0 (sym same ∙ found)),
      λ (matches : (other : Row) × WritesRow false 250 place.Start text other [] × RowTakes other name).
          same ∙ whole.1 (subst (λ r. RowTakes r name) ((one matches.0 []).0 matches.1).0 matches.2),
    )

-- Without a row, the text writes no glob.
pub no_glob : (text : List ℕ)
    → ((row : Row) (rest : List ℕ) → WritesRow false 250 place.Start text row rest → ⊥) → IsGlob text → ⊥
unfolding IsGlob
no_glob text none (row, w) = none row [] w

-- Where the row of a text is refused, so is the glob.
pub refused_glob : (text : List ℕ) (fault : RowFault) → NoRow false 250 place.Start text fault
    → (fault ≡ Memory) ⊎ (IsGlob text → ⊥)
refused_glob text fault none =
    ⊎_elim
    (λ (memory : fault ≡ Memory). inl memory)
    (λ (none : (row : Row) (rest : List ℕ) → WritesRow false 250 place.Start text row rest → ⊥). inr
    (no_glob text none))
    none
