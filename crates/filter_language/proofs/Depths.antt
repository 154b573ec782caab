-- How many levels are open behind marks.
use Rattle.std.proofs.Common.{◌≡◌, ◌==◌, suc, pred, Bool, true, false, List, [], ◌∷◌, Option, None, length, map, refl, sym, ◌∙◌, ap, arith, if◌then◌else◌}
use Rattle.filter_language.specs.declared.mark.Mark as mark
use Rattle.filter_language.specs.declared.mark.Mark.TheVariants.{Predicate, Not, Open, Close, And, Or, Minus}
use Rattle.filter_language.specs.Evaluation.{Known, Stack, fresh, closed_by, with_mark, with_marks}
use Rattle.filter_language.specs.FilterMarks.{depth_with, depth_behind}
use Rattle.filter_language.specs.Formula.{Question}
use Rattle.filter_language.specs.Grammar.{mark_view, WritesAFilter}
use Rattle.filter_language.proofs.Evaluations.{spelled_closed}

opened_depth : (s : Stack) (full : Bool)
    → (let next : Stack = if full then s else record { inner = fresh; outer = s.inner ∷ s.outer } in length next.outer)
    ≡ (if full then length s.outer else suc (length s.outer))
opened_depth s true = refl
opened_depth s false = refl

closed_depth : (inner : Known) (outer : List Known) → length (closed_by inner outer).outer ≡ pred (length outer)
closed_depth inner [] = refl
closed_depth inner (k ∷ outer) = refl

-- Behind a mark as many are open as are counted, whatever questions answer.
mark_depth : {M L : Type 0} (answers : Question L → Option Bool) (meaning : M → L) (s : Stack) (m : mark.Mark M)
    → length (with_mark answers s (mark_view meaning m)).outer ≡ depth_with (length s.outer) m
mark_depth answers meaning s (Predicate q) = refl
mark_depth answers meaning s Not = refl
mark_depth answers meaning s Open = opened_depth s (length s.outer == 128)
mark_depth answers meaning s Close = closed_depth s.inner s.outer
mark_depth answers meaning s And = refl
mark_depth answers meaning s Or = refl
mark_depth answers meaning s Minus = refl

marks_depth : {M L : Type 0} (answers : Question L → Option Bool) (meaning : M → L) (s : Stack)
    (marks : List (mark.Mark M))
    → length (with_marks answers s (map (mark_view meaning) marks)).outer ≡ depth_behind (length s.outer) marks
marks_depth answers meaning s [] = refl
marks_depth answers meaning s (m ∷ marks) =
    marks_depth answers meaning (with_mark answers s (mark_view meaning m)) marks
    ∙ ap (λ n. depth_behind n marks) (mark_depth answers meaning s m)

no_length : (outer : List Known) → length outer ≡ 0 → outer ≡ []
no_length [] e = refl
no_length (k ∷ outer) e = absurd (omega (arith, e))

-- No level is open behind marks that leave none open.
pub closed_behind : {M L : Type 0} (answers : Question L → Option Bool) (meaning : M → L)
    (marks : List (mark.Mark M)) → depth_behind 0 marks ≡ 0
    → (let start : Stack = record { inner = fresh; outer = [] } in
    (with_marks answers start (map (mark_view meaning) marks)).outer ≡ [])
closed_behind answers meaning marks none =
    no_length _ (marks_depth answers meaning (record { inner = fresh; outer = [] }) marks ∙ none)

-- A filter leaves none open.
pub filters_close : {M L : Type 0} (meaning : M → L) (marks : List (mark.Mark M))
    → WritesAFilter (map (mark_view meaning) marks) → depth_behind 0 marks ≡ 0
filters_close meaning marks (f, spells, within) =
    sym (marks_depth (λ _. None) meaning (record { inner = fresh; outer = [] }) marks)
    ∙ ap (λ (ks : List Known). length ks)
    (spelled_closed (λ _. None) (map (mark_view meaning) marks) f spells within)
