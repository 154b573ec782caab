-- A filter that does not name the default filter says the same beside each.
use Rattle.std.proofs.Common.{◌≡◌, ℕ, Bool, true, false, ◌||◌, List, [], ◌∷◌, Option, map, refl, sym, ◌∙◌, ap}
use Rattle.std.specs.List.{list_any}
use Rattle.nextest_engines.specs.Engines.{Binary}
use Rattle.filter_language.specs.declared.filterset.Filterset as filterset
use Rattle.filter_language.specs.declared.filterset.Filterset.TheVariants.{Everything, Marks}
use Rattle.filter_language.specs.declared.mark.Mark as mark
use Rattle.filter_language.specs.declared.mark.Mark.TheVariants.{Predicate, Not, Open, Close, And, Or, Minus}
use Rattle.filter_language.specs.declared.mark.Question as question
use Rattle.filter_language.specs.declared.mark.Question.TheVariants.{All, Nothing, Default, Platform, Matches}
use Rattle.filter_language.specs.declared.words.Field.{Field}
use Rattle.filter_language.specs.declared.words.Field.TheVariants.{TestName, Package, Deps, Rdeps, BinaryId, BinaryName, Kind, Group}
use Rattle.filter_language.specs.Evaluation.{Stack, fresh, said, with_operand, with_mark, with_marks, marks_value}
use Rattle.filter_language.specs.FilterMarks.{asks_default, is_default}
use Rattle.filter_language.specs.Filtersets.{marks_view, names_default, subject_of}
use Rattle.filter_language.specs.Formula.{question_view}
use Rattle.filter_language.specs.Grammar.{mark_view}
use Rattle.filter_language.specs.Values.{field_answer, answer}

-- What means the default filter is no matter of a field.
field_same : (accepts : List ℕ → Bool) (binary : Binary) (name : Option (List ℕ)) (d e : Option Bool) (field : Field)
    → field_answer accepts (subject_of binary name d) field ≡ field_answer accepts (subject_of binary name e) field
field_same accepts binary name d e TestName = refl
field_same accepts binary name d e Package = refl
field_same accepts binary name d e Deps = refl
field_same accepts binary name d e Rdeps = refl
field_same accepts binary name d e BinaryId = refl
field_same accepts binary name d e BinaryName = refl
field_same accepts binary name d e Kind = refl
field_same accepts binary name d e Group = refl

question_same : {M L : Type 0} (accepts : L → List ℕ → Bool) (meaning : M → L) (binary : Binary)
    (name : Option (List ℕ)) (d e : Option Bool) (q : question.Question M) → asks_default q ≡ false
    → answer accepts (subject_of binary name d) (question_view meaning q)
    ≡ answer accepts (subject_of binary name e) (question_view meaning q)
question_same accepts meaning binary name d e All other = refl
question_same accepts meaning binary name d e Nothing other = refl
question_same accepts meaning binary name d e Default other = absurd (cc)
question_same accepts meaning binary name d e (Platform p) other = refl
question_same accepts meaning binary name d e (Matches m) other =
    field_same (accepts (meaning m.matcher)) binary name d e m.field

mark_same : {M L : Type 0} (accepts : L → List ℕ → Bool) (meaning : M → L) (binary : Binary)
    (name : Option (List ℕ)) (d e : Option Bool) (s : Stack) (m : mark.Mark M) → is_default m ≡ false
    → with_mark (answer accepts (subject_of binary name d)) s (mark_view meaning m)
    ≡ with_mark (answer accepts (subject_of binary name e)) s (mark_view meaning m)
mark_same accepts meaning binary name d e s (Predicate q) other =
    ap (λ x. let next : Stack = record { inner = with_operand s.inner x; outer = s.outer } in next)
    (question_same accepts meaning binary name d e q other)
mark_same accepts meaning binary name d e s Not other = refl
mark_same accepts meaning binary name d e s Open other = refl
mark_same accepts meaning binary name d e s Close other = refl
mark_same accepts meaning binary name d e s And other = refl
mark_same accepts meaning binary name d e s Or other = refl
mark_same accepts meaning binary name d e s Minus other = refl

not_first : (a b : Bool) → (a || b) ≡ false → a ≡ false
not_first false b e = refl
not_first true b e = absurd (cc)

not_second : (a b : Bool) → (a || b) ≡ false → b ≡ false
not_second false b e = e
not_second true b e = absurd (cc)

marks_same : {M L : Type 0} (accepts : L → List ℕ → Bool) (meaning : M → L) (binary : Binary)
    (name : Option (List ℕ)) (d e : Option Bool) (s : Stack) (marks : List (mark.Mark M))
    → list_any is_default marks ≡ false
    → with_marks (answer accepts (subject_of binary name d)) s (map (mark_view meaning) marks)
    ≡ with_marks (answer accepts (subject_of binary name e)) s (map (mark_view meaning) marks)
marks_same accepts meaning binary name d e s [] none = refl
marks_same accepts meaning binary name d e s (m ∷ marks) none =
    ap (λ t. with_marks (answer accepts (subject_of binary name d)) t (map (mark_view meaning) marks))
    (mark_same accepts meaning binary name d e s m (not_first (is_default m) (list_any is_default marks) none))
    ∙ marks_same accepts meaning binary name d e
    (with_mark (answer accepts (subject_of binary name e)) s (mark_view meaning m)) marks
    (not_second (is_default m) (list_any is_default marks) none)

pub same_beside : {M L : Type 0} (accepts : L → List ℕ → Bool) (meaning : M → L) (binary : Binary)
    (name : Option (List ℕ)) (d e : Option Bool) (filter : filterset.Filterset M) → names_default filter ≡ false
    → marks_value (answer accepts (subject_of binary name d)) (marks_view meaning filter)
    ≡ marks_value (answer accepts (subject_of binary name e)) (marks_view meaning filter)
same_beside accepts meaning binary name d e Everything none = refl
same_beside accepts meaning binary name d e (Marks marks) none =
    ap (λ (s : Stack). said s.inner)
    (marks_same accepts meaning binary name d e (record { inner = fresh; outer = [] }) marks.marks.items
    (sym marks.default_is_named ∙ none))
