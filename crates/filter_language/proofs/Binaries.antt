-- What is known of a binary is known of its tests: of predicates, and of marks.
use Rattle.std.proofs.Common.{◌≡◌, ◌==◌, ℕ, suc, List, [], ◌∷◌, length, Bool, true, false, not, Option, None, Some, option_map, if◌then◌else◌, refl, ap, subst, ◌∙◌}
use Rattle.std.specs.List.{AllZip}
use Rattle.nextest_engines.specs.Engines.{Test}
use Rattle.filter_language.specs.declared.words.Field.{Field}
use Rattle.filter_language.specs.declared.words.Field.TheVariants.{TestName, Package, Deps, Rdeps, BinaryId, BinaryName, Kind, Group}
use Rattle.filter_language.specs.Binaries.{Below, MarksSpeakForTests}
use Rattle.filter_language.specs.Evaluation.{Known, Stack, behind, fresh, said, flipped_if, with_operand, flipped, opened, closed_by, with_mark, with_marks, marks_value}
use Rattle.filter_language.specs.Formula.{Question, Always, Never, TheDefault, OfPlatform, OfName}
use Rattle.filter_language.specs.Grammar.{Mark, Asked, NotMark, OpenMark, CloseMark, AndMark, OrMark, MinusMark}
use Rattle.filter_language.specs.Values.{known_and, known_or, field_answer, answer, of_test, of_binary}

-- Joining what is known.
pub not_below : (x y : Option Bool) → Below x y → Below (option_map not x) (option_map not y)
not_below None y h b e = absurd (cc)
not_below (Some c) y h b e = ap (option_map not) (h c refl) ∙ e

pub and_below : (x y u v : Option Bool) → Below x u → Below y v → Below (known_and x y) (known_and u v)
and_below (Some false) y u v h k b e = rw (h false refl) e
and_below (Some true) y u v h k b e = rw (h true refl) (k b e)
and_below None (Some false) u v h k b e = rw (k false refl) (and_false u b e)
  where
    and_false : (u : Option Bool) (b : Bool) → Some false ≡ Some b → known_and u (Some false) ≡ Some b
    and_false (Some false) b e = e
    and_false (Some true) b e = e
    and_false None b e = e
and_below None (Some true) u v h k b e = absurd (cc)
and_below None None u v h k b e = absurd (cc)

pub or_below : (x y u v : Option Bool) → Below x u → Below y v → Below (known_or x y) (known_or u v)
or_below (Some true) y u v h k b e = rw (h true refl) e
or_below (Some false) y u v h k b e = rw (h false refl) (k b e)
or_below None (Some true) u v h k b e = rw (k true refl) (or_true u b e)
  where
    or_true : (u : Option Bool) (b : Bool) → Some true ≡ Some b → known_or u (Some true) ≡ Some b
    or_true (Some false) b e = e
    or_true (Some true) b e = e
    or_true None b e = e
or_below None (Some false) u v h k b e = absurd (cc)
or_below None None u v h k b e = absurd (cc)

flip_below : (n : Bool) (x y : Option Bool) → Below x y → Below (flipped_if n x) (flipped_if n y)
flip_below false x y h = h
flip_below true x y h = not_below x y h

-- Of predicates.
field_below : (accepts : List ℕ → Bool) (field : Field) (test : Test) (d e : Option Bool)
    → Below (field_answer accepts (of_binary test.binary d) field) (field_answer accepts (of_test test e) field)
field_below accepts TestName test d e b is = absurd (cc)
field_below accepts Package test d e b is = is
field_below accepts Deps test d e b is = is
field_below accepts Rdeps test d e b is = is
field_below accepts BinaryId test d e b is = is
field_below accepts BinaryName test d e b is = is
field_below accepts Kind test d e b is = is
field_below accepts Group test d e b is = is

pub answer_below : {L : Type 0} (accepts : L → List ℕ → Bool) (q : Question L) (test : Test) (d e : Option Bool)
    → Below d e → Below (answer accepts (of_binary test.binary d) q) (answer accepts (of_test test e) q)
answer_below accepts Always test d e h b is = is
answer_below accepts Never test d e h b is = is
answer_below accepts TheDefault test d e h b is = h b is
answer_below accepts (OfPlatform p) test d e h b is = is
answer_below accepts (OfName p) test d e h b is = field_below (accepts p.meaning) p.field test d e b is

-- Of one level no more is known than of another.
abbrev LevelBelow : Known → Known → Type 0
LevelBelow k m = Below k.either m.either × Below k.both m.both × (k.negated ≡ m.negated)

-- Of the levels of one stack no more is known than of those of another.
abbrev StackBelow : Stack → Stack → Type 0
StackBelow s t = LevelBelow s.inner t.inner × AllZip LevelBelow s.outer t.outer

same_below : (x : Option Bool) → Below x x
same_below x b e = e

fresh_below : LevelBelow fresh fresh
fresh_below = (same_below (Some false), same_below (Some true), refl)

said_below : (k m : Known) → LevelBelow k m → Below (said k) (said m)
said_below k m h = or_below k.either k.both m.either m.both h.0 h.1

operand_below : (k m : Known) (x y : Option Bool) → LevelBelow k m → Below x y
    → LevelBelow (with_operand k x) (with_operand m y)
operand_below k m x y h g = (
  h.0,
  and_below k.both (flipped_if k.negated x) m.both (flipped_if m.negated y) h.1
      (subst (λ n. Below (flipped_if k.negated x) (flipped_if n y)) h.2 (flip_below k.negated x y g)),
  refl,
)

flipped_below : (k m : Known) → LevelBelow k m → LevelBelow (flipped k) (flipped m)
flipped_below k m h = (h.0, h.1, ap not h.2)

behind_below : (x y : Option Bool) → Below x y → LevelBelow (behind x) (behind y)
behind_below x y h = (h, same_below (Some true), refl)

zip_length : (ks ms : List Known) → AllZip LevelBelow ks ms → length ks ≡ length ms
zip_length [] [] h = refl
zip_length [] (m ∷ ms) h = absurd h
zip_length (k ∷ ks) [] h = absurd h
zip_length (k ∷ ks) (m ∷ ms) h = ap suc (zip_length ks ms h.1)

opened_by : (full : Bool) (s t : Stack) → StackBelow s t
    → StackBelow (if full then s else record { inner = fresh; outer = s.inner ∷ s.outer })
    (if full then t else record { inner = fresh; outer = t.inner ∷ t.outer })
opened_by true s t h = h
opened_by false s t h = (fresh_below, (h.0, h.1))

opened_below : (s t : Stack) → StackBelow s t → StackBelow (opened s) (opened t)
opened_below s t h =
    subst (λ n. StackBelow (opened s) (if n == 128 then t else record { inner = fresh; outer = t.inner ∷ t.outer }))
    (zip_length s.outer t.outer h.1) (opened_by (length s.outer == 128) s t h)

closed_below : (k m : Known) (ks ms : List Known) → LevelBelow k m → AllZip LevelBelow ks ms
    → StackBelow (closed_by k ks) (closed_by m ms)
closed_below k m [] [] h g = (h, tt)
closed_below k m [] (n ∷ ms) h g = absurd g
closed_below k m (l ∷ ks) [] h g = absurd g
closed_below k m (l ∷ ks) (n ∷ ms) h g = (operand_below l n (said k) (said m) g.0 (said_below k m h), g.1)

-- Of marks: they say no less with more known of the predicates.
module _ {L : Type 0} (less more : Question L → Option Bool) (below : (q : Question L) → Below (less q) (more q)) where
  mark_below : (s t : Stack) (m : Mark L) → StackBelow s t → StackBelow (with_mark less s m) (with_mark more t m)
  mark_below s t (Asked q) h = (operand_below s.inner t.inner (less q) (more q) h.0 (below q), h.1)
  mark_below s t NotMark h = (flipped_below s.inner t.inner h.0, h.1)
  mark_below s t OpenMark h = opened_below s t h
  mark_below s t CloseMark h = closed_below s.inner t.inner s.outer t.outer h.0 h.1
  mark_below s t AndMark h = h
  mark_below s t OrMark h = (behind_below (said s.inner) (said t.inner) (said_below s.inner t.inner h.0), h.1)
  mark_below s t MinusMark h = (flipped_below s.inner t.inner h.0, h.1)

  marks_below : (s t : Stack) (marks : List (Mark L)) → StackBelow s t
      → StackBelow (with_marks less s marks) (with_marks more t marks)
  marks_below s t [] h = h
  marks_below s t (m ∷ marks) h = marks_below (with_mark less s m) (with_mark more t m) marks (mark_below s t m h)

  marks_value_below : (marks : List (Mark L)) → Below (marks_value less marks) (marks_value more marks)
  marks_value_below marks =
      let start : Stack = record { inner = fresh; outer = [] } in
      let end = marks_below start start marks (fresh_below, tt) in
      said_below (with_marks less start marks).inner (with_marks more start marks).inner end.0

-- What marks say of a binary, they say of each test of it.
pub marks_speak : {L : Type 0} (accepts : L → List ℕ → Bool) → MarksSpeakForTests accepts
marks_speak accepts filter default test =
    let d = marks_value (answer accepts (of_binary test.binary (Some true))) default in
    let e = marks_value (answer accepts (of_test test (Some true))) default in
    let alone = marks_value_below (answer accepts (of_binary test.binary (Some true)))
    (answer accepts (of_test test (Some true)))
    (λ q. answer_below accepts q test (Some true) (Some true) (same_below (Some true))) default in
    marks_value_below (answer accepts (of_binary test.binary d)) (answer accepts (of_test test e))
    (λ q. answer_below accepts q test d e alone) filter
