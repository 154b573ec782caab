-- An evaluation that leaves operands out agrees with one that does not.
use Rattle.std.proofs.Common.{◌≡◌, ◌⊎◌, inl, inr, ◌==◌, suc, Bool, true, false, List, [], ◌∷◌, Option, None, Some, length, refl, sym, ◌∙◌, ap, subst}
use Rattle.filter_language.specs.Evaluation.{Known, Stack, behind, fresh, said, flipped_if, with_operand, flipped, opened, closed_by}
use Rattle.filter_language.specs.Skipping.{decide, is_decided, Alike, AgreeFrom, Agree}
use Rattle.filter_language.specs.Values.{known_and, known_or}

-- One more operand leaves a decided level decided, and what it says.
stays : (either both x : Option Bool) → decide either both ≡ true
    → (decide either (known_and both x) ≡ true) × (known_or either (known_and both x) ≡ known_or either both)
stays (Some true) both x is = (refl, refl)
stays (Some false) (Some false) x is = (refl, refl)
stays None (Some false) x is = (refl, refl)
stays (Some false) (Some true) x is = absurd (cc)
stays (Some false) None x is = absurd (cc)
stays None (Some true) x is = absurd (cc)
stays None None x is = absurd (cc)

-- Levels that are alike say the same, and both are decided or none.
said_alike : (k l : Known) → Alike k l → said k ≡ said l
said_alike k l (inl same) = ap said same
said_alike k l (inr decided) = decided.2

also_decided : (k l : Known) → Alike k l → is_decided k ≡ true → is_decided l ≡ true
also_decided k l (inl same) is = sym (ap is_decided same) ∙ is
also_decided k l (inr decided) is = decided.1

-- Where they are decided, they stay alike behind an operand that one of them skips,
skipped_alike : (k l : Known) (x : Option Bool) → is_decided k ≡ true → Alike k l → Alike k (with_operand l x)
skipped_alike k l x is alike =
    let it = stays l.either l.both (flipped_if l.negated x) (also_decided k l alike is) in
    inr (is, it.0, said_alike k l alike ∙ sym it.1)

-- or behind any two operands,
decided_alike : (k l : Known) (x y : Option Bool) → is_decided k ≡ true → Alike k l
    → Alike (with_operand k x) (with_operand l y)
decided_alike k l x y is alike =
    let left = stays k.either k.both (flipped_if k.negated x) is in
    let right = stays l.either l.both (flipped_if l.negated y) (also_decided k l alike is) in
    inr (left.0, right.0, left.1 ∙ said_alike k l alike ∙ sym right.1)

-- and always behind the same operand.
operand_alike : (k l : Known) (x : Option Bool) → Alike k l → Alike (with_operand k x) (with_operand l x)
operand_alike k l x (inl same) = inl (ap (λ m. with_operand m x) same)
operand_alike k l x (inr decided) = decided_alike k l x x decided.0 (inr decided)

flipped_alike : (k l : Known) → Alike k l → Alike (flipped k) (flipped l)
flipped_alike k l (inl same) = inl (ap flipped same)
flipped_alike k l (inr decided) = inr decided

-- The innermost level changes.
inner_changes : (k j : Known) (ks : List Known) (l i : Known) (ls : List Known) → (Alike k l → Alike j i)
    → AgreeFrom k ks l ls → AgreeFrom j ks i ls
inner_changes k j [] l i [] change agree = change agree
inner_changes k j (around ∷ ks) l i (also ∷ ls) change (inl alike, rest) = (inl (change alike), rest)
inner_changes k j (around ∷ ks) l i (also ∷ ls) change (inr skipped, rest) = (inr skipped, rest)
inner_changes k j [] l i (also ∷ ls) change agree = absurd (agree)
inner_changes k j (around ∷ ks) l i [] change agree = absurd (agree)

-- As many levels are around one as around the other.
as_deep : (k : Known) (ks : List Known) (l : Known) (ls : List Known) → AgreeFrom k ks l ls → length ks ≡ length ls
as_deep k [] l [] agree = refl
as_deep k (around ∷ ks) l (also ∷ ls) agree = ap suc (as_deep around ks also ls agree.1)
as_deep k [] l (also ∷ ls) agree = absurd (agree)
as_deep k (around ∷ ks) l [] agree = absurd (agree)

-- The start.
pub start_agrees : (s : Stack) → (let start : Stack = record { inner = fresh; outer = [] } in s ≡ start → Agree s start)
start_agrees s is = subst (λ u. Agree u (record { inner = fresh; outer = [] })) (sym is) (inl refl)

-- A question that both ask, or one of them.
pub asked_agrees : (s all : Stack) (inner : Known) (x : Option Bool) → inner ≡ with_operand s.inner x → Agree s all
    → AgreeFrom inner s.outer (with_operand all.inner x) all.outer
asked_agrees s all inner x is agree =
    rw is (inner_changes s.inner _ s.outer all.inner _ all.outer (operand_alike s.inner all.inner x) agree)

pub skipped_agrees : (s all : Stack) (x : Option Bool) → is_decided s.inner ≡ true → Agree s all
    → AgreeFrom s.inner s.outer (with_operand all.inner x) all.outer
skipped_agrees s all x is agree =
    inner_changes s.inner _ s.outer all.inner _ all.outer (skipped_alike s.inner all.inner x is) agree

-- A `not` or a `-`.
pub flipped_agrees : (s all : Stack) (inner : Known) → inner ≡ flipped s.inner → Agree s all
    → AgreeFrom inner s.outer (flipped all.inner) all.outer
flipped_agrees s all inner is agree =
    rw is (inner_changes s.inner _ s.outer all.inner _ all.outer (flipped_alike s.inner all.inner) agree)

-- An `or`.
pub joined_agrees : (s all : Stack) (inner : Known) → inner ≡ behind (said s.inner) → Agree s all
    → AgreeFrom inner s.outer (behind (said all.inner)) all.outer
joined_agrees s all inner is agree =
    rw is (inner_changes s.inner _ s.outer all.inner _ all.outer
    (λ alike. inl (ap behind (said_alike s.inner all.inner alike))) agree)

-- A `(`, where there is room for one more level and where there is none.
starts : (decided : Bool) → Alike (behind (Some decided)) fresh ⊎ (decided ≡ true)
starts true = inr refl
starts false = inl (inl refl)

pub opened_agrees : (s all : Stack) (inner : Known) (outer : List Known)
    → inner ≡ behind (Some (is_decided s.inner)) → outer ≡ s.inner ∷ s.outer
    → (length s.outer == 128) ≡ false → Agree s all
    → AgreeFrom inner outer (opened all).inner (opened all).outer
opened_agrees s all inner outer is kept room agree =
    let deep = as_deep s.inner s.outer all.inner all.outer agree in
    let also : (length all.outer == 128) ≡ false = ap (λ n. n == 128) (sym deep) ∙ room in
    rw (is, kept, also) (starts (is_decided s.inner), agree)

pub full_agrees : (s all : Stack) → (length s.outer == 128) ≡ true → Agree s all → Agree s (opened all)
full_agrees s all full agree =
    let deep = as_deep s.inner s.outer all.inner all.outer agree in
    let also : (length all.outer == 128) ≡ true = ap (λ n. n == 128) (sym deep) ∙ full in
    rw also agree

-- A `)`.
closed_agree : (k : Known) (ks : List Known) (l : Known) (ls : List Known) → AgreeFrom k ks l ls
    → Agree (closed_by k ks) (closed_by l ls)
closed_agree k [] l [] agree = agree
closed_agree k (around ∷ ks) l (also ∷ ls) (inl alike, rest) =
    rw (said_alike k l alike)
    (inner_changes around _ ks also _ ls (operand_alike around also (said l)) rest)
closed_agree k (around ∷ ks) l (also ∷ ls) (inr decided, rest) =
    inner_changes around _ ks also _ ls (decided_alike around also (said k) (said l) decided) rest
closed_agree k [] l (also ∷ ls) agree = absurd (agree)
closed_agree k (around ∷ ks) l [] agree = absurd (agree)

pub closed_agrees : (s all new : Stack) → new ≡ closed_by s.inner s.outer → Agree s all
    → Agree new (closed_by all.inner all.outer)
closed_agrees s all new is agree =
    subst (λ (u : Stack). Agree u (closed_by all.inner all.outer)) (sym is)
    (closed_agree s.inner s.outer all.inner all.outer agree)

-- What is said at the end, where no level is open.
pub said_agrees : (s all : Stack) → Agree s all → all.outer ≡ [] → said s.inner ≡ said all.inner
said_agrees s all agree closed = said_at s.inner s.outer all.inner all.outer agree closed
  where
    said_at : (k : Known) (ks : List Known) (l : Known) (ls : List Known) → AgreeFrom k ks l ls → ls ≡ []
        → said k ≡ said l
    said_at k [] l [] agree none = said_alike k l agree
    said_at k ks l (also ∷ ls) agree none = absurd (cc)
    said_at k (around ∷ ks) l [] agree none = absurd (agree)
