-- A path of which some steps are passed, and what expressions do to it.
use Rattle.std.proofs.Common.{◌≡◌, ℕ, zero, suc, Bool, true, false, cond, ◌||◌, List, [], ◌∷◌, ◌++◌, Bor, refl, sym, ap, ◌∙◌, inl, inr}
use Rattle.std.proofs.lemmas.Bool.{cases_Bool, true≢false, false≢true}
use Rattle.std.specs.Str.{bytes_eq}
use Rattle.nextest_places.specs.Branches.{ends_in, is_in, through, pairs, elements}
use Rattle.nextest_places.specs.Marks.{Mark, State, by_key, into, seen, missing, under, next_element, turn}
use Rattle.nextest_places.specs.declared.entry.Kind.{Kind}
use Rattle.nextest_places.specs.declared.entry.Kind.TheVariants.{Pair, Table, Element}
use Rattle.nextest_places.specs.declared.step.Step.{Step}
use Rattle.nextest_places.specs.declared.step.Step.TheVariants.{Key, Position}

-- the keys among some steps
abbrev pub keys_in : List Step → List (List ℕ)
keys_in [] = []
keys_in (Key k ∷ steps) = k.now ∷ keys_in steps
keys_in (Position i ∷ steps) = keys_in steps

-- the marks of steps that are passed, in front of others
abbrev pub passed : List Step → List Mark → List Mark
passed [] ms = ms
passed (Key k ∷ steps) ms = by_key k.now ∷ passed steps ms
passed (Position i ∷ steps) ms = into zero ∷ passed steps ms

abbrev pub passed_by : List Step → State → State
passed_by [] s = s
passed_by (Key k ∷ steps) s = under (by_key k.now) (passed_by steps s)
passed_by (Position i ∷ steps) s = under (into zero) (passed_by steps s)

pub passed_seen : (steps : List Step) → passed_by steps seen ≡ seen
passed_seen [] = refl
passed_seen (Key k ∷ steps) = ap (under (by_key k.now)) (passed_seen steps)
passed_seen (Position i ∷ steps) = ap (under (into zero)) (passed_seen steps)

pub passed_missing : (steps : List Step) (ms : List Mark) → passed_by steps (missing ms) ≡ missing (passed steps ms)
passed_missing [] ms = refl
passed_missing (Key k ∷ steps) ms = ap (under (by_key k.now)) (passed_missing steps ms)
passed_missing (Position i ∷ steps) ms = ap (under (into zero)) (passed_missing steps ms)

-- one more step
pub key_passed : (steps : List Step) (k : Bor (List ℕ)) (ms : List Mark)
    → passed (steps ++ Key k ∷ []) ms ≡ passed steps (by_key k.now ∷ ms)
key_passed [] k ms = refl
key_passed (Key j ∷ steps) k ms = ap (λ ns. by_key j.now ∷ ns) (key_passed steps k ms)
key_passed (Position i ∷ steps) k ms = ap (λ ns. into zero ∷ ns) (key_passed steps k ms)

pub position_passed : (steps : List Step) (i : ℕ) (ms : List Mark)
    → passed (steps ++ Position i ∷ []) ms ≡ passed steps (into zero ∷ ms)
position_passed [] i ms = refl
position_passed (Key j ∷ steps) i ms = ap (λ ns. by_key j.now ∷ ns) (position_passed steps i ms)
position_passed (Position j ∷ steps) i ms = ap (λ ns. into zero ∷ ns) (position_passed steps i ms)

pub key_in : (steps : List Step) (k : Bor (List ℕ)) → keys_in (steps ++ Key k ∷ []) ≡ keys_in steps ++ k.now ∷ []
key_in [] k = refl
key_in (Key j ∷ steps) k = ap (λ ks. j.now ∷ ks) (key_in steps k)
key_in (Position i ∷ steps) k = key_in steps k

pub position_in : (steps : List Step) (i : ℕ) → keys_in (steps ++ Position i ∷ []) ≡ keys_in steps
position_in [] i = refl
position_in (Key j ∷ steps) i = ap (λ ks. j.now ∷ ks) (position_in steps i)
position_in (Position j ∷ steps) i = position_in steps i

-- whether an expression is a pair whose key some keys begin with
abbrev pub is_upto : Kind → List (List ℕ) → List (List ℕ) → Bool
is_upto kind [] [] = ends_in pairs kind
is_upto kind [] (part ∷ parts) = false
is_upto kind (k ∷ keys) [] = ends_in pairs kind
is_upto kind (k ∷ keys) (part ∷ parts) = cond (bytes_eq k part) (is_upto kind keys parts) false

-- what an expression does to a path behind some keys, by what it does where its key begins with them
abbrev turned : Kind → List (List ℕ) → List (List ℕ) → (List (List ℕ) → State) → State → State
turned kind [] parts here stay = here parts
turned kind (k ∷ keys) [] here stay = cond (ends_in pairs kind) seen stay
turned kind (k ∷ keys) (part ∷ parts) here stay =
    cond (bytes_eq k part) (turned kind keys parts here stay) stay

turned_under : (m : Mark) (kind : Kind) (keys parts : List (List ℕ)) (here : List (List ℕ) → State) (stay : State)
    → under m (turned kind keys parts here stay) ≡ turned kind keys parts (λ ps. under m (here ps)) (under m stay)
turned_under m kind [] parts here stay = refl
turned_under m kind (k ∷ keys) [] here stay =
    elim (cases_Bool (ends_in pairs kind)) [
      | inl passes ↦ rw passes refl
      | inr fails ↦ rw fails refl
    ]
turned_under m kind (k ∷ keys) (part ∷ parts) here stay =
    elim (cases_Bool (bytes_eq k part)) [
      | inl same ↦ rw same (turned_under m kind keys parts here stay)
      | inr other ↦ rw other refl
    ]

turn_passed : (kind : Kind) (parts : List (List ℕ)) (steps : List Step) (ms : List Mark)
    → turn kind parts (passed steps ms)
    ≡ turned kind (keys_in steps) parts (λ ps. passed_by steps (turn kind ps ms)) (missing (passed steps ms))
turn_passed kind parts [] ms = refl
turn_passed Pair [] (Key k ∷ steps) ms = refl
turn_passed Table [] (Key k ∷ steps) ms = refl
turn_passed Element [] (Key k ∷ steps) ms = refl
turn_passed kind (part ∷ parts) (Key k ∷ steps) ms =
    elim (cases_Bool (bytes_eq k.now part)) [
      | inl same ↦ rw same (ap (under (by_key k.now)) (turn_passed kind parts steps ms)
          ∙ turned_under (by_key k.now) kind (keys_in steps) parts (λ ps. passed_by steps (turn kind ps ms))
          (missing (passed steps ms)))
      | inr other ↦ rw other refl
    ]
turn_passed kind [] (Position i ∷ steps) ms =
    ap (under (into zero)) (turn_passed kind [] steps ms)
    ∙ turned_under (into zero) kind (keys_in steps) [] (λ ps. passed_by steps (turn kind ps ms))
    (missing (passed steps ms))
turn_passed kind (part ∷ parts) (Position i ∷ steps) ms =
    ap (under (into zero)) (turn_passed kind (part ∷ parts) steps ms)
    ∙ turned_under (into zero) kind (keys_in steps) (part ∷ parts) (λ ps. passed_by steps (turn kind ps ms))
    (missing (passed steps ms))

-- at the end of a path
turned_end : (kind : Kind) (keys parts : List (List ℕ)) (here : List (List ℕ) → State) (stay : State)
    → ((ps : List (List ℕ)) → here ps ≡ seen)
    → turned kind keys parts here stay ≡ cond (is_in through kind keys parts || is_upto kind keys parts) seen stay
turned_end kind [] [] here stay sees = sees []
turned_end kind [] (part ∷ parts) here stay sees = sees (part ∷ parts)
turned_end kind (k ∷ keys) [] here stay sees = refl
turned_end kind (k ∷ keys) (part ∷ parts) here stay sees =
    elim (cases_Bool (bytes_eq k part)) [
      | inl same ↦ rw same (turned_end kind keys parts here stay sees)
      | inr other ↦ rw other refl
    ]

turn_none : (kind : Kind) (parts : List (List ℕ)) → turn kind parts [] ≡ seen
turn_none kind [] = refl
turn_none kind (part ∷ parts) = refl

pub turn_at_end : (kind : Kind) (parts : List (List ℕ)) (steps : List Step)
    → turn kind parts (passed steps [])
    ≡ cond (is_in through kind (keys_in steps) parts || is_upto kind (keys_in steps) parts) seen
    (missing (passed steps []))
turn_at_end kind parts steps =
    turn_passed kind parts steps []
    ∙ turned_end kind (keys_in steps) parts (λ ps. passed_by steps (turn kind ps [])) (missing (passed steps []))
    (λ ps. ap (passed_by steps) (turn_none kind ps) ∙ passed_seen steps)

-- before a key with which no expression's goes on
rest_through : (kind : Kind) (parts : List (List ℕ)) → is_in through kind [] parts ≡ true
rest_through kind [] = refl
rest_through kind (part ∷ parts) = refl

turned_key : (kind : Kind) (keys parts : List (List ℕ)) (k : List ℕ) (here : List (List ℕ) → State) (stay : State)
    → here [] ≡ cond (ends_in pairs kind) seen stay
    → ((part : List ℕ) (ps : List (List ℕ)) → bytes_eq k part ≡ false → here (part ∷ ps) ≡ stay)
    → is_in through kind (keys ++ k ∷ []) parts ≡ false
    → turned kind keys parts here stay ≡ cond (is_upto kind keys parts) seen stay
turned_key kind [] [] k here stay ends other none = ends
turned_key kind [] (part ∷ parts) k here stay ends other none =
    elim (cases_Bool (bytes_eq k part)) [
      | inl same ↦ absurd (true≢false (sym (rest_through kind parts) ∙ rw same at none))
      | inr apart ↦ other part parts apart
    ]
turned_key kind (j ∷ keys) [] k here stay ends other none = refl
turned_key kind (j ∷ keys) (part ∷ parts) k here stay ends other none =
    elim (cases_Bool (bytes_eq j part)) [
      | inl same ↦ rw same (turned_key kind keys parts k here stay ends other (rw same at none))
      | inr apart ↦ rw apart refl
    ]

key_ends : (kind : Kind) (steps : List Step) (k : List ℕ) (ms : List Mark)
    → passed_by steps (turn kind [] (by_key k ∷ ms))
    ≡ cond (ends_in pairs kind) seen (missing (passed steps (by_key k ∷ ms)))
key_ends Pair steps k ms = passed_seen steps
key_ends Table steps k ms = passed_missing steps (by_key k ∷ ms)
key_ends Element steps k ms = passed_missing steps (by_key k ∷ ms)

pub turn_at_key : (kind : Kind) (parts : List (List ℕ)) (steps : List Step) (k : List ℕ) (ms : List Mark)
    → is_in through kind (keys_in steps ++ k ∷ []) parts ≡ false
    → turn kind parts (passed steps (by_key k ∷ ms))
    ≡ cond (is_upto kind (keys_in steps) parts) seen (missing (passed steps (by_key k ∷ ms)))
turn_at_key kind parts steps k ms none =
    turn_passed kind parts steps (by_key k ∷ ms)
    ∙ turned_key kind (keys_in steps) parts k (λ ps. passed_by steps (turn kind ps (by_key k ∷ ms)))
    (missing (passed steps (by_key k ∷ ms))) (key_ends kind steps k ms)
    (λ part ps apart. rw apart (passed_missing steps (by_key k ∷ ms))) none

-- before a position
turned_position : (kind : Kind) (keys parts : List (List ℕ)) (here : List (List ℕ) → State) (more stay : State)
    → here [] ≡ cond (ends_in pairs kind) seen (cond (ends_in elements kind) more stay)
    → ((part : List ℕ) (ps : List (List ℕ)) → here (part ∷ ps) ≡ stay)
    → turned kind keys parts here stay
    ≡ cond (is_upto kind keys parts) seen (cond (is_in elements kind keys parts) more stay)
turned_position kind [] [] here more stay ends other = ends
turned_position kind [] (part ∷ parts) here more stay ends other = other part parts
turned_position kind (k ∷ keys) [] here more stay ends other = refl
turned_position kind (k ∷ keys) (part ∷ parts) here more stay ends other =
    elim (cases_Bool (bytes_eq k part)) [
      | inl same ↦ rw same (turned_position kind keys parts here more stay ends other)
      | inr apart ↦ rw apart refl
    ]

position_ends : (kind : Kind) (steps : List Step) (j : ℕ) (ms : List Mark)
    → passed_by steps (turn kind [] (into (suc j) ∷ ms))
    ≡ cond (ends_in pairs kind) seen (cond (ends_in elements kind) (passed_by steps (next_element j ms))
    (missing (passed steps (into (suc j) ∷ ms))))
position_ends Pair steps j ms = passed_seen steps
position_ends Table steps j ms = passed_missing steps (into (suc j) ∷ ms)
position_ends Element steps j ms = refl

pub turn_at_position : (kind : Kind) (parts : List (List ℕ)) (steps : List Step) (j : ℕ) (ms : List Mark)
    → turn kind parts (passed steps (into (suc j) ∷ ms))
    ≡ cond (is_upto kind (keys_in steps) parts) seen
    (cond (is_in elements kind (keys_in steps) parts) (passed_by steps (next_element j ms))
    (missing (passed steps (into (suc j) ∷ ms))))
turn_at_position kind parts steps j ms =
    turn_passed kind parts steps (into (suc j) ∷ ms)
    ∙ turned_position kind (keys_in steps) parts (λ ps. passed_by steps (turn kind ps (into (suc j) ∷ ms)))
    (passed_by steps (next_element j ms)) (missing (passed steps (into (suc j) ∷ ms)))
    (position_ends kind steps j ms) (λ part ps. passed_missing steps (into (suc j) ∷ ms))

-- a pair is no header
pair_alone : (kind : Kind) → ends_in pairs kind ≡ true → ends_in elements kind ≡ false
pair_alone Pair is = refl
pair_alone Table is = refl
pair_alone Element is = absurd (false≢true is)

pub upto_apart : (kind : Kind) (keys parts : List (List ℕ)) → is_upto kind keys parts ≡ true
    → is_in elements kind keys parts ≡ false
upto_apart kind [] [] is = pair_alone kind is
upto_apart kind [] (part ∷ parts) is = refl
upto_apart kind (k ∷ keys) [] is = refl
upto_apart kind (k ∷ keys) (part ∷ parts) is =
    elim (cases_Bool (bytes_eq k part)) [
      | inl same ↦ rw same (upto_apart kind keys parts (rw same at is))
      | inr other ↦ rw other refl
    ]

-- a pair up to no keys, and up to one more
pub upto_none : (kind : Kind) (parts : List (List ℕ)) → is_in pairs kind [] parts ≡ is_upto kind [] parts
upto_none kind [] = refl
upto_none kind (part ∷ parts) = refl

last_part : (kind : Kind) (parts : List (List ℕ)) → (is_in pairs kind [] parts || false) ≡ is_upto kind [] parts
last_part Pair [] = refl
last_part Table [] = refl
last_part Element [] = refl
last_part kind (part ∷ parts) = refl

pub upto_more : (kind : Kind) (keys : List (List ℕ)) (k : List ℕ) (parts : List (List ℕ))
    → (is_in pairs kind (keys ++ k ∷ []) parts || is_upto kind keys parts) ≡ is_upto kind (keys ++ k ∷ []) parts
upto_more kind [] k [] = refl
upto_more kind [] k (part ∷ parts) =
    elim (cases_Bool (bytes_eq k part)) [
      | inl same ↦ rw same (last_part kind parts)
      | inr other ↦ rw other refl
    ]
upto_more kind (j ∷ keys) k [] = refl
upto_more kind (j ∷ keys) k (part ∷ parts) =
    elim (cases_Bool (bytes_eq j part)) [
      | inl same ↦ rw same (upto_more kind keys k parts)
      | inr other ↦ rw other refl
    ]
