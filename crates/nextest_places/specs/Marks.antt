-- How a path relates to the expressions of a text that were read by now.
use Rattle.std.specs.Prelude.{ℕ, zero, suc, if◌then◌else◌, List, [], ◌∷◌}
use Rattle.std.specs.Str.{bytes_eq}
use Rattle.nextest_places.specs.declared.entry.Kind.{Kind}
use Rattle.nextest_places.specs.declared.entry.Kind.TheVariants.{Pair, Table, Element}
use Rattle.nextest_places.specs.declared.step.Step.{Step}
use Rattle.nextest_places.specs.declared.step.Step.TheVariants.{Key, Position}

-- A step of a path: by a key, or into an element, of which it says how many headers in double
-- brackets are to come until that element begins. It is 0 once it is the last one.
pub data Mark : Type 0 where
  by_key : List ℕ → Mark
  into : ℕ → Mark

-- The path has a value, or never will, or has none by now.
pub data State : Type 0 where
  seen : State
  never : State
  missing : List Mark → State

-- the same behind one more step
abbrev pub under : Mark → State → State
under m seen = seen
under m never = never
under m (missing ms) = missing (m ∷ ms)

-- the steps of a path of which nothing is there
abbrev pub fresh : List Step → List Mark
fresh [] = []
fresh (Key k ∷ path) = by_key k.now ∷ fresh path
fresh (Position i ∷ path) = into (suc i) ∷ fresh path

-- one more element of an array whose next one is `suc n` headers away
abbrev pub next_element : ℕ → List Mark → State
next_element zero [] = seen
next_element n ms = missing (into n ∷ ms)

-- What a key's end has to do with the steps that are left: the value of a pair holds the rest,
-- and a header in double brackets begins one more element.
abbrev pub end_at_key : Kind → List ℕ → List Mark → State
end_at_key Pair k ms = seen
end_at_key _ k ms = missing (by_key k ∷ ms)

abbrev pub end_at_element : Kind → ℕ → List Mark → State
end_at_element Pair n ms = seen
end_at_element Table n ms = missing (into (suc n) ∷ ms)
end_at_element Element n ms = next_element n ms

abbrev pub turn_end : Kind → List Mark → State
turn_end kind [] = seen
turn_end kind (by_key k ∷ ms) = end_at_key kind k ms
turn_end kind (into zero ∷ ms) = under (into zero) (turn_end kind ms)
turn_end kind (into (suc n) ∷ ms) = end_at_element kind n ms

-- What an expression with a key does to the steps of a path that is not there: it defines a
-- value at each front of its key, and at its end it does as its kind says.
abbrev pub turn : Kind → List (List ℕ) → List Mark → State
turn kind [] ms = turn_end kind ms
turn kind (part ∷ parts) [] = seen
turn kind (part ∷ parts) (by_key k ∷ ms) =
    if bytes_eq k part then under (by_key k) (turn kind parts ms) else missing (by_key k ∷ ms)
turn kind (part ∷ parts) (into zero ∷ ms) = under (into zero) (turn kind (part ∷ parts) ms)
turn kind (part ∷ parts) (into (suc n) ∷ ms) = missing (into (suc n) ∷ ms)
