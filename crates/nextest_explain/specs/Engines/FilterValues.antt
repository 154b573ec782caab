use Rattle.std.specs.Prelude.{ℕ, zero, suc, Bool, true, false, not, List, [], ◌∷◌, Option, None, Some, map, option_map, string_bytes}
use Rattle.std.specs.declared.vec.Vec.{Vec}
use Rattle.std.specs.declared.alloc.Global.{Global}
use Rattle.std.specs.List.{fold}
use Rattle.std.specs.Str.{bytes_eq}
use Rattle.nextest_explain.specs.Engines.Texts.{has_part}
use Rattle.nextest_explain.specs.declared.engines.expr.Leaf.{Leaf}
use Rattle.nextest_explain.specs.declared.engines.expr.Leaf.TheVariants.{All, Nothing, Default, Test, BinaryId}
use Rattle.nextest_explain.specs.declared.engines.expr.Term as term
use Rattle.nextest_explain.specs.declared.engines.expr.ToyExpr.{ToyExpr}
use Rattle.nextest_explain.specs.declared.engines.expr.ToyExpr.TheVariants.{Everything, AnyOf}
use Rattle.nextest_explain.specs.declared.engines.expr.Subject as subject

-- What a filter tests of a test or a binary.
pub data Atom : Type 0 where
  Always : Atom
  Never : Atom
  AsTheDefault : Atom
  NameHas : List ℕ → Atom
  BinaryIs : List ℕ → Atom

-- An atom behind a number of `not`s.
pub record Term : Type 0 where
  pub negations : ℕ
  pub atom : Atom

-- A filter holds where each term of one of its lists does.
abbrev pub Filter : Type 0
Filter = List (List Term)

-- What a leaf tests.
abbrev pub atom_of : Leaf → Atom
atom_of All = Always
atom_of Nothing = Never
atom_of Default = AsTheDefault
atom_of (Test part) = NameHas (string_bytes part)
atom_of (BinaryId id) = BinaryIs (string_bytes id)

-- What a term of an expression says.
abbrev pub term_of : term.Term → Term
term_of t = record { negations = t.negations; atom = atom_of t.leaf }

-- What a list of terms says, and what several say.
abbrev pub terms_of : Vec term.Term Global → List Term
terms_of terms = map term_of terms.items

abbrev pub lists_of : List (Vec term.Term Global) → Filter
lists_of lists = map terms_of lists

-- The filter that tests nothing.
abbrev pub match_all : Filter
match_all = (record { negations = 0; atom = Always } ∷ []) ∷ []

-- What an expression says.
abbrev pub filter_of : ToyExpr → Filter
filter_of Everything = match_all
filter_of (AnyOf alternatives) = lists_of alternatives.items

-- A filter is evaluated at a binary, and perhaps at one of its tests.
pub record Subject : Type 0 where
  pub binary_id : List ℕ
  pub test_name : Option (List ℕ)

-- What a filter is evaluated at.
abbrev pub subject_of : subject.Subject → Subject
subject_of s =
    record { binary_id = s.binary_id.now; test_name = option_map (λ name. name.now) s.test_name }

-- `and` is false if a side is false, else unknown if a side is unknown.
abbrev pub known_and : Option Bool → Option Bool → Option Bool
known_and (Some false) right = Some false
known_and (Some true) right = right
known_and None (Some false) = Some false
known_and None _ = None

-- `or` is true if a side is true, else unknown if a side is unknown.
abbrev pub known_or : Option Bool → Option Bool → Option Bool
known_or (Some true) right = Some true
known_or (Some false) right = right
known_or None (Some true) = Some true
known_or None _ = None

-- A value behind a number of `not`s; `not` of unknown is unknown.
abbrev pub negated : ℕ → Option Bool → Option Bool
negated zero value = value
negated (suc n) value = option_map not (negated n value)

-- Whether an atom holds: the name has the part, the binary is the one named, `default()` has the
-- value given.
abbrev pub atom_value : Subject → Option Bool → Atom → Option Bool
atom_value s default Always = Some true
atom_value s default Never = Some false
atom_value s default AsTheDefault = default
atom_value s default (NameHas part) = option_map (has_part part) s.test_name
atom_value s default (BinaryIs id) = Some (bytes_eq s.binary_id id)

-- Whether a term holds.
abbrev pub term_value : Subject → Option Bool → Term → Option Bool
term_value s default t = negated t.negations (atom_value s default t.atom)

-- Whether each term holds.
abbrev pub terms_value : Subject → Option Bool → List Term → Option Bool
terms_value s default terms =
    fold (λ known t. known_and known (term_value s default t)) (Some true) terms

-- Whether each term of one of the lists holds.
abbrev pub filter_value : Subject → Option Bool → Filter → Option Bool
filter_value s default filter =
    fold (λ known terms. known_or known (terms_value s default terms)) (Some false) filter
