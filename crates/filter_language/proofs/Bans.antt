-- No mark of a filter is banned where none of its marks has an objection.
use Rattle.std.proofs.Common.{◌≡◌, ◌&&◌, Bool, true, false, List, [], ◌∷◌, ◌++◌, Option, None, Some, is_none, option_map, map, refl, sym, ◌∙◌, ap}
use Rattle.std.specs.List.{list_all}
use Rattle.std.specs.Option.{option_or}
use Rattle.nextest_engines.specs.declared.queries.FiltersetKind.{FiltersetKind}
use Rattle.filter_language.specs.declared.fault.FaultKind.{FaultKind}
use Rattle.filter_language.specs.declared.fault.Misread.{Misread}
use Rattle.filter_language.specs.Grammar.{Mark}
use Rattle.filter_language.specs.Bans.{mark_ban, are_allowed}
use Rattle.filter_language.proofs.Shapes.{map_push}

and_assoc : (a b c : Bool) → (a && (b && c)) ≡ ((a && b) && c)
and_assoc true b c = refl
and_assoc false b c = refl

and_true : (a : Bool) → (a && true) ≡ a
and_true true = refl
and_true false = refl

all_push : {M : Type 0} (p : M → Bool) (ms : List M) (m : M) → list_all p (ms ++ m ∷ []) ≡ (list_all p ms && p m)
all_push p [] m = and_true (p m)
all_push p (n ∷ ms) m = ap (λ b. p n && b) (all_push p ms m) ∙ and_assoc (p n) (list_all p ms) (p m)

none_or : {X : Type 0} (a b : Option X) → is_none (option_or a b) ≡ (is_none a && is_none b)
none_or None b = refl
none_or (Some x) b = refl

none_of_kind : (m : Option Misread) (ban : Option FaultKind) → option_map (λ x. x.kind) m ≡ ban
    → is_none m ≡ is_none ban
none_of_kind None ban is = ap is_none is
none_of_kind (Some x) ban is = ap is_none is

-- One more mark, and perhaps an objection to it.
pub one_allowed : {M L : Type 0} (kind : FiltersetKind) (knows : Bool) (view : M → Mark L)
    (marks more : List M) (m : M) (before now after : Option Misread)
    → more ≡ marks ++ m ∷ [] → is_none before ≡ are_allowed kind knows (map view marks)
    → option_map (λ x. x.kind) now ≡ mark_ban kind knows (view m)
    → after ≡ option_or before now → is_none after ≡ are_allowed kind knows (map view more)
one_allowed kind knows view marks more m before now after is known ban or =
    ap is_none or
    ∙ none_or before now
    ∙ ap (λ b. b && is_none now) known
    ∙ ap (λ b. are_allowed kind knows (map view marks) && b) (none_of_kind now _ ban)
    ∙ sym (all_push (λ x. is_none (mark_ban kind knows x)) (map view marks) (view m))
    ∙ sym (ap (λ l. are_allowed kind knows l) (ap (map view) is ∙ map_push view marks m))
