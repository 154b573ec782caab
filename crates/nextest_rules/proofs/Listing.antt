-- Lists that grow by what may be there.
use Rattle.std.proofs.Common.{◌≡◌, List, [], ◌∷◌, ◌++◌, map, Option, Some, None, option_map, option_to_list, refl, append_assoc, append-nil}
use Rattle.std.specs.List.{cons_option}
use Rattle.std.proofs.lemmas.List.{map-append}

-- one item more, if there is one
pub option_more : {X Y : Type 0} (see : X → Y) (old new : List X) (o : Option X) (f : Option Y)
    (rest : List Y) → new ≡ old ++ option_to_list o
    → option_map see o ≡ f → map see new ++ rest ≡ map see old ++ cons_option f rest
option_more see old new None f rest more is = rw (more, append-nil old, ← is) refl
option_more see old new (Some x) f rest more is =
    rw (more, ← is, map-append see old (x ∷ []), append_assoc (map see old) (see x ∷ []) rest) refl

-- the same of a list that has grown by nothing before
pub list_more : {X Y : Type 0} (see : X → Y) (old mid new : List X) (o : Option X) (f : Option Y)
    → map see mid ≡ map see old ++ []
    → new ≡ mid ++ option_to_list o → option_map see o ≡ f → map see new ≡ map see old ++ option_to_list f
list_more see old mid new None f same more is = rw (more, append-nil mid, ← is) same
list_more see old mid new (Some x) f same more is =
    rw (more, ← is, map-append see mid (x ∷ []), same, append-nil (map see old)) refl
