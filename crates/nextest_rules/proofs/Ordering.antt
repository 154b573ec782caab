-- Faults of the profile `default`, and those of all others.
use Rattle.std.proofs.Common.{◌≡◌, List, [], ◌∷◌, ◌++◌, map, Bool, true, false, not, Result, Ok, Err, IfOk, if◌then◌else◌, refl, ap, ◌∙◌, sym, append_assoc, append-nil}
use Rattle.std.specs.List.{filter, flat_map}
use Rattle.std.proofs.lemmas.List.{map-append}
use Rattle.std.proofs.lemmas.List.Concat.{flat_map-append}
use Rattle.nextest_tables.specs.Written.{Name}
use Rattle.nextest_inheritance.specs.Names.{is_default, default_first}

-- what f gives for `default`, and for the others
abbrev pub in_default : {X Y : Type 0} → (Name × X → List Y) → List (Name × X) → List Y
in_default f es = flat_map f (filter (λ e. is_default e.0) es)

abbrev pub in_others : {X Y : Type 0} → (Name × X → List Y) → List (Name × X) → List Y
in_others f es = flat_map f (filter (λ e. not (is_default e.0)) es)

-- both together are what f gives with `default` first
pub together : {X Y : Type 0} (f : Name × X → List Y) (es : List (Name × X))
    → flat_map f (default_first es) ≡ in_default f es ++ in_others f es
together f es = flat_map-append f (filter (λ e. is_default e.0) es) (filter (λ e. not (is_default e.0)) es)

pub step_default : {X Y : Type 0} (f : Name × X → List Y) (e : Name × X) (es : List (Name × X)) (b : Bool)
    → is_default e.0 ≡ b → in_default f (e ∷ es) ≡ (if b then f e else []) ++ in_default f es
step_default f e es true h = rw h refl
step_default f e es false h = rw h refl

pub step_others : {X Y : Type 0} (f : Name × X → List Y) (e : Name × X) (es : List (Name × X)) (b : Bool)
    → is_default e.0 ≡ b → in_others f (e ∷ es) ≡ (if b then [] else f e) ++ in_others f es
step_others f e es true h = rw h refl
step_others f e es false h = rw h refl

map_if : {X Y : Type 0} (see : X → Y) (b : Bool) (xs : List X)
    → map see (if b then xs else []) ≡ (if b then map see xs else [])
map_if see true xs = refl
map_if see false xs = refl

map_unless : {X Y : Type 0} (see : X → Y) (b : Bool) (xs : List X)
    → map see (if b then [] else xs) ≡ (if b then [] else map see xs)
map_unless see true xs = refl
map_unless see false xs = refl

-- one profile more
pub more_default : {X Y Z : Type 0} (see : Z → Y) (f : Name × X → List Y) (so_far now found : List Z)
    (e : Name × X) (es : List (Name × X)) → now ≡ so_far ++ (if is_default e.0 then found else [])
    → map see found ≡ f e → map see now ++ in_default f es ≡ map see so_far ++ in_default f (e ∷ es)
more_default see f so_far now found e es is seen =
    rw (
      is,
      map-append see so_far (if is_default e.0 then found else []),
      map_if see (is_default e.0) found,
      seen,
      step_default f e es (is_default e.0) refl,
    )
    (append_assoc (map see so_far) (if is_default e.0 then f e else []) (in_default f es))

pub more_others : {X Y Z : Type 0} (see : Z → Y) (f : Name × X → List Y) (so_far now found : List Z)
    (e : Name × X) (es : List (Name × X)) → now ≡ so_far ++ (if is_default e.0 then [] else found)
    → map see found ≡ f e → map see now ++ in_others f es ≡ map see so_far ++ in_others f (e ∷ es)
more_others see f so_far now found e es is seen =
    rw (
      is,
      map-append see so_far (if is_default e.0 then [] else found),
      map_unless see (is_default e.0)
          found,
      seen,
      step_others f e es (is_default e.0) refl,
    )
    (append_assoc (map see so_far) (if is_default e.0 then [] else f e) (in_others f es))

-- all that was found, once no profile is left
pub all_together : {X Y Z : Type 0} (see : Z → Y) (f : Name × X → List Y) (es : List (Name × X))
    (default others all : List Z) → all ≡ default ++ others → map see default ++ [] ≡ in_default f es
    → map see others ++ [] ≡ in_others f es → map see all ≡ flat_map f (default_first es)
all_together see f es default others all is d o =
    rw (is, map-append see default others)
    ((λ i. (sym (append-nil (map see default)) ∙ d) i ++ (sym (append-nil (map see others)) ∙ o) i)
    ∙ sym (together f es))

-- one profile more in an order: it is in one of two parts
pub one_more : {X Y : Type 0} (see : X → Y) (passes : Y → Bool) (so_far now : List X) (x : X) (es : List Y)
    (b : Bool) → now ≡ so_far ++ (if b then x ∷ [] else []) → passes (see x) ≡ b
    → map see now ++ filter passes es ≡ map see so_far ++ filter passes (see x ∷ es)
one_more see passes so_far now x es true is p =
    rw (is, map-append see so_far (x ∷ []), p) (append_assoc (map see so_far) (see x ∷ []) (filter passes es))
one_more see passes so_far now x es false is p =
    rw (is, p) (ap (λ xs. map see xs ++ filter passes es) (append-nil so_far))

pub one_unless : {X : Type 0} (b : Bool) (x : X) → (if b then [] else x ∷ []) ≡ (if not b then x ∷ [] else [])
one_unless true x = refl
one_unless false x = refl

-- what follows of a value that is there
pub if_ok_weaker : {T E : Type 0} (P Q : T → Type 0) (r : Result T E) → ((x : T) → P x → Q x) → IfOk r P → IfOk r Q
if_ok_weaker P Q (Ok x) f h = f x h
if_ok_weaker P Q (Err e) f h = tt

pub both_empty : {X : Type 0} (xs ys : List X) → xs ++ ys ≡ [] → (xs ≡ []) × (ys ≡ [])
both_empty [] ys h = (refl, h)
both_empty (x ∷ xs) ys h = cc

pub either_empty : {X : Type 0} (b : Bool) (xs : List X) → (if b then xs else []) ≡ []
    → (if b then [] else xs) ≡ [] → xs ≡ []
either_empty true xs h k = h
either_empty false xs h k = k

-- where nothing is found with one profile more, nothing was found before and nothing in it
pub nothing_more : {X : Type 0} (b : Bool) (default others found more_default more_others : List X)
    → more_default ≡ default ++ (if b then found else []) → more_others ≡ others ++ (if b then [] else found)
    → more_default ≡ [] → more_others ≡ [] → (default ≡ []) × (others ≡ []) × (found ≡ [])
nothing_more b default others found more_default more_others d o no_default no_others =
    let in_default = both_empty default (if b then found else []) (sym d ∙ no_default) in
    let in_others = both_empty others (if b then [] else found) (sym o ∙ no_others) in
    (in_default.0, in_others.0, either_empty b found in_default.1 in_others.1)
