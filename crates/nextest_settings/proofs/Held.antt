-- What follows of values that are held from the values that are there.
use Rattle.std.proofs.Common.{◌≡◌, Option, None, Some, option_map, is_some, refl, sym}
use Rattle.std.proofs.lemmas.Option.{none-some}
use Rattle.std.specs.Option.{option_or}

-- a value is held where there is one
pub is_held : {X Y : Type 0} (f : X → Y) (o : Option X) → is_some (option_map f o) ≡ is_some o
is_held f None = refl
is_held f (Some x) = refl

-- a value that is held is the first of two
pub held_first : {X Y : Type 0} (kind : X → Y) (near far : Option X) (y : Y)
    → Some y ≡ option_map kind near → Some y ≡ option_map kind (option_or near far)
held_first kind None far y same = absurd (none-some y (sym same))
held_first kind (Some x) far y same = same

-- where the first of two is absent, the second is held
pub held_second : {X Y : Type 0} (kind : X → Y) (near far : Option X) (r : Option Y)
    → None ≡ option_map kind near → r ≡ option_map kind far → r ≡ option_map kind (option_or near far)
held_second kind None far r same is = is
held_second kind (Some x) far r same is = absurd (none-some (kind x) same)
