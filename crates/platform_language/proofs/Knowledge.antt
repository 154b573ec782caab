-- Which values are known, and that features change no known value.
use Rattle.std.proofs.Common.{◌≡◌, ℕ, ◌⊎◌, inl, inr, Bool, true, false, ◌||◌, List, Option, None, Some, IsSome, codes, if◌then◌else◌, refl, ◌∙◌, ap}
use Rattle.platform_language.specs.Platforms.Platforms.{PlatformData}
use Rattle.platform_language.specs.Expressions.{Leaf, Has, Feature, Nowhere, Expression, Asks, Every, Some_of, Negated, Expressions, no_parts, part, OfTriple, OfExpression}
use Rattle.platform_language.specs.Values.{lesser, greater, mirror, least, greatest, has, line_of, leaf_value, value, values}
use Rattle.platform_language.specs.Laws.{asks_feature, some_asks_feature, ValuesAreKnown, given, FeaturesChangeNothingKnown}

abbrev Value : Type 0
Value = Option Bool

-- What is said of the whole list is said of the head and of the rest.
neither : (a b : Bool) → (a || b) ≡ false → (a ≡ false) × (b ≡ false)
neither false b e = (refl, e)
neither true b e = absurd (cc)

lesser_known : (a b : Value) → IsSome a → IsSome b → IsSome (lesser a b)
lesser_known None b x y = absurd (cc)
lesser_known (Some false) b x y = refl
lesser_known (Some true) b x y = y

greater_known : (a b : Value) → IsSome a → IsSome b → IsSome (greater a b)
greater_known None b x y = absurd (cc)
greater_known (Some true) b x y = refl
greater_known (Some false) b x y = y

mirror_known : (a : Value) → IsSome a → IsSome (mirror a)
mirror_known None x = x
mirror_known (Some b) x = refl

feature_known : (p : PlatformData) (name : List ℕ) → p.features_given ≡ true → IsSome (leaf_value p (Feature name))
feature_known p name is = rw is refl

abbrev Fits : PlatformData → Bool → Type 0
Fits p asks = (p.features_given ≡ true) ⊎ (asks ≡ false)

first : (p : PlatformData) (a b : Bool) → Fits p (a || b) → Fits p a
first p a b (inl is) = inl is
first p a b (inr none) = inr (neither a b none).0

rest : (p : PlatformData) (a b : Bool) → Fits p (a || b) → Fits p b
rest p a b (inl is) = inl is
rest p a b (inr none) = inr (neither a b none).1

leaf_known : (p : PlatformData) (leaf : Leaf) → Fits p (asks_feature (Asks leaf)) → IsSome (leaf_value p leaf)
leaf_known p (Has line) fits = refl
leaf_known p (Feature name) (inl is) = feature_known p name is
leaf_known p (Feature name) (inr none) = absurd (cc)
leaf_known p Nowhere fits = refl

mutual
  known : (p : PlatformData) (e : Expression) → Fits p (asks_feature e) → IsSome (value p e)
  known p (Asks leaf) fits = leaf_known p leaf fits
  known p (Every parts) fits = known_least p parts fits
  known p (Some_of parts) fits = known_greatest p parts fits
  known p (Negated e) fits = mirror_known (value p e) (known p e fits)

  known_least : (p : PlatformData) (es : Expressions) → Fits p (some_asks_feature es) → IsSome (least (values p es))
  known_least p no_parts fits = refl
  known_least p (part e es) fits =
      lesser_known (value p e) (least (values p es)) (known p e (first p _ _ fits)) (known_least p es (rest p _ _ fits))

  known_greatest : (p : PlatformData) (es : Expressions) → Fits p (some_asks_feature es)
      → IsSome (greatest (values p es))
  known_greatest p no_parts fits = refl
  known_greatest p (part e es) fits =
      greater_known (value p e) (greatest (values p es)) (known p e (first p _ _ fits))
      (known_greatest p es (rest p _ _ fits))

pub values_are_known : ValuesAreKnown
values_are_known p (OfTriple triple) fits = refl
values_are_known p (OfExpression e) fits = known p e fits

-- One value knows no more than another.
abbrev Below : Value → Value → Type 0
Below x y = (b : Bool) → x ≡ Some b → y ≡ Some b

mirror_below : (x y : Value) → Below x y → Below (mirror x) (mirror y)
mirror_below None y h b e = absurd (cc)
mirror_below (Some c) y h b e = ap mirror (h c refl) ∙ e

lesser_false : (u : Value) (b : Bool) → Some false ≡ Some b → lesser u (Some false) ≡ Some b
lesser_false (Some false) b e = e
lesser_false (Some true) b e = e
lesser_false None b e = e

lesser_below : (x y u v : Value) → Below x u → Below y v → Below (lesser x y) (lesser u v)
lesser_below (Some false) y u v h k b e = rw (h false refl) e
lesser_below (Some true) y u v h k b e = rw (h true refl) (k b e)
lesser_below None (Some false) u v h k b e = rw (k false refl) (lesser_false u b e)
lesser_below None (Some true) u v h k b e = absurd (cc)
lesser_below None None u v h k b e = absurd (cc)

greater_true : (u : Value) (b : Bool) → Some true ≡ Some b → greater u (Some true) ≡ Some b
greater_true (Some false) b e = e
greater_true (Some true) b e = e
greater_true None b e = e

greater_below : (x y u v : Value) → Below x u → Below y v → Below (greater x y) (greater u v)
greater_below (Some true) y u v h k b e = rw (h true refl) e
greater_below (Some false) y u v h k b e = rw (h false refl) (k b e)
greater_below None (Some true) u v h k b e = rw (k true refl) (greater_true u b e)
greater_below None (Some false) u v h k b e = absurd (cc)
greater_below None None u v h k b e = absurd (cc)

feature_below : (answer given_test : Bool) → Below (if given_test then Some answer else None) (Some answer)
feature_below answer true b e = e
feature_below answer false b e = absurd (cc)

leaf_below : (p : PlatformData) (leaf : Leaf) → Below (leaf_value p leaf) (leaf_value (given p) leaf)
leaf_below p (Has line) b e = e
leaf_below p (Feature name) b e = feature_below (has p (line_of (codes "target_feature") name)) p.features_given b e
leaf_below p Nowhere b e = e

mutual
  stays : (p : PlatformData) (e : Expression) → Below (value p e) (value (given p) e)
  stays p (Asks leaf) = leaf_below p leaf
  stays p (Every parts) = stays_least p parts
  stays p (Some_of parts) = stays_greatest p parts
  stays p (Negated e) = mirror_below (value p e) (value (given p) e) (stays p e)

  stays_least : (p : PlatformData) (es : Expressions) → Below (least (values p es)) (least (values (given p) es))
  stays_least p no_parts = λ b e. e
  stays_least p (part e es) =
      lesser_below (value p e) (least (values p es)) (value (given p) e) (least (values (given p) es))
      (stays p e) (stays_least p es)

  stays_greatest : (p : PlatformData) (es : Expressions)
      → Below (greatest (values p es)) (greatest (values (given p) es))
  stays_greatest p no_parts = λ b e. e
  stays_greatest p (part e es) =
      greater_below (value p e) (greatest (values p es)) (value (given p) e) (greatest (values (given p) es))
      (stays p e) (stays_greatest p es)

pub features_change_nothing : FeaturesChangeNothingKnown
features_change_nothing p (OfTriple triple) known e = e
features_change_nothing p (OfExpression e) known is = stays p e known is
