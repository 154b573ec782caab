-- The parts that are found in a text are those that it writes.
use Rattle.std.proofs.Common.{◌≡◌, ℕ, Bool, true, false, ◌&&◌, ◌==◌, eqb-true, List, [], ◌∷◌, Some, None, refl, sym, ap, ◌∙◌, subst, ⊎_elim, inl, inr, arith, true≢false}
use Rattle.std.specs.Prelude.{MatchOption, if◌then◌else◌}
use Rattle.std.proofs.lemmas.Bool.{eqb-false, eq-eqb, and_parts, and_from}
use Rattle.filter_engine.specs.Globs.{is_special, opens, is_last, folders_part, WritesPart}
use Rattle.filter_engine.specs.GlobTexts.{Leading, stars_in, star_in, escaped_in, part_in}
use Rattle.filter_engine.specs.declared.glob.place.Place.{Place}
use Rattle.filter_engine.specs.declared.glob.part.GlobPart.{GlobPart}
use Rattle.filter_engine.specs.declared.glob.part.GlobPart.TheVariants.{Byte, AnyByte, AnyBytes, Folders, Nothing}
use Rattle.filter_engine.proofs.GlobParts.{heads, apart, special_apart, any_front, same_part, star_written, folders_written, no_part, part_shorter}
use Rattle.filter_engine.proofs.Tells.{Tells, tells_only}

module _ (inside : Bool) (place : Place) where
  -- What is found is a part, or none is there.
  abbrev PartIs : List ℕ → Leading GlobPart → Type 0
  PartIs text found =
      MatchOption found ((p : GlobPart) (r : List ℕ) → WritesPart inside place text p r → ⊥)
      (λ f. WritesPart inside place text f.0 f.1)

  -- Two stars that are not last ones, before no slash.
  two_stars : (text : List ℕ) → is_last inside place text ≡ false
      → ((rest : List ℕ) → text ≡ 47 ∷ rest → opens place ≡ true → ⊥)
      → WritesPart inside place (42 ∷ 42 ∷ text) AnyBytes (42 ∷ text)
  two_stars text no_last no_slash =
      star_written inside place (42 ∷ 42 ∷ text) (42 ∷ text) refl
      (λ w. no_slash w.0 (let e = w.1 in cc) w.2)
      (λ w. let same : w.0 ≡ text = (let e = w.1 in cc) in
      true≢false (sym w.2 ∙ ap (is_last inside place) same ∙ no_last))

  last_by : (text : List ℕ) (last : Bool) → is_last inside place text ≡ last
      → ((rest : List ℕ) → text ≡ 47 ∷ rest → opens place ≡ true → ⊥)
      → let f : GlobPart × List ℕ = (if last then (Nothing, text) else (AnyBytes, 42 ∷ text)) in
      WritesPart inside place (42 ∷ 42 ∷ text) f.0 f.1
  last_by text true is no_slash = (refl, is)
  last_by text false is no_slash = two_stars text is no_slash

  slash_by : (byte : ℕ) (text : List ℕ) (folders : Bool) → (byte == 47 && opens place) ≡ folders
      → let f : GlobPart × List ℕ = (if folders then (folders_part inside place text, text)
      else if is_last inside place (byte ∷ text) then (Nothing, byte ∷ text) else (AnyBytes, 42 ∷ byte ∷ text)) in
      WritesPart inside place (42 ∷ 42 ∷ byte ∷ text) f.0 f.1
  slash_by byte text true is =
      let both = and_parts (byte == 47) (opens place) is in
      folders_written inside place (42 ∷ 42 ∷ byte ∷ text) text
      (ap (λ b. 42 ∷ 42 ∷ b ∷ text) (eqb-true byte 47 both.0)) both.1
  slash_by byte text false is =
      last_by (byte ∷ text) (is_last inside place (byte ∷ text)) refl
      (λ rest e opened. true≢false
      (sym (and_from (byte == 47) (opens place)
      (eq-eqb byte 47 (heads (byte ∷ text) byte 47 text rest refl e).0) opened) ∙ is))

  stars_are : (text : List ℕ)
      → WritesPart inside place (42 ∷ 42 ∷ text) (stars_in inside place text).0 (stars_in inside place text).1
  stars_are [] = last_by [] (is_last inside place []) refl (λ rest e opened. cc)
  stars_are (byte ∷ text) = slash_by byte text (byte == 47 && opens place) refl

  -- One star before anything else is any bytes.
  one_star : (text : List ℕ) → ((rest : List ℕ) → text ≡ 42 ∷ rest → ⊥)
      → WritesPart inside place (42 ∷ text) AnyBytes text
  one_star text single =
      star_written inside place (42 ∷ text) text refl (λ w. single (47 ∷ w.0) (let e = w.1 in cc))
      (λ w. single w.0 (let e = w.1 in cc))

  star_by : (byte : ℕ) (text : List ℕ) (two : Bool) → (byte == 42) ≡ two
      → let f : GlobPart × List ℕ = (if two then stars_in inside place text else (AnyBytes, byte ∷ text)) in
      WritesPart inside place (42 ∷ byte ∷ text) f.0 f.1
  star_by byte text true is =
      subst (λ b. WritesPart inside place (42 ∷ b ∷ text) (stars_in inside place text).0
      (stars_in inside place text).1) (sym (eqb-true byte 42 is)) (stars_are text)
  star_by byte text false is =
      one_star (byte ∷ text) (λ rest e. eqb-false byte 42 is (heads (byte ∷ text) byte 42 text rest refl e).0)

  star_is : (text : List ℕ)
      → WritesPart inside place (42 ∷ text) (star_in inside place text).0 (star_in inside place text).1
  star_is [] = one_star [] (λ rest e. cc)
  star_is (byte ∷ text) = star_by byte text (byte == 42) refl

  -- Where a backslash is the last byte, no part stands.
  lone_escape : (text : List ℕ) → text ≡ 92 ∷ [] → (p : GlobPart) (r : List ℕ) → WritesPart inside place text p r → ⊥
  lone_escape text e (Byte b) r w =
      ⊎_elim
      (λ (plain : (text ≡ b ∷ r) × (is_special b ≡ false)). special_apart b 92 plain.1 refl
      (heads text b 92 r [] plain.0 e).0)
      (λ (escaped : text ≡ 92 ∷ b ∷ r). let f = (heads text 92 92 (b ∷ r) [] escaped e).1 in absurd (cc))
      w
  lone_escape text e AnyByte r w = apart 63 92 r [] text w e (omega arith)
  lone_escape text e AnyBytes r w = let star = any_front inside place text r w in
      apart 42 92 star.0 [] text star.1 e (omega arith)
  lone_escape text e Folders r w = apart 42 92 (42 ∷ 47 ∷ r) [] text w.0.0 e (omega arith)
  lone_escape text e Nothing r w = apart 42 92 (42 ∷ r) [] text w.0 e (omega arith)

  escaped_is : (text : List ℕ) → PartIs (92 ∷ text) (escaped_in inside place text)
  escaped_is [] = lone_escape (92 ∷ []) refl
  escaped_is (byte ∷ text) = inr refl

  plain_by : (byte : ℕ) (text : List ℕ) (special : Bool) → is_special byte ≡ special → (byte ≡ 63 → ⊥)
      → (byte ≡ 42 → ⊥) → (byte ≡ 92 → ⊥)
      → PartIs (byte ∷ text) (if special then None else Some (Byte byte, text))
  plain_by byte text true is question star escape =
      no_part inside place (byte ∷ text) byte text refl is question star escape
  plain_by byte text false is question star escape = inl (refl, is)

  escape_by : (byte : ℕ) (text : List ℕ) (escape : Bool) → (byte == 92) ≡ escape → (byte ≡ 63 → ⊥) → (byte ≡ 42 → ⊥)
      → PartIs (byte ∷ text) (if escape then escaped_in inside place text else if is_special byte then None
      else Some (Byte byte, text))
  escape_by byte text true is question star =
      subst (λ b. PartIs (b ∷ text) (escaped_in inside place text)) (sym (eqb-true byte 92 is)) (escaped_is text)
  escape_by byte text false is question star =
      plain_by byte text (is_special byte) refl question star (eqb-false byte 92 is)

  any_by : (byte : ℕ) (text : List ℕ) (star : Bool) → (byte == 42) ≡ star → (byte ≡ 63 → ⊥)
      → PartIs (byte ∷ text) (if star then Some (star_in inside place text)
      else if byte == 92 then escaped_in inside place text else if is_special byte then None else Some
      (Byte byte, text))
  any_by byte text true is question =
      subst (λ b. PartIs (b ∷ text) (Some (star_in inside place text))) (sym (eqb-true byte 42 is)) (star_is text)
  any_by byte text false is question = escape_by byte text (byte == 92) refl question (eqb-false byte 42 is)

  part_by : (byte : ℕ) (text : List ℕ) (question : Bool) → (byte == 63) ≡ question
      → PartIs (byte ∷ text) (if question then Some (AnyByte, text)
      else if byte == 42 then Some (star_in inside place text)
      else if byte == 92 then escaped_in inside place text else if is_special byte then None else Some
      (Byte byte, text))
  part_by byte text true is = ap (λ b. b ∷ text) (eqb-true byte 63 is)
  part_by byte text false is = any_by byte text (byte == 42) refl (eqb-false byte 63 is)

  part_is : (text : List ℕ) → PartIs text (part_in inside place text)
  part_is [] = λ p r w. omega (arith, part_shorter inside place [] p r w)
  part_is (byte ∷ text) = part_by byte text (byte == 63) refl

  -- The part that is found is the one that is written.
  pub part_tells : (text : List ℕ) → Tells (part_in inside place text) (WritesPart inside place text)
  part_tells text =
      tells_only (WritesPart inside place text) (part_in inside place text) (part_is text)
      (λ p q r s w v. same_part inside place text p q r s w v)
