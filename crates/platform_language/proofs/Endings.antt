-- What marks still have to spell, at a point among the parts of what is open.
use Rattle.std.proofs.Common.{◌≡◌, ◌⊎◌, inl, inr, ℕ, zero, suc, List, [], ◌∷◌, ◌++◌, Some, refl, sym, ◌∙◌, ap, subst, append_assoc, append-nil}
use Rattle.platform_language.specs.declared.fault.Place.{Place}
use Rattle.platform_language.specs.Expressions.{Expression, parts_of}
use Rattle.platform_language.specs.Grammar.{BeginsSomewhere, BeginsCommas, BeginsAnyCommas, Spells, SpellsParts, SpellsFurther}
use Rattle.platform_language.specs.Marks.{Mark, CommaMark, CloseMark, Placed}
use Rattle.platform_language.specs.Reading.{Level, call}

-- A mark at a place.
abbrev pub put : Mark → Place → Placed
put m at = record { mark = m; place = at }

-- All parts of what is open are read: behind them it ends, and so does what is around it.
abbrev pub Ends : ℕ → List Expression → List Level → List Placed → Expression → Type 0
Ends d qs [] last e = (last ≡ []) × (qs ≡ e ∷ [])
Ends d qs (l ∷ ls) last e = (rest : List Placed) × (x : Expression)
    × BeginsSomewhere CloseMark last rest × (call l.function qs ≡ Some x)
    × (es : List Expression) × (end : List Placed) × SpellsFurther (suc d) (parts_of es) rest end
    × Ends (suc d) ((l.outside ++ (x ∷ [])) ++ es) ls end e

-- Further parts follow, behind a part.
abbrev pub Behind : ℕ → List Expression → List Level → List Placed → Expression → Type 0
Behind d ps ls ms e = (es : List Expression) × (end : List Placed)
    × SpellsFurther d (parts_of es) ms end × Ends d (ps ++ es) ls end e

-- Further parts follow, behind a `(`.
abbrev pub Fresh : ℕ → List Expression → List Level → List Placed → Expression → Type 0
Fresh d ps ls ms e = (es : List Expression) × (end : List Placed)
    × SpellsParts d (parts_of es) ms end × Ends d (ps ++ es) ls end e

-- Further parts follow, behind a `,`.
abbrev pub Comma : ℕ → List Expression → List Level → List Placed → Expression → Type 0
Comma d ps ls ms e = (mid : List Placed) × BeginsAnyCommas ms mid × Fresh d ps ls mid e

-- A part follows.
abbrev pub Part : ℕ → List Expression → List Level → List Placed → Expression → Type 0
Part d ps ls ms e = (x : Expression) × (more : List Placed) × Spells d x ms more
    × Behind d (ps ++ (x ∷ [])) ls more e

-- The innermost function ended.
abbrev pub Closes : ℕ → List Expression → List Level → List Placed → Expression → Type 0
Closes d qs [] ms e = ⊥
Closes d qs (l ∷ ls) ms e = (x : Expression) × (call l.function qs ≡ Some x)
    × Behind (suc d) (l.outside ++ (x ∷ [])) ls ms e

pub heads : {m n : Placed} {ms ns : List Placed} → m ∷ ms ≡ n ∷ ns → m ≡ n
heads e = cc

pub tails : {m n : Placed} {ms ns : List Placed} → m ∷ ms ≡ n ∷ ns → ms ≡ ns
tails e = cc

pub clash : {m : Placed} {ms : List Placed} {A : Type 0} → m ∷ ms ≡ [] → A
clash e = absurd (cc)

-- the mark and the rest of marks that begin with one
pub first_is : (m : Mark) (at : Place) (k : Mark) (ms rest : List Placed)
    → BeginsSomewhere k (put m at ∷ ms) rest → (m ≡ k) × (ms ≡ rest)
first_is m at k ms rest (there, is) = (ap (λ (p : Placed). p.mark) (heads is), tails is)

-- Endings.

pub ends_close : (d : ℕ) (qs : List Expression) (ls : List Level) (m : Mark) (at : Place)
    (ms : List Placed) (e : Expression)
    → Ends d qs ls (put m at ∷ ms) e → (m ≡ CloseMark) × Closes d qs ls ms e
ends_close d qs [] m at ms e (is, one) = clash is
ends_close d qs (l ∷ ls) m at ms e (rest, x, close, is, es, end, further, ends) =
    let it = first_is m at CloseMark ms rest close in
    (it.0, (x, is, (es, end, subst (λ r. SpellsFurther (suc d) (parts_of es) r end) (sym it.1) further, ends)))

pub close_ends : (d : ℕ) (qs : List Expression) (ls : List Level) (at : Place) (ms : List Placed)
    (e : Expression) → Closes d qs ls ms e → Ends d qs ls (put CloseMark at ∷ ms) e
close_ends d qs [] at ms e closes = absurd (closes)
close_ends d qs (l ∷ ls) at ms e (x, is, (es, end, further, ends)) =
    (ms, x, (at, refl), is, es, end, further, ends)

same_parts : (d : ℕ) (ps qs : List Expression) (ls : List Level) (ms : List Placed) (e : Expression)
    → ps ≡ qs → Ends d ps ls ms e → Ends d qs ls ms e
same_parts d ps qs ls ms e is ends = subst (λ r. Ends d r ls ms e) is ends

one_more : (ps es : List Expression) (x : Expression) → (ps ++ (x ∷ [])) ++ es ≡ ps ++ (x ∷ es)
one_more ps es x = append_assoc ps (x ∷ []) es

-- Behind a `(`.

pub part_fresh : (d : ℕ) (ps : List Expression) (ls : List Level) (ms : List Placed) (e : Expression)
    → Part d ps ls ms e → Fresh d ps ls ms e
part_fresh d ps ls ms e (x, more, spells, (es, end, further, ends)) =
    (x ∷ es, end, (more, spells, further), same_parts d _ _ ls end e (one_more ps es x) ends)

pub close_fresh : (d : ℕ) (ps : List Expression) (ls : List Level) (at : Place) (ms : List Placed)
    (e : Expression) → Closes d ps ls ms e → Fresh d ps ls (put CloseMark at ∷ ms) e
close_fresh d ps ls at ms e closes =
    ([], put CloseMark at ∷ ms, refl, same_parts d _ _ ls _ e (sym (append-nil ps)) (close_ends d ps ls at ms e closes))

pub fresh_cases : (d : ℕ) (ps : List Expression) (ls : List Level) (m : Mark) (at : Place)
    (ms : List Placed) (e : Expression) → Fresh d ps ls (put m at ∷ ms) e
    → ((m ≡ CloseMark) × Closes d ps ls ms e) ⊎ Part d ps ls (put m at ∷ ms) e
fresh_cases d ps ls m at ms e ([], end, is, ends) =
    inl (ends_close d ps ls m at ms e
    (same_parts d _ _ ls _ e (append-nil ps) (subst (λ r. Ends d (ps ++ []) ls r e) (sym is) ends)))
fresh_cases d ps ls m at ms e (x ∷ es, end, (more, spells, further), ends) =
    inr (x, more, spells, (es, end, further, same_parts d _ _ ls end e (sym (one_more ps es x)) ends))

-- Behind a `,`.

pub fresh_comma : (d : ℕ) (ps : List Expression) (ls : List Level) (ms : List Placed) (e : Expression)
    → Fresh d ps ls ms e → Comma d ps ls ms e
fresh_comma d ps ls ms e fresh = (ms, (0, refl), fresh)

pub comma_comma : (d : ℕ) (ps : List Expression) (ls : List Level) (at : Place) (ms : List Placed)
    (e : Expression) → Comma d ps ls ms e → Comma d ps ls (put CommaMark at ∷ ms) e
comma_comma d ps ls at ms e (mid, (n, commas), fresh) = (mid, (suc n, (ms, (at, refl), commas)), fresh)

-- what commas begin with
pub commas_cases : (m : Mark) (at : Place) (ms mid : List Placed)
    → BeginsAnyCommas (put m at ∷ ms) mid
    → (put m at ∷ ms ≡ mid) ⊎ ((m ≡ CommaMark) × BeginsAnyCommas ms mid)
commas_cases m at ms mid (zero, is) = inl is
commas_cases m at ms mid (suc n, (more, comma, commas)) =
    let it = first_is m at CommaMark ms more comma in
    inr (it.0, (n, subst (λ r. BeginsCommas n r mid) (sym it.1) commas))

pub comma_cases : (d : ℕ) (ps : List Expression) (ls : List Level) (m : Mark) (at : Place)
    (ms : List Placed) (e : Expression) → Comma d ps ls (put m at ∷ ms) e
    → ((m ≡ CommaMark) × Comma d ps ls ms e) ⊎ Fresh d ps ls (put m at ∷ ms) e
comma_cases d ps ls m at ms e (mid, commas, fresh) =
    elim (commas_cases m at ms mid commas) [
      | inl is ↦ inr (subst (λ r. Fresh d ps ls r e) (sym is) fresh)
      | inr more ↦ inl (more.0, (mid, more.1, fresh))
    ]

-- Behind a part.

pub behind_cases : (d : ℕ) (ps : List Expression) (ls : List Level) (m : Mark) (at : Place)
    (ms : List Placed) (e : Expression) → Behind d ps ls (put m at ∷ ms) e
    → ((m ≡ CommaMark) × Comma d ps ls ms e) ⊎ ((m ≡ CloseMark) × Closes d ps ls ms e)
behind_cases d ps ls m at ms e ([], end, commas, ends) =
    elim (commas_cases m at ms end commas) [
      | inl is ↦ inr (ends_close d ps ls m at ms e
          (same_parts d _ _ ls _ e (append-nil ps) (subst (λ r. Ends d (ps ++ []) ls r e) (sym is) ends)))
      | inr more ↦ inl (more.0, (end, more.1, ([], end, refl, ends)))
    ]
behind_cases d ps ls m at ms e (x ∷ es, end, (more, inside, last, comma, commas, spells, further), ends) =
    let it = first_is m at CommaMark ms more comma in
    inl (
      it.0,
      (
        inside,
        subst (λ r. BeginsAnyCommas r inside) (sym it.1) commas,
        (x ∷ es, end, (last, spells, further), ends),
      ),
    )

pub comma_behind : (d : ℕ) (ps : List Expression) (ls : List Level) (at : Place) (ms : List Placed)
    (e : Expression) → Comma d ps ls ms e → Behind d ps ls (put CommaMark at ∷ ms) e
comma_behind d ps ls at ms e (mid, (n, commas), ([], end, is, ends)) =
    ([], end, (suc n, (ms, (at, refl), subst (λ r. BeginsCommas n ms r) is commas)), ends)
comma_behind d ps ls at ms e (mid, commas, (x ∷ es, end, (more, spells, further), ends)) =
    (x ∷ es, end, (ms, mid, more, (at, refl), commas, spells, further), ends)

pub close_behind : (d : ℕ) (ps : List Expression) (ls : List Level) (at : Place) (ms : List Placed)
    (e : Expression) → Closes d ps ls ms e → Behind d ps ls (put CloseMark at ∷ ms) e
close_behind d ps ls at ms e closes = (
  [],
  put CloseMark at ∷ ms,
  (0, refl),
  same_parts d _ _ ls _ e (sym (append-nil ps))
      (close_ends d ps ls at ms e closes),
)

-- At the end of the marks.

pub behind_end : (d : ℕ) (ps : List Expression) (ls : List Level) (e : Expression)
    → Behind d ps ls [] e → (ls ≡ []) × (ps ≡ e ∷ [])
behind_end d ps [] e ([], end, commas, (is, one)) = (refl, sym (append-nil ps) ∙ one)
behind_end d ps (l ∷ ls) e ([], end, (zero, none), (rest, x, (at, is), called, es, last, further, ends)) =
    absurd (let clash : [] ≡ put CloseMark at ∷ rest = none ∙ is in cc)
behind_end d ps ls e ([], end, (suc n, (more, (at, is), commas)), ends) = absurd (cc)
behind_end d ps ls e (x ∷ es, end, (more, inside, last, (at, is), commas, spells, further), ends) = absurd (cc)

pub end_behind : (d : ℕ) (e : Expression) → Behind d (e ∷ []) [] [] e
end_behind d e = ([], [], (0, refl), (refl, refl))
