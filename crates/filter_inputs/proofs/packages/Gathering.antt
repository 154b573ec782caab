-- Reading a list element by element, up to its end or the first fault.
use Rattle.std.proofs.Common.{◌≡◌, ℕ, suc, ◌+◌, ◌<◌, ◌≤◌, List, [], ◌∷◌, ◌++◌, length, map, take, drop, get_or, Result, Ok, Err, refl, sym, ap, ◌∙◌, arith, zero-add}
use Rattle.std.proofs.Math.Seq.{drop-cons}
use Rattle.std.proofs.lemmas.List.{length-map, get_or-map, map-append, take_all, take_more, take-append-drop}
use Rattle.std.proofs.lemmas.List.FromFn.{length-enumerate_from, get_or-enumerate_from}
use Rattle.std.specs.List.{enumerate_from}
use Rattle.filter_inputs.specs.Packages.Results.{and_then, gathered, each}

-- what each element gives
abbrev pub results : {A B E : Type 0} → (ℕ → A → Result B E) → List A → List (Result B E)
results f xs = map (λ p. f p.0 p.1) (enumerate_from 0 xs)

-- the first elements gave these values
abbrev pub Gave : {A B E : Type 0} → (ℕ → A → Result B E) → List A → ℕ → List B → Type 0
Gave f xs n done = map Ok done ≡ take n (results f xs)

length-results : {A B E : Type 0} (f : ℕ → A → Result B E) (xs : List A) → length (results f xs) ≡ length xs
length-results f xs = length-map (enumerate_from 0 xs) (λ p. f p.0 p.1) ∙ length-enumerate_from 0 xs

results_at : {A B E : Type 0} (f : ℕ → A → Result B E) (xs : List A) (n : ℕ) (x : A) (r : Result B E)
    → n < length xs → x ≡ get_or xs n x → get_or (results f xs) n r ≡ f n x
results_at f xs n x r within at =
    get_or-map (λ p. f p.0 p.1) (enumerate_from 0 xs) n (0, x) r (omega (arith, length-enumerate_from 0 xs))
    ∙ ap (λ p. f p.0 p.1) (get_or-enumerate_from 0 xs n (0, x) within)
    ∙ ap (λ m. f m (get_or xs n x)) (zero-add n)
    ∙ ap (f n) (sym at)

pub gave_step : {A B E : Type 0} (f : ℕ → A → Result B E) (xs : List A) (n : ℕ) (done : List B) (x : A)
    (b : B) → n < length xs → x ≡ get_or xs n x → f n x ≡ Ok b → Gave f xs n done → Gave f xs (n + 1) (done ++ b ∷ [])
gave_step f xs n done x b within at is gave =
    map-append Ok done (b ∷ [])
    ∙ ap (λ rs. rs ++ Ok b ∷ []) gave
    ∙ ap (λ r. take n (results f xs) ++ r ∷ []) (sym is ∙ sym (results_at f xs n x (Ok b) within at))
    ∙ sym (take_more (results f xs) n (Ok b) (omega (arith, length-results f xs)))

gathered-values : {A : Type 0} (E : Type 0) (xs : List A) → ◌≡◌ {A = Result (List A) E} (gathered (map Ok xs)) (Ok xs)
unfolding gathered
gathered-values E [] = refl
gathered-values E (x ∷ xs) = ap (λ r. and_then r (λ rest. Ok (x ∷ rest))) (gathered-values E xs)

pub gave_all : {A B E : Type 0} (f : ℕ → A → Result B E) (xs : List A) (n : ℕ) (done : List B) → length xs ≤ n
    → Gave f xs n done → each f xs ≡ Ok done
gave_all {E = E} f xs n done passed gave =
    ap gathered (sym (take_all n (results f xs) (omega (arith, length-results f xs))) ∙ sym gave)
    ∙ gathered-values E done

gathered-fault : {A E : Type 0} (xs : List A) (e : E) (rest : List (Result A E))
    → gathered (map Ok xs ++ Err e ∷ rest) ≡ Err e
unfolding gathered
gathered-fault [] e rest = refl
gathered-fault (x ∷ xs) e rest = ap (λ r. and_then r (λ more. Ok (x ∷ more))) (gathered-fault xs e rest)

pub gave_fault : {A B E : Type 0} (f : ℕ → A → Result B E) (xs : List A) (n : ℕ) (done : List B) (x : A)
    (e : E) → n < length xs → x ≡ get_or xs n x → f n x ≡ Err e → Gave f xs n done → each f xs ≡ Err e
gave_fault f xs n done x e within at is gave =
    let rs = results f xs in
    let split : rs ≡ take n rs ++ (get_or rs n (Err e) ∷ drop (suc n) rs) =
    sym (take-append-drop n rs)
    ∙ ap (λ rest. take n rs ++ rest) (drop-cons rs n (Err e) (omega (arith, length-results f xs))) in
    ap gathered
    (split
    ∙ ap (λ front. front ++ (get_or rs n (Err e) ∷ drop (suc n) rs)) (sym gave)
    ∙ ap (λ r. map Ok done ++ (r ∷ drop (suc n) rs)) (results_at f xs n x (Err e) within at ∙ is))
    ∙ gathered-fault done e (drop (suc n) rs)

-- ---- the same of values that are seen in another way

seen_at : {V A : Type 0} (seen : V → A) (values : List V) (n : ℕ) (x : V) → n < length values
    → x ≡ get_or values n x → seen x ≡ get_or (map seen values) n (seen x)
seen_at seen values n x within at = ap seen at ∙ sym (get_or-map seen values n x (seen x) within)

pub seen_start : {A B E : Type 0} (f : ℕ → A → Result B E) (xs : List A) (done : List B) → done ≡ [] → Gave f xs 0 done
seen_start f xs done is = ap (map Ok) is

pub seen_step : {V A B E : Type 0} (seen : V → A) (f : ℕ → A → Result B E) (values : List V) (n : ℕ)
    (done after : List B) (x : V) (b : B) → n < length values → x ≡ get_or values n x → f n (seen x) ≡ Ok b
    → Gave f (map seen values) n done → after ≡ done ++ b ∷ [] → Gave f (map seen values) (n + 1) after
seen_step seen f values n done after x b within at is gave pushed =
    ap (map Ok) pushed
    ∙ gave_step f (map seen values) n done (seen x) b (omega (arith, length-map values seen))
    (seen_at seen values n x within at) is gave

pub seen_all : {V A B E : Type 0} (seen : V → A) (f : ℕ → A → Result B E) (values : List V) (n : ℕ)
    (done : List B) → length values ≤ n → Gave f (map seen values) n done → each f (map seen values) ≡ Ok done
seen_all seen f values n done passed gave =
    gave_all f (map seen values) n done (omega (arith, length-map values seen)) gave

pub seen_fault : {V A B E : Type 0} (seen : V → A) (f : ℕ → A → Result B E) (values : List V) (n : ℕ)
    (done : List B) (x : V) (e : E) → n < length values → x ≡ get_or values n x → f n (seen x) ≡ Err e
    → Gave f (map seen values) n done → each f (map seen values) ≡ Err e
seen_fault seen f values n done x e within at is gave =
    gave_fault f (map seen values) n done (seen x) e (omega (arith, length-map values seen))
    (seen_at seen values n x within at) is gave
