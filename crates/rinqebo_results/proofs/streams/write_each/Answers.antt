use Rattle.std.proofs.Common.{◌≡◌, ◌<◌, ◌+◌, ◌∙◌, ◌++◌, ℕ, List, [], length, take, drop, get_or, flat_map, ap, refl, sym, subst, take-append-drop}
use Rattle.std.proofs.lemmas.Grind.{flat_map-append}
use Rattle.std.proofs.lemmas.List.{flat_map_more, take_all, take_more}
use Rattle.std.proofs.KnownBytes.{Appends-trans}
use Rattle.std.specs.Io.KnownBytes.{Appends}
use Rattle.rinqebo_results.specs.Prefixes.{AppendsPrefix}
use Rattle.rinqebo_results.proofs.Prefixes.{prefix_behind, prefix_whole}
use Rattle.rinqebo_results.proofs.streams.write_each.Goals as goal

-- what f gives for one element more
one_more : {X : Type 0} (f : X → List ℕ) (xs : List X) (i : ℕ) (x d : X) → i < length xs → x ≡ get_or xs i d
    → (ys : List ℕ) → ys ≡ f x → flat_map f (take i xs) ++ ys ≡ flat_map f (take (i + 1) xs)
one_more f xs i x d lt is ys same =
    ap (λ zs. flat_map f (take i xs) ++ zs) (same ∙ ap f is)
    ∙ flat_map_more f [] (take i xs) (get_or xs i d)
    ∙ ap (flat_map f) (sym (take_more xs i d lt))

-- what f gives for the elements before one, for it, and for those behind it
all_of : {X : Type 0} (f : X → List ℕ) (xs : List X) (i : ℕ) (x d : X) → i < length xs → x ≡ get_or xs i d
    → (ys : List ℕ) → ys ≡ f x → (flat_map f (take i xs) ++ ys) ++ flat_map f (drop (i + 1) xs) ≡ flat_map f xs
all_of f xs i x d lt is ys same =
    ap (λ zs. zs ++ flat_map f (drop (i + 1) xs)) (one_more f xs i x d lt is ys same)
    ∙ sym (flat_map-append f (take (i + 1) xs) (drop (i + 1) xs))
    ∙ ap (flat_map f) (take-append-drop (i + 1) xs)

pub loop-text-preserved : goal.loop-text-preserved
loop-text-preserved g c =
    let contents = g.W.Write.contents in
    let texts = c.args.texts.now in
    let i = c.loop-text.text-index in
    subst (Appends (contents c.args.out.now) (contents c.write_bytes.new.out))
    (one_more (λ text. text.now) texts i _ _ c.loop-text-test.true refl c.as_bytes.result.now c.as_bytes.ensures.value)
    (Appends-trans (contents c.args.out.now) (contents c.loop-text.out) (contents c.write_bytes.new.out)
    (flat_map (λ text. text.now) (take i texts)) c.as_bytes.result.now c.loop-text.invariant
    c.in_ok-write_bytes.ensures.ok)

pub returns-in_err-write_bytes-clause-begun : goal.returns-in_err-write_bytes-clause-begun
returns-in_err-write_bytes-clause-begun g c =
    let contents = g.W.Write.contents in
    let texts = c.args.texts.now in
    let i = c.loop-text.text-index in
    subst (AppendsPrefix (contents c.args.out.now) (contents c.write_bytes.new.out))
    (all_of (λ text. text.now) texts i _ _ c.loop-text-test.true refl c.as_bytes.result.now c.as_bytes.ensures.value)
    (prefix_behind (contents c.args.out.now) (contents c.loop-text.out) (contents c.write_bytes.new.out)
    (flat_map (λ text. text.now) (take i texts)) c.as_bytes.result.now (flat_map (λ text. text.now) (drop (i + 1) texts))
    c.loop-text.invariant c.write_bytes.ensures.begun)

pub returns-clause-begun : goal.returns-clause-begun
returns-clause-begun g c =
    let contents = g.W.Write.contents in
    let texts = c.args.texts.now in
    let old = contents c.args.out.now in
    let new = contents c.loop-text.out in
    prefix_whole old new (flat_map (λ text. text.now) texts)
    (subst (λ ts. Appends old new (flat_map (λ text. text.now) ts))
    (take_all c.loop-text.text-index texts c.loop-text-test.false) c.loop-text.invariant)
