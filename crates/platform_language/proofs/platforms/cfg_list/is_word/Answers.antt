-- The first byte begins a word, and the others are tested.
use Rattle.std.proofs.Common.{◌≡◌, ◌∙◌, ◌<◌, ◌-◌, ◌&&◌, true, sym, ap, List, ℕ, [], ◌∷◌, length, get_or, take, drop, arith, rules, tests}
use Rattle.std.proofs.lemmas.List.{take_all}
use Rattle.std.proofs.lemmas.Iterator.{YieldsList-from_slice}
use Rattle.std.proofs.lemmas.Iterator.Search.{all_from_yields_List}
use Rattle.std.specs.List.{list_all}
use Rattle.platform_language.specs.Platforms.CfgLines.{is_word, starts_word, continues_word}
use Rattle.platform_language.proofs.platforms.cfg_list.is_word.Goals as goal

others : List ℕ → List ℕ
others text = take (length text - 1) (drop 1 text)

is_word_parts : (text : List ℕ) → 0 < length text
    → is_word text ≡ (starts_word (get_or text 0 0) && list_all continues_word (others text))
unfolding others
is_word_parts [] some = absurd (omega arith)
is_word_parts (first ∷ rest) some =
    let all : take (length (first ∷ rest) - 1) rest ≡ rest = take_all (length (first ∷ rest) - 1) rest (omega arith) in
    ap (λ tail. starts_word first && list_all continues_word tail) (sym all)

pub returns-then-starts_word : goal.returns-then-starts_word
unfolding others
returns-then-starts_word c =
    let bytes : List ℕ = c.as_bytes.result.now in
    let some : 0 < length bytes = omega arith in
    let tested : c.all.result ≡ list_all continues_word (others bytes) =
    all_from_yields_List continues_word _ _ c.all.result c.all.ensures.ran
    (YieldsList-from_slice (others bytes) cc) (λ x b q k. search (rules, tests)) in
    let starts : starts_word (get_or bytes 0 0) ≡ true = sym c.starts_word.ensures ∙ c.if-starts_word.true in
    tested
    ∙ ap (λ first. first && list_all continues_word (others bytes)) (sym starts)
    ∙ sym (is_word_parts bytes some)
    ∙ ap is_word c.as_bytes.ensures.value
