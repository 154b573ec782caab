-- The layers of tools, from the last one on.
use Rattle.std.proofs.Common.{◌≡◌, ◌<◌, ◌-◌, ◌+◌, ◌∙◌, ℕ, List, [], ◌∷◌, ◌++◌, ap, append_assoc, arith, get_or, length, map, reverse, sym, take}
use Rattle.std.proofs.lemmas.List.{get_or-reverse, length-reverse, map-append, take_all, take_more}
use Rattle.nextest_sources.specs.declared.sources.ToolConfigFile.{ToolConfigFile}
use Rattle.rinqebo_request.specs.Files.Layers.{LayerRead, layer_view, tool_layer}
use Rattle.rinqebo_request.specs.declared.files.layers.Layer.{Layer}

-- one element more from the end of a list
reversed_more : {X : Type 0} (xs : List X) (k m at : ℕ) (x : X) → k < length xs → m ≡ k + 1
    → at ≡ length xs - 1 - k → x ≡ get_or xs at x → take m (reverse xs) ≡ take k (reverse xs) ++ x ∷ []
reversed_more xs k m at x within next where_at is =
    let long : k < length (reverse xs) = omega (arith, length-reverse xs) in
    let here : get_or (reverse xs) k x ≡ x =
    get_or-reverse xs k x within ∙ ap (λ n. get_or xs n x) (sym where_at) ∙ sym is in
    ap (λ n. take n (reverse xs)) next ∙ take_more (reverse xs) k x long
    ∙ ap (λ y. take k (reverse xs) ++ y ∷ []) here

-- one tool more
pub tools_more : (tools : List ToolConfigFile) (k m at : ℕ) (tool : ToolConfigFile) (start : List LayerRead)
    (old new : List Layer) (layer : Layer) → k < length tools → m ≡ k + 1 → at ≡ length tools - 1 - k
    → tool ≡ get_or tools at tool → map layer_view old ≡ start ++ map tool_layer (take k (reverse tools))
    → layer_view layer ≡ tool_layer tool → new ≡ old ++ layer ∷ []
    → map layer_view new ≡ start ++ map tool_layer (take m (reverse tools))
tools_more tools k m at tool start old new layer within next where_at is before same more =
    ap (map layer_view) more ∙ map-append layer_view old (layer ∷ [])
    ∙ (λ i. before i ++ same i ∷ [])
    ∙ append_assoc start (map tool_layer (take k (reverse tools))) (tool_layer tool ∷ [])
    ∙ ap (λ rest. start ++ rest) (sym (map-append tool_layer (take k (reverse tools)) (tool ∷ [])))
    ∙ ap (λ rest. start ++ map tool_layer rest) (sym (reversed_more tools k m at tool within next where_at is))

-- all tools
pub tools_all : (tools : List ToolConfigFile) (k : ℕ) (start now : List LayerRead) → k ≡ length tools
    → now ≡ start ++ map tool_layer (take k (reverse tools)) → now ≡ start ++ map tool_layer (reverse tools)
tools_all tools k start now all before =
    before ∙ ap (λ rest. start ++ map tool_layer rest)
    (take_all k (reverse tools) (omega (arith, length-reverse tools)))
