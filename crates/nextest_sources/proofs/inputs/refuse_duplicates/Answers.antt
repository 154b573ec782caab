use Rattle.std.proofs.Common.{rules, ◌≡◌, [], ◌∷◌, ◌++◌, ◌+◌, map, drop, take, true, None, is_ok, option_map, refl, sym, ap, ◌∙◌}
use Rattle.std.specs.Option.{option_or}
use Rattle.std.proofs.Math.ListN.{drop_of_length-le}
use Rattle.std.proofs.lemmas.List.{drop_more, take_more, map-append}
use Rattle.nextest_sources.specs.Endings.{Found, error_view}
use Rattle.nextest_sources.specs.InputFaults.{fault_at_source, first_path, second_cause}
use Rattle.nextest_sources.specs.Inputs.{tool_source}
use Rattle.nextest_sources.specs.Sources.{path_view, tool_file_view}
use Rattle.nextest_sources.proofs.Duplicates.{duplicate_fault, tools_fault}
use Rattle.nextest_sources.proofs.FirstPaths.{not_second, next_path}
use Rattle.nextest_sources.proofs.Ends.{exit, found_first}
use Rattle.nextest_sources.proofs.inputs.refuse_duplicates.Goals as goal

pub returns-in_err-refuse_second : goal.returns-in_err-refuse_second
returns-in_err-refuse_second c =
    let tools = c.args.tools.now in
    let i = c.loop-file.file-index in
    let file = c.file-item.result in
    let t = tool_file_view file in
    let e = c.in_err-refuse_second.field-0.0 in
    let before = map tool_file_view (take i tools) in
    let next : drop i tools ≡ file ∷ drop (i + 1) tools =
    drop_more tools i file c.loop-file-test.true ∙ ap (λ f. f ∷ drop (i + 1) tools) (sym c.file-item.is) in
    let earlier : option_map (λ p. path_view p.now) c.copied.result ≡ first_path t.tool before =
    ap (option_map (λ p. path_view p.now)) (c.copied.ensures ∙ c.get.ensures.value)
    ∙ c.loop-file.invariant.0 t.tool in
    let found : Found (duplicate_fault before (map tool_file_view (drop i tools))) (error_view e) =
    rw next (found_first _ _ e (c.in_err-refuse_second.ensures before earlier)) in
    exit _ e _ c.from_residual.ensures.1 (rw (tools_fault [] (map tool_file_view tools), c.loop-file.invariant.1) found)

pub loop-file-preserved : goal.loop-file-preserved
loop-file-preserved c =
    let tools = c.args.tools.now in
    let i = c.loop-file.file-index in
    let file = c.file-item.result in
    let t = tool_file_view file in
    let inv = c.loop-file.invariant in
    let before = map tool_file_view (take i tools) in
    let rest = map tool_file_view (drop (i + 1) tools) in
    let next : drop i tools ≡ file ∷ drop (i + 1) tools =
    drop_more tools i file c.loop-file-test.true ∙ ap (λ f. f ∷ drop (i + 1) tools) (sym c.file-item.is) in
    let more : map tool_file_view (take (i + 1) tools) ≡ before ++ t ∷ [] =
    ap (map tool_file_view) (take_more tools i file c.loop-file-test.true
    ∙ ap (λ f. take i tools ++ f ∷ []) (sym c.file-item.is))
    ∙ map-append tool_file_view (take i tools) (file ∷ []) in
    let earlier : option_map (λ p. path_view p.now) c.copied.result ≡ first_path t.tool before =
    ap (option_map (λ p. path_view p.now)) (c.copied.ensures ∙ c.get.ensures.value) ∙ inv.0 t.tool in
    let passes : fault_at_source (tool_source t) (second_cause before t) ≡ None =
    c.in_ok-refuse_second.ensures before earlier in
    let inserted : is_ok c.insert.result ≡ true = search rules in (
      λ q. next_path c.loop-file.first_path_by_tool c.insert.new.self t.tool _ before t inv.0
          (not_second before t passes) c.insert.result inserted c.insert.ensures.updates refl refl q
          ∙ ap (λ ts. first_path q ts) (sym more),
      inv.1 ∙ ap (λ ts. duplicate_fault before (map tool_file_view ts)) next
          ∙ ap (λ o. option_or o (duplicate_fault (before ++ t ∷ []) rest)) passes
          ∙ ap (λ b. duplicate_fault b rest) (sym more),
    )

pub returns : goal.returns
returns c =
    let tools = c.args.tools.now in
    tools_fault [] (map tool_file_view tools) ∙ c.loop-file.invariant.1
    ∙ ap (λ ts. duplicate_fault (map tool_file_view (take c.loop-file.file-index tools))
    (map tool_file_view ts)) (drop_of_length-le tools c.loop-file-test.false)
