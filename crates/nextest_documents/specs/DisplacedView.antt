-- What a `Displaced` means.
use Rattle.std.specs.Prelude.{List, [], ◌∷◌, map, String, string_bytes}
use Rattle.std.specs.declared.alloc.Global.{Global}
use Rattle.nextest_tree.specs.View.{tree_view}
use Rattle.nextest_documents.specs.Displaced.{Under, replaced, added, within, Unders, no_unders, under}
use Rattle.nextest_documents.specs.declared.laid.Displaced.{Displaced, fold-Displaced}
use Rattle.nextest_documents.specs.declared.laid.Displaced.TheOpen.{Displaced-F}

-- some keys, and what each of them displaced
abbrev pub unders_of : List (String Global × Under) → Unders
unders_of [] = no_unders
unders_of (e ∷ es) = under (string_bytes e.0) e.1 (unders_of es)

-- one level, with all inside already seen
abbrev pub under_step : Displaced-F Under → Under
under_step (Displaced-F.Replaced t) = replaced (tree_view t)
under_step Displaced-F.Added = added
under_step (Displaced-F.Within v) = within (unders_of v.items)

-- what was displaced
abbrev pub displaced_view : Displaced → Under
displaced_view = fold-Displaced Under under_step

-- what some keys displaced
abbrev pub displaced_entries_view : List (String Global × Displaced) → Unders
displaced_entries_view es = unders_of (map (λ e. (e.0, displaced_view e.1)) es)
