-- `rinqebo_diff_new` makes the run of a comparison, moves it into the room, and passes the caller's number
-- of a side on: a walk of its MIR by hand.
use Rattle.std.proofs.Common.{◌≡◌, ℕ, List, [], ◌∷◌, ◌++◌, refl, sym, ap, ◌∙◌, w32}
use Rattle.std.proofs.raw_atomic.Walks.{proved_at}
use seplogic.Ra.Ura.{Ura}
use lib.Dec.{T}
use mir.Syntax.{Ty, named}
use denote.Laws.{Typed, Is, shows}
use base.Logic.{SProp, id⊢}
use base.Fml.{ftrue, fex, flft}
use base.Fraction.{full_share}
use mir.Val.{Val, vunit, has_ty, WT}
use prog.Wp.{WpFn}
use types.Logic.{Logic, sem}
use contract.Monad.{fact}
use contract.Running.{tables}
use types.Kit.{‵, raw, prop, ◌⊛◌, some, later, ◌$◌, ◌∵◌, !, qed, done, move, drop, use1, use2, split, join, fsplit, fjoin, fpack, feq_i, pick, await, rewrite, regoal, suffices, group}
use types.Run.{enter, of_opd, addr, unit_lit, init, stop, no_more, and_then, assigns, returns}
use types.ByLocal.{alloc_all, pass_all, free_all, look_at, get, through, sets, lands_as}
use borrow.Table.OneValue.{part_in}
use denote.Exit.{yes, left}
use denote.RattleType.{owns}
use denote.Memory.{lone, part_at}
use denote.Plain.{uint_vals}
use denote.RawPtr.{Ptr, RawPtr, lies_at, room_at, in_a_block, rawptr_vals}
use denote.Ref.{MutRef, mut_vals}
use denote.Slice.{ShrSlice, shr_slice_vals}
use denote.Builtin.{u8, u32, RefMutOf, SliceRefOf}
use denote.Signature.{Slot, plain, types_at}
use denote.Steps.{nothing, heard, peeks}
use denote.Triple.Call.{calls_at}
use denote.Triple.Clauses.{lasts}
use denote.Triple.Spec.{triple_of}
use denote.Triple.Table.{framed}
use denote.Triple.Walked.{Stay, Stays, walk_of, stay_dropped, Goes, Goes-dropped, ends_at}
use Rattle.std.specs.contracts.alloc.Global as heap
use Rattle.std.proofs.alloc.Global.TheLaws as heap_laws
use Rattle.rinqebo_resolve.specs.Comparison.Comparisons.{IsComparedRun}
use Rattle.rinqebo_resolve.specs.declared.run.Run.{Run}
use Rattle.rinqebo_resolve.specs.contracts.run.Run.{the_row}
use Rattle.rinqebo_resolve.proofs.run.Run.TheLaws as held
use Rattle.rinqebo_c.specs.contracts.calls.rinqebo_diff_new as f
use Rattle.rinqebo_c.proofs.calls.rinqebo_diff_new.Statement.{statement}
use Rattle.rinqebo_c.proofs.calls.rinqebo_diff_new.Code as code
use Rattle.rinqebo_resolve.specs.contracts.compared_run as g
use Rattle.rinqebo_resolve.proofs.compared_run.Met.{met}

-- a value of one MIR type is one machine value
one : (τ : Ty) (vs : List Val) → Typed (τ ∷ []) vs → (v : Val) × (vs ≡ v ∷ []) × (T (has_ty τ v) × WT v)
one τ [] t = absurd t
one τ (v ∷ []) t = (v, refl, t.0)
one τ (v ∷ u ∷ us) t = absurd t.1

abbrev From : Slot 3
From = SliceRefOf (0 ∷ []) tt (plain (λ _. u8)) (λ _. tt)

abbrev To : Slot 3
To = SliceRefOf (1 ∷ []) tt (plain (λ _. u8)) (λ _. tt)

abbrev Side : Slot 3
Side = RefMutOf (2 ∷ []) tt (plain (λ _. u32)) (λ _. tt)

-- of a `&mut` that was passed on there is the callee's promise of its last value
abbrev passed : (s : Slot 3) → Stay s yes
passed s = record { fit = λ κs x w. Unit {0}; has = λ κs x w vs. left ((s.row κs).exit yes) x w }

passed_goes : {M : Type 1} {𝓤 : Ura M} (𝓛 : Logic 𝓤) (s : Slot 3) → Goes 𝓛 3 s yes (passed s)
passed_goes 𝓛 s κs x w vs fits = 𝓛.laws.⇛_intro _

abbrev stayed : Stays f.ended.signature.params f.ended.kept
stayed = (
  stay_dropped (plain (λ _. heap.the_row)) yes,
  (
    stay_dropped From yes,
    (
      stay_dropped To yes,
      (stay_dropped (plain (λ _. u32)) yes, (stay_dropped (plain (λ _. RawPtr)) yes, (passed Side, tt))),
    ),
  ),
)

pub rinqebo_diff_new_spec : {M : Type 1} → statement M
rinqebo_diff_new_spec 𝓤 𝓛 𝓜 𝓡 wired =
    let c = f.clauses 𝓛 𝓜.mem 𝓡.returns in let W = walk_of 𝓛 f.ended stayed c in let 𝓣 = tables 𝓤 𝓛.H 𝓜 𝓡 𝓡.env in
    proved_at 𝓛 f.ended stayed c 𝓜 𝓡 (
      Goes-dropped 𝓛 3 (plain (λ _. heap.the_row)) yes (λ κs x w. refl),
      (
        Goes-dropped 𝓛 3 From yes (λ κs x w. refl),
        (
          Goes-dropped 𝓛 3 To yes (λ κs x w. refl),
          (
            Goes-dropped 𝓛 3 (plain (λ _. u32)) yes (λ κs x w. refl),
            (Goes-dropped 𝓛 3 (plain (λ _. RawPtr)) yes (λ κs x w. refl), (passed_goes 𝓛 Side, tt)),
          ),
        ),
      ),
    )
    f.Key.name code.function (code.unfolded 𝓤 𝓛.H 𝓜 𝓡 wired) (λ z are.
    let κs = z.0.0 in let qs = z.0.1 in let alloc = z.0.3.0 in let from = z.0.3.1.0 in let to = z.0.3.1.1.0 in
    let origins = z.0.3.1.1.1.0 in let p = z.0.3.1.1.1.1.0 in let side = z.0.3.1.1.1.1.1.0 in
    let Post : Val → SProp 𝓤 = W.post z in
    let h = one (lone heap.the_row.mir) z.0.4.0 ((heap_laws.the_row_laws.lawful 𝓛).typed alloc z.0.4.0 are.0) in
    let is_from = are.1.0.0.0 in let is_to = are.1.1.0.0.0 in let is_origins = are.1.1.1.0.0 in
    let is_p = are.1.1.1.1.0 in let is_side = are.1.1.1.1.1.0.0 in
    qed 𝓛 (((‵ (flft κs.0 qs.0) ⊛ (‵ (flft κs.1.0 qs.1.0) ⊛ (‵ (flft κs.1.1.0 qs.1.1.0) ⊛ ‵ ftrue))) ⊛ ‵
    (owns (types_at f.signature.params κs) z.0.3 z.0.4))
    ∷ ‵ (room_at the_row p) ∷ []) ∵
    split ! $ move ! (1 ∷ []) $ fsplit ! $ move ! (1 ∷ []) $ fsplit ! $ move ! (1 ∷ []) $ fsplit ! $ move ! (1 ∷ []) $
    fsplit ! $ move ! (1 ∷ []) $ fsplit ! $ drop ! $ fsplit ! $ move ! (1 ∷ []) $ drop ! $
    rewrite ! 0 (λ (us : List Val). ‵ ((MutRef (named 2) κs.1.1.0 u32).own_val side us)) is_side refl $
    rewrite ! 1 (λ (us : List Val). ‵ (u32.own_val origins us)) is_origins refl $
    rewrite ! 2 (λ (us : List Val). ‵ ((ShrSlice (named 1) κs.1.0 u8).own_val to us)) is_to refl $
    rewrite ! 3 (λ (us : List Val). ‵ ((ShrSlice (named 0) κs.0 u8).own_val from us)) is_from refl $
    rewrite ! 4 (λ (us : List Val). ‵ (heap.the_row.own_val alloc us)) h.1 refl $ move ! (6 ∷ []) $
    -- [the room; `side`; the number of origins; `to`; `from`; the allocator; the tokens]
    in_a_block ! p (λ s. room_at the_row s) (id⊢ 𝓤 _) (λ b o e.
    regoal ! (λ (us : List Val). prop (WpFn 𝓤 𝓛.H 𝓣.C 𝓣.Λ code.function us Post))
    (λ i. h.1 i ++ (is_from i
    ++ (is_to i ++ (is_origins i ++ ((is_p ∙ ap rawptr_vals e) i ++ (is_side i ++ [])))))) refl $
    enter ! _ _ _ _ _ $ alloc_all !
    (λ l. pass_all ! refl (
      h.2,
      (
        (tt, (tt, (record { fits = are.1.0.0.1.0 }, tt))),
        (
          (tt, (tt, (record { fits = are.1.1.0.0.1.0 }, tt))),
          ((tt, record { fits = are.1.1.1.0.1 }), ((tt, tt), ((tt, tt), tt))),
        ),
      ),
    ) $
    sets ! (of_opd ! (get ! refl)) refl (tt, tt) $
    sets ! (addr ! (through ! refl (stop !))) refl (tt, tt) $
    let G = triple_of 𝓛 g.signature (g.spec 𝓛 𝓜.mem 𝓡.returns) in
    let y : G.Ghost = (
      (
        κs,
        qs,
        tt,
        (alloc, (from, (to, (origins, (side, tt))))),
        (
          h.0 ∷ [],
          (shr_slice_vals from, (shr_slice_vals to, (uint_vals w32 origins, (mut_vals side, tt)))),
        ),
      ),
      tt,
    ) in
    nothing ! $ move ! (2 ∷ 0 ∷ []) $ fjoin ! $ move ! (2 ∷ 0 ∷ []) $ fjoin ! $ move ! (2 ∷ 0 ∷ []) $ fjoin ! $
    move ! (2 ∷ 0 ∷ []) $ fjoin ! $ move ! (2 ∷ 0 ∷ []) $ fjoin ! $ move ! (2 ∷ 0 ∷ []) $ join ! $
    nothing ! $ move ! (1 ∷ 0 ∷ []) $ join ! $ use1 𝓛 (raw (G.pre y)) (id⊢ 𝓤 _) $
    calls_at ! (framed 𝓤 𝓛.H 𝓜 (tables 𝓤 𝓛.H 𝓜 𝓡 𝓡.env)) G
    (met 𝓤 𝓛 𝓜 𝓡 (code.calls-rinqebo_resolve::compared_run 𝓡.env wired)) y
    (and_then ! (get ! refl) (and_then ! (get ! refl)
    (and_then ! (get ! refl) (and_then ! (get ! refl) (and_then ! (get ! refl) (no_more !)))))) (λ v.
    use1 𝓛 (later (some (λ (s : Run).
    ((‵ (flft κs.0 qs.0) ⊛ (‵ (flft κs.1.0 qs.1.0) ⊛ (‵ (flft κs.1.1.0 qs.1.1.0) ⊛ ‵ ftrue))) ⊛ ‵
    (the_row.own_val s (v ∷ []))) ⊛
    some (λ (ws : Unit {0} × (Unit {0} × (Unit {0} × (Unit {0} × (ℕ × Unit {0}))))). ‵
    (lasts g.ended y.0.0 y.0.3 ws) ⊛ raw
    (fact 𝓤 (IsComparedRun from.now to.now origins ws.1.1.1.1.0 s)))))) (id⊢ 𝓤 _) $
    await ! tt $ pick ! (λ s. split ! $ move ! (1 ∷ []) $ pick ! (λ ws. split ! $ move ! (1 ∷ []) $ heard ! _ (λ is.
    fsplit ! $ drop ! $ fsplit ! $ drop ! $ fsplit ! $ drop ! $ fsplit ! $ drop ! $ fsplit ! $ move ! (1 ∷ [])
    $ drop ! $
    -- [`side` at its last value; the tokens and the run; the room; the locals]
    move ! (1 ∷ []) $ split ! $ move ! (1 ∷ []) $
    -- [what the run owns; the tokens; `side`; the room; the locals]
    peeks ! the_row (Is the_row) (shows 𝓛 the_row) s (v ∷ [])
    (λ ok. let good = ((held.the_row_laws.lawful 𝓛).typed s _ ok).0 in
    lands_as ! refl refl good $
    assigns ! (of_opd ! (get ! refl)) (through ! refl (stop !)) (init ! 3 refl good) $
    sets ! (of_opd ! (unit_lit !)) refl (tt, tt) $
    returns ! (look_at ! 0 refl) $ free_all ! refl $
    move ! (3 ∷ 0 ∷ []) $ use2 𝓛 (‵ (part_at the_row full_share s b o)) (part_in 𝓛 the_row refl full_share s b o v) $
    rewrite ! 0 (λ (q : Ptr). ‵ (lies_at the_row full_share q s)) (sym e) refl $
    fpack ! (IsComparedRun from.now to.now origins ws.1.1.1.1.0 s) (λ _. lies_at the_row full_share p s) is $
    fpack ! Run
    (λ (r : Run). fex (IsComparedRun from.now to.now origins ws.1.1.1.1.0 r) (λ _. lies_at the_row full_share p r)) s $
    -- [the run; the tokens; `side`]
    suffices ! _ (ends_at 𝓛 f.ended stayed c z vunit tt
    (tt, (tt, (tt, (tt, (tt, (ws.1.1.1.1.0, tt)))))) (tt, (tt, (tt, (tt, (tt, (tt, tt))))))) $
    feq_i ! _ (vunit ∷ []) _ refl $ nothing ! $ move ! (4 ∷ 0 ∷ []) $ join ! $ nothing ! $ join ! $ nothing ! $ join ! $
    nothing ! $ join ! $ nothing ! $ join ! $ nothing ! $ join ! $
    move ! (3 ∷ 0 ∷ 1 ∷ []) $ group ! 3 $ done !))))))))
