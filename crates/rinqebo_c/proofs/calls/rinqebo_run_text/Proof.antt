-- `rinqebo_run_text` calls the run that is borrowed at the pointer for a piece of its text, and passes the
-- caller's buffer on: a walk of its MIR by hand.
use Rattle.std.proofs.Common.{ℕ, List, [], ◌∷◌, ◌++◌, refl, Bor, w64}
use Rattle.std.proofs.raw_atomic.Walks.{proved}
use seplogic.Ra.Ura.{Ura}
use base.Logic.{id⊢}
use base.Fml.{ftrue, flft}
use mir.Syntax.{named}
use mir.Val.{Val, vptr}
use prog.Wp.{WpFn}
use types.Logic.{Logic}
use contract.Monad.{fact}
use contract.Running.{tables}
use types.Kit.{‵, raw, prop, ◌⊛◌, some, later, ◌$◌, ◌∵◌, !, qed, done, move, drop, use1, split, join, fsplit, fjoin, feq_i, pick, await, regoal, suffices, frame, group}
use types.Part.{whole, sub}
use types.Run.{enter, of_opd, addr, stop, fld, hop, from, no_more, and_then, returns}
use types.Part.{agg}
use types.ByLocal.{alloc_all, pass_all, free_all, look_at, look_in_at, get, get_in, through, sets, lands_as}
use denote.Exit.{yes, left}
use denote.RattleType.{owns}
use denote.Laws.{Is, shows}
use denote.Opens.{shr_dup}
use denote.Plain.{uint_vals, uint_Tells, uint_Lawful}
use denote.RawPtr.{Ptr, RawPtr, block_ptr, in_a_block, rawptr_vals, rawptr_Tells}
use denote.Slice.{mut_slice_vals, mut_slice_Tells}
use denote.Builtin.{u8, usize, SliceRefMutOf}
use denote.Signature.{Slot, plain, types_at}
use denote.Steps.{nothing, heard, peeks}
use denote.Triple.Call.{calls_at}
use denote.Triple.Clauses.{lasts}
use denote.Triple.Spec.{triple_of}
use denote.Triple.Table.{framed}
use denote.Triple.Walked.{says, Stay, Stays, walk_of, stay_dropped, Goes, Goes-dropped, ends_at}
use Rattle.rinqebo_c.specs.Handles.{lent_run}
use Rattle.rinqebo_resolve.specs.Pieces.{IsPieceOf}
use Rattle.rinqebo_resolve.specs.Endings.{ending_text}
use Rattle.rinqebo_resolve.specs.contracts.run.Run.{the_row}
use Rattle.rinqebo_resolve.proofs.run.Run.TheLaws as held
use Rattle.rinqebo_c.specs.contracts.calls.rinqebo_run_text as f
use Rattle.rinqebo_c.proofs.calls.rinqebo_run_text.Statement.{statement}
use Rattle.rinqebo_c.proofs.calls.rinqebo_run_text.Code as code
use Rattle.rinqebo_resolve.specs.contracts.run.Run.copy_piece as g
use Rattle.rinqebo_resolve.proofs.run.Run.copy_piece.Met.{met}

abbrev Out : Slot 1
Out = SliceRefMutOf (0 ∷ []) tt (plain (λ _. u8)) (λ _. tt)

-- of a `&mut` that was passed on there is the callee's promise of its last value
abbrev passed : (s : Slot 1) → Stay s yes
passed s = record { fit = λ κs x w. Unit {0}; has = λ κs x w vs. left ((s.row κs).exit yes) x w }

passed_goes : {M : Type 1} {𝓤 : Ura M} (𝓛 : Logic 𝓤) (s : Slot 1) → Goes 𝓛 1 s yes (passed s)
passed_goes 𝓛 s κs x w vs fits = 𝓛.laws.⇛_intro _

abbrev stayed : Stays f.ended.signature.params f.ended.kept
stayed = (
  stay_dropped (plain (λ _. RawPtr)) yes,
  (stay_dropped (plain (λ _. usize)) yes, (passed Out, tt)),
)

pub rinqebo_run_text_spec : {M : Type 1} → statement M
rinqebo_run_text_spec 𝓤 𝓛 𝓜 𝓡 wired =
    let c = f.clauses 𝓛 𝓜.mem 𝓡.returns in let W = walk_of 𝓛 f.ended stayed c in let 𝓣 = tables 𝓤 𝓛.H 𝓜 𝓡 𝓡.env in
    proved 𝓛 f.ended stayed c 𝓜 𝓡 (
      Goes-dropped 𝓛 1 (plain (λ _. RawPtr)) yes (λ κs x w. refl),
      (Goes-dropped 𝓛 1 (plain (λ _. usize)) yes (λ κs x w. refl), (passed_goes 𝓛 Out, tt)),
    )
    f.Key.name code.function (code.unfolded 𝓤 𝓛.H 𝓜 𝓡 wired)
    (λ κs. (rawptr_vals, (uint_vals w64, (mut_slice_vals, tt))))
    (λ κs. (rawptr_Tells, (uint_Tells w64, (mut_slice_Tells (named 0) κs.0 u8, tt))))
    (λ κs qs bounds a n are.
    let κ = n.0 in let q = n.1 in let x = n.2 in
    let offset = a.1.0 in let out = a.1.1.0 in
    let y : Ptr → W.Ghost = λ p. (
      (κs, qs, bounds, (p, (offset, (out, tt))), (rawptr_vals p, (uint_vals w64 offset, (mut_slice_vals out, tt)))),
      n,
    ) in
    qed 𝓛 (((‵ (flft κs.0 qs.0) ⊛ ‵ ftrue) ⊛ ‵
    (owns (types_at f.signature.params κs) a (y a.0).0.4)) ∷ ‵ (lent_run κ q a.0 x) ∷ []) ∵
    split ! $ move ! (1 ∷ []) $ fsplit ! $ drop ! $ fsplit ! $ move ! (1 ∷ []) $ fsplit ! $ move ! (1 ∷ []) $
    drop ! $ move ! (3 ∷ []) $
    -- [the loan; `out`; the offset; the token]
    in_a_block ! a.0 (λ p. lent_run κ q p x) (id⊢ 𝓤 _) (λ b o e.
    regoal ! (λ p. prop (WpFn 𝓤 𝓛.H 𝓣.C 𝓣.Λ code.function
    (rawptr_vals p ++ (uint_vals w64 offset ++ (mut_slice_vals out ++ []))) (W.post (y p)))) e refl $
    fsplit ! $ move ! (1 ∷ []) $ shr_dup ! the_row (held.the_row_laws.shr_laws) x b o κ $
    enter ! _ _ _ _ _ $ alloc_all !
    (λ l. pass_all ! refl (
      (tt, tt),
      ((tt, record { fits = are.1.0.1 }), ((tt, (tt, (record { fits = are.1.1.0.0.1.0 }, tt))), tt)),
    ) $
    sets ! (of_opd ! (get ! refl)) refl (tt, tt) $
    sets ! (addr ! (through ! refl (stop !))) refl (tt, tt) $
    sets ! (addr ! (from ! (fld ! refl (hop ! (look_in_at ! 3 (sub ! 0 refl (whole !))) (stop !))))) refl (tt, tt) $
    sets ! (agg ! (and_then ! (get ! refl)
    (and_then ! (get_in ! (fld ! refl (stop !)) (sub ! 1 refl (whole !))) (no_more !)))) refl
    (tt, (tt, (record { fits = are.1.1.0.0.1.0 }, tt))) $
    -- [what a `&` holds, twice; the token of the loan; `out`; the offset; the token; the locals]
    let G = triple_of 𝓛 g.signature (g.spec 𝓛 𝓜.mem 𝓡.returns) in
    let r : Bor the_row.Denot = record { ref_ptr = (b, o); now = x } in
    let z : G.Ghost = (
      (
        (κ, (κs.0, tt)),
        (q, (qs.0, tt)),
        tt,
        (r, (offset, (out, tt))),
        (vptr b o ∷ [], (uint_vals w64 offset, (mut_slice_vals out, tt))),
      ),
      tt,
    ) in
    feq_i ! (List Val) (vptr b o ∷ []) (vptr b o ∷ []) refl $ fjoin ! $
    nothing ! $ move ! (4 ∷ 0 ∷ []) $ fjoin ! $ move ! (4 ∷ 0 ∷ []) $ fjoin ! $ move ! (1 ∷ 0 ∷ []) $ fjoin ! $
    move ! (2 ∷ 3 ∷ []) $ join ! $ join ! $ nothing ! $ move ! (1 ∷ 0 ∷ []) $ join ! $ use1 𝓛 (raw (G.pre z))
    (id⊢ 𝓤 _) $
    calls_at ! (framed 𝓤 𝓛.H 𝓜 (tables 𝓤 𝓛.H 𝓜 𝓡 𝓡.env)) G
    (met 𝓤 𝓛 𝓜 𝓡 (code.calls-rinqebo_resolve::run::Run::copy_piece 𝓡.env wired)) z
    (and_then ! (get ! refl) (and_then ! (get ! refl) (and_then ! (get ! refl) (no_more !)))) (λ v.
    use1 𝓛 (later (some (λ (w : ℕ).
    ((‵ (flft κ q) ⊛ (‵ (flft κs.0 qs.0) ⊛ ‵ ftrue)) ⊛ ‵ (usize.own_val w (v ∷ []))) ⊛
    some (λ (ws : Unit {0} × (Unit {0} × (List ℕ × Unit {0}))). ‵ (lasts g.ended z.0.0 z.0.3 ws) ⊛ raw
    (fact 𝓤 (IsPieceOf (ending_text x.ending) offset out.now ws.1.1.0 w)))))) (id⊢ 𝓤 _) $
    await ! tt $ pick ! (λ w. split ! $ move ! (1 ∷ []) $ pick ! (λ ws. split ! $ move ! (1 ∷ []) $ heard ! _ (λ is.
    fsplit ! $ drop ! $ fsplit ! $ drop ! $ fsplit ! $ move ! (1 ∷ []) $ drop ! $
    -- [`out` at its last value; the tokens and the result; what a `&` holds]
    move ! (1 ∷ []) $ split ! $ split ! $ move ! (2 ∷ []) $
    peeks ! usize (Is usize) (shows 𝓛 usize) w (v ∷ [])
    (λ ok. lands_as ! refl refl ((uint_Lawful 𝓛 w64).typed w _ ok).0 $
    returns ! (look_at ! 0 refl) $ free_all ! refl $
    -- [the result; the token of the loan; the token; `out`; what a `&` holds]
    move ! (1 ∷ 4 ∷ []) $ fjoin ! $
    suffices ! _ (ends_at 𝓛 f.ended stayed c (y (block_ptr b o)) v w (tt, (tt, (ws.1.1.0, tt)))
    (tt, (tt, (tt, tt)))) $
    nothing ! $ move ! (4 ∷ 0 ∷ []) $ join ! $ nothing ! $ join ! $ nothing ! $ join ! $
    move ! (3 ∷ 0 ∷ 2 ∷ []) $ group ! 3 $ frame ! $ says ! is $ done !))))))))
