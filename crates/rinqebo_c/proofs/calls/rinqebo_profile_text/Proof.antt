-- `rinqebo_profile_text` calls the profile that is borrowed at the pointer for a text, and passes the
-- caller's buffer on: a walk of its MIR by hand.
use Rattle.std.proofs.Common.{◌≡◌, ℕ, List, [], ◌∷◌, ◌++◌, refl, Bor, w32, w64}
use Rattle.std.proofs.raw_atomic.Walks.{proved}
use seplogic.Ra.Ura.{Ura}
use base.Logic.{id⊢}
use base.Fml.{ftrue, flft}
use mir.Syntax.{named, erased}
use mir.Val.{Val, vptr}
use prog.Wp.{WpFn}
use types.Logic.{Logic, sem}
use contract.BorrowLft.{◌⊑◌}
use contract.Monad.{fact}
use contract.Running.{tables}
use types.Kit.{‵, raw, prop, ◌⊛◌, some, later, ◌$◌, ◌∵◌, !, qed, done, move, drop, use1, split, join, fsplit, fjoin, feq_i, pick, await, regoal, suffices, frame, group}
use types.Part.{whole, sub}
use types.Run.{enter, of_opd, addr, stop, fld, hop, from, no_more, and_then, returns}
use types.Part.{agg}
use types.ByLocal.{alloc_all, pass_all, free_all, look_at, look_in_at, get, get_in, through, sets, lands_as}
use denote.Exit.{yes, left}
use denote.RattleType.{owns}
use denote.Laws.{Is, shows}
use denote.Opens.{shr_dup}
use denote.Plain.{uint_vals, uint_Tells, uint_Lawful}
use denote.RawPtr.{Ptr, RawPtr, block_ptr, in_a_block, rawptr_vals, rawptr_Tells}
use denote.Ref.{mut_vals, mut_Tells}
use denote.Slice.{mut_slice_vals, mut_slice_Tells}
use denote.Builtin.{u8, u32, usize, RefMutOf, SliceRefMutOf}
use denote.Signature.{Slot, plain, types_at}
use denote.Steps.{nothing, heard, peeks}
use denote.Triple.Call.{calls_at}
use denote.Triple.Clauses.{lasts}
use denote.Triple.Spec.{triple_of}
use denote.Triple.Table.{framed}
use denote.Triple.Walked.{says, Stay, Stays, walk_of, stay_dropped, Goes, Goes-dropped, ends_at}
use Rattle.rinqebo_c.specs.Handles.{lent_profile, profile_row}
use Rattle.rinqebo_session.specs.Texts.{IsTextCopied}
use Rattle.rinqebo_session.proofs.profile.Profile.TheLaws as held
use Rattle.rinqebo_c.specs.contracts.calls.rinqebo_profile_text as f
use Rattle.rinqebo_c.proofs.calls.rinqebo_profile_text.Statement.{statement}
use Rattle.rinqebo_c.proofs.calls.rinqebo_profile_text.Code as code
use Rattle.rinqebo_session.specs.contracts.profile.Profile.copy_text as g
use Rattle.rinqebo_session.proofs.profile.Profile.copy_text.Met.{met}

abbrev Out : Slot 2
Out = SliceRefMutOf (0 ∷ []) tt (plain (λ _. u8)) (λ _. tt)

abbrev Needed : Slot 2
Needed = RefMutOf (1 ∷ []) tt (plain (λ _. usize)) (λ _. tt)

-- of a `&mut` that was passed on there is the callee's promise of its last value
abbrev passed : (s : Slot 2) → Stay s yes
passed s = record { fit = λ κs x w. Unit {0}; has = λ κs x w vs. left ((s.row κs).exit yes) x w }

passed_goes : {M : Type 1} {𝓤 : Ura M} (𝓛 : Logic 𝓤) (s : Slot 2) → Goes 𝓛 2 s yes (passed s)
passed_goes 𝓛 s κs x w vs fits = 𝓛.laws.⇛_intro _

abbrev stayed : Stays f.ended.signature.params f.ended.kept
stayed = (
  stay_dropped (plain (λ _. RawPtr)) yes,
  (stay_dropped (plain (λ _. u32)) yes, (stay_dropped (plain (λ _. usize)) yes, (passed Out, (passed Needed, tt)))),
)

pub rinqebo_profile_text_spec : {M : Type 1} → statement M
rinqebo_profile_text_spec 𝓤 𝓛 𝓜 𝓡 wired =
    let c = f.clauses 𝓛 𝓜.mem 𝓡.returns in let W = walk_of 𝓛 f.ended stayed c in let 𝓣 = tables 𝓤 𝓛.H 𝓜 𝓡 𝓡.env in
    proved 𝓛 f.ended stayed c 𝓜 𝓡 (
      Goes-dropped 𝓛 2 (plain (λ _. RawPtr)) yes (λ κs x w. refl),
      (
        Goes-dropped 𝓛 2 (plain (λ _. u32)) yes (λ κs x w. refl),
        (Goes-dropped 𝓛 2 (plain (λ _. usize)) yes (λ κs x w. refl), (passed_goes 𝓛 Out, (passed_goes 𝓛 Needed, tt))),
      ),
    )
    f.Key.name code.function (code.unfolded 𝓤 𝓛.H 𝓜 𝓡 wired)
    (λ κs. (rawptr_vals, (uint_vals w32, (uint_vals w64, (mut_slice_vals, (mut_vals, tt))))))
    (λ κs. (
      rawptr_Tells,
      (
        uint_Tells w32,
        (uint_Tells w64, (mut_slice_Tells (named 0) κs.0 u8, (mut_Tells (named 1) κs.1.0 usize, tt))),
      ),
    ))
    (λ κs qs bounds a n are.
    let κ = n.0 in let ι = n.1 in let q = n.2 in let k = n.3 in let x = n.4 in
    let R = profile_row ι in
    let kind = a.1.0 in let index = a.1.1.0 in let out = a.1.1.1.0 in let needed = a.1.1.1.1.0 in
    let y : Ptr → W.Ghost = λ p. (
      (
        κs,
        qs,
        bounds,
        (p, (kind, (index, (out, (needed, tt))))),
        (
          rawptr_vals p,
          (
            uint_vals w32 kind,
            (uint_vals w64 index, (mut_slice_vals out, (mut_vals needed, tt))),
          ),
        ),
      ),
      n,
    ) in
    qed 𝓛 (((‵ (flft κs.0 qs.0) ⊛ (‵ (flft κs.1.0 qs.1.0) ⊛ ‵ ftrue)) ⊛ ‵
    (owns (types_at f.signature.params κs) a (y a.0).0.4))
    ∷ (‵ (lent_profile κ ι q k a.0 x) ⊛ raw (fact 𝓤 (κ ⊑ ι))) ∷ []) ∵
    split ! $ move ! (1 ∷ []) $ fsplit ! $ drop ! $ fsplit ! $ move ! (1 ∷ []) $ fsplit ! $ move ! (1 ∷ []) $
    fsplit ! $ move ! (1 ∷ []) $ fsplit ! $ move ! (1 ∷ []) $ drop ! $ move ! (5 ∷ []) $
    split ! $ move ! (1 ∷ []) $ heard ! _ (λ within.
    -- [the loan; `needed`; `out`; the index; the kind; the tokens]
    in_a_block ! a.0 (λ p. lent_profile κ ι q k p x) (id⊢ 𝓤 _) (λ b o e.
    regoal ! (λ p. prop (WpFn 𝓤 𝓛.H 𝓣.C 𝓣.Λ code.function
    (rawptr_vals p ++ (uint_vals w32 kind
    ++ (uint_vals w64 index ++ (mut_slice_vals out ++ (mut_vals needed ++ []))))) (W.post (y p)))) e refl $
    fsplit ! $ move ! (1 ∷ []) $ fsplit ! $ move ! (1 ∷ []) $ shr_dup ! R
    ((held.the_row_laws (record { mir = erased; lft = ι })).shr_laws) x b o κ $
    enter ! _ _ _ _ _ $ alloc_all !
    (λ l. pass_all ! refl (
      (tt, tt),
      (
        (tt, record { fits = are.1.0.1 }),
        (
          (tt, record { fits = are.1.1.0.1 }),
          ((tt, (tt, (record { fits = are.1.1.1.0.0.1.0 }, tt))), ((tt, tt), tt)),
        ),
      ),
    ) $
    sets ! (of_opd ! (get ! refl)) refl (tt, tt) $
    sets ! (addr ! (through ! refl (stop !))) refl (tt, tt) $
    sets ! (addr ! (from ! (fld ! refl (hop ! (look_in_at ! 4 (sub ! 0 refl (whole !))) (stop !))))) refl (tt, tt) $
    sets ! (agg ! (and_then ! (get ! refl)
    (and_then ! (get_in ! (fld ! refl (stop !)) (sub ! 1 refl (whole !))) (no_more !)))) refl
    (tt, (tt, (record { fits = are.1.1.1.0.0.1.0 }, tt))) $
    sets ! (addr ! (through ! refl (stop !))) refl (tt, tt) $
    -- [what a `&` holds, twice; the tokens of the session's loan and of the profile's; `needed`; `out`;
    -- the index; the kind; the tokens; the locals]
    let G = triple_of 𝓛 g.signature (g.spec 𝓛 𝓜.mem 𝓡.returns) in
    let r : Bor R.Denot = record { ref_ptr = (b, o); now = x } in
    let z : G.Ghost = (
      (
        (κ, (ι, (κs.0, (κs.1.0, tt)))),
        (q, (k, (qs.0, (qs.1.0, tt)))),
        (within, tt),
        (r, (kind, (index, (out, (needed, tt))))),
        (
          vptr b o ∷ [],
          (
            uint_vals w32 kind,
            (uint_vals w64 index, (mut_slice_vals out, (mut_vals needed, tt))),
          ),
        ),
      ),
      tt,
    ) in
    feq_i ! (List Val) (vptr b o ∷ []) (vptr b o ∷ []) refl $ fjoin ! $
    nothing ! $ move ! (5 ∷ 0 ∷ []) $ fjoin ! $ move ! (5 ∷ 0 ∷ []) $ fjoin ! $ move ! (5 ∷ 0 ∷ []) $ fjoin !
    $ move ! (5 ∷ 0 ∷ []) $ fjoin ! $ move ! (1 ∷ 0 ∷ []) $ fjoin ! $
    move ! (2 ∷ 4 ∷ []) $ join ! $ move ! (3 ∷ 0 ∷ []) $ join ! $ join ! $ nothing ! $ move ! (1 ∷ 0 ∷ []) $
    join ! $ use1 𝓛 (raw (G.pre z)) (id⊢ 𝓤 _) $
    calls_at ! (framed 𝓤 𝓛.H 𝓜 (tables 𝓤 𝓛.H 𝓜 𝓡 𝓡.env)) G
    (met 𝓤 𝓛 𝓜 𝓡 (code.calls-rinqebo_session::profile::Profile::copy_text 𝓡.env wired)) z
    (and_then ! (get ! refl) (and_then ! (get ! refl)
    (and_then ! (get ! refl) (and_then ! (get ! refl) (and_then ! (get ! refl) (no_more !)))))) (λ v.
    use1 𝓛 (later (some (λ (w : ℕ).
    ((‵ (flft κ q) ⊛ (‵ (flft ι k) ⊛ (‵ (flft κs.0 qs.0) ⊛ (‵ (flft κs.1.0 qs.1.0) ⊛ ‵ ftrue)))) ⊛ ‵
    (u32.own_val w (v ∷ []))) ⊛
    some (λ (ws : Unit {0} × (Unit {0} × (Unit {0} × (List ℕ × (ℕ × Unit {0}))))). ‵
    (lasts g.ended z.0.0 z.0.3 ws) ⊛ raw
    (fact 𝓤 (IsTextCopied x kind index out.now ws.1.1.1.0 ws.1.1.1.1.0 w)))))) (id⊢ 𝓤 _) $
    await ! tt $ pick ! (λ w. split ! $ move ! (1 ∷ []) $ pick ! (λ ws. split ! $ move ! (1 ∷ []) $ heard ! _ (λ is.
    fsplit ! $ drop ! $ fsplit ! $ drop ! $ fsplit ! $ drop ! $ fsplit ! $ move ! (1 ∷ []) $ fsplit ! $ move !
    (1 ∷ []) $ drop ! $
    -- [`needed` and `out` at their last values; the tokens and the result; what a `&` holds]
    move ! (2 ∷ []) $ split ! $ split ! $ move ! (1 ∷ []) $ split ! $ move ! (3 ∷ []) $
    peeks ! u32 (Is u32) (shows 𝓛 u32) w (v ∷ []) (λ ok. lands_as ! refl refl ((uint_Lawful 𝓛 w32).typed w _ ok).0 $
    returns ! (look_at ! 0 refl) $ free_all ! refl $
    -- [the result; the token of the session's loan; the tokens; that of the profile's loan; `needed`;
    -- `out`; what a `&` holds]
    move ! (1 ∷ 6 ∷ []) $ fjoin ! $ move ! (3 ∷ 0 ∷ []) $ fjoin ! $
    suffices ! _ (ends_at 𝓛 f.ended stayed c (y (block_ptr b o)) v w
    (tt, (tt, (tt, (ws.1.1.1.0, (ws.1.1.1.1.0, tt))))) (tt, (tt, (tt, (tt, (tt, tt)))))) $
    nothing ! $ move ! (4 ∷ 0 ∷ []) $ join ! $ move ! (4 ∷ 0 ∷ []) $ join ! $ nothing ! $ join ! $ nothing ! $
    join ! $ nothing ! $ join ! $
    move ! (3 ∷ 0 ∷ 2 ∷ []) $ group ! 3 $ frame ! $ says ! is $ done !)))))))))
