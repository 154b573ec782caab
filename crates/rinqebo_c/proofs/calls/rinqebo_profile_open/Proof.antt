-- `rinqebo_profile_open` makes a profile of the session that is borrowed at the pointer, and moves it into
-- the room: a walk of its MIR by hand.
use Rattle.std.proofs.Common.{◌≡◌, List, [], ◌∷◌, ◌++◌, refl, sym, ap, ◌∙◌, Bor}
use Rattle.std.proofs.raw_atomic.Walks.{proved_at}
use lib.Dec.{T}
use mir.Syntax.{Ty, named, erased}
use denote.Laws.{Typed, Is, shows}
use base.Logic.{SProp, id⊢, ex_e, snd∗}
use base.Fml.{ftrue, fex, flft}
use base.Fraction.{full_share}
use mir.Val.{Val, vptr, vunit, has_ty, WT}
use prog.Wp.{WpFn}
use types.Logic.{sem}
use contract.Monad.{fact}
use contract.Running.{tables}
use types.Kit.{‵, raw, prop, ◌⊛◌, some, later, ◌$◌, ◌∵◌, !, qed, done, move, drop, use1, use2, split, join, fsplit, fjoin, fpack, feq_i, pick, await, rewrite, regoal, suffices, group}
use types.Run.{enter, of_opd, addr, unit_lit, init, stop, no_more, and_then, assigns, returns}
use types.ByLocal.{alloc_all, pass_all, free_all, look_at, get, through, sets, lands_as}
use borrow.Table.OneValue.{part_in}
use denote.Exit.{yes}
use denote.RattleType.{owns}
use denote.Memory.{lone, part_at}
use denote.Opens.{shr_dup}
use denote.RawPtr.{Ptr, RawPtr, lies_at, room_at, in_a_block, rawptr_vals}
use denote.Slice.{ShrSlice, shr_slice_vals}
use denote.Builtin.{u8, SliceRefOf}
use denote.Signature.{plain, types_at}
use denote.Steps.{nothing, heard, peeks}
use denote.Triple.Call.{calls_at}
use denote.Triple.Clauses.{ensured, lasts}
use denote.Triple.Spec.{triple_of}
use denote.Triple.Table.{framed}
use denote.Triple.Walked.{Stays, walk_of, stay_dropped, Goes-dropped, ends_at}
use Rattle.std.specs.contracts.alloc.Global as heap
use Rattle.std.proofs.alloc.Global.TheLaws as heap_laws
use Rattle.rinqebo_c.specs.Handles.{lent, profile_row}
use Rattle.rinqebo_session.specs.Opening.{IsProfileIn}
use Rattle.rinqebo_session.specs.contracts.session.Session.{the_row}
use Rattle.rinqebo_session.proofs.session.Session.TheLaws as held
use Rattle.rinqebo_session.specs.declared.profile.Profile.{Profile}
use Rattle.rinqebo_session.proofs.profile.Profile.TheLaws as profile_laws
use Rattle.rinqebo_c.specs.contracts.calls.rinqebo_profile_open as f
use Rattle.rinqebo_c.proofs.calls.rinqebo_profile_open.Statement.{statement}
use Rattle.rinqebo_c.proofs.calls.rinqebo_profile_open.Code as code
use Rattle.rinqebo_session.specs.contracts.profile.Profile.open as g
use Rattle.rinqebo_session.proofs.profile.Profile.open.Met.{met}

-- a value of one MIR type is one machine value
one : (τ : Ty) (vs : List Val) → Typed (τ ∷ []) vs → (v : Val) × (vs ≡ v ∷ []) × (T (has_ty τ v) × WT v)
one τ [] t = absurd t
one τ (v ∷ []) t = (v, refl, t.0)
one τ (v ∷ u ∷ us) t = absurd t.1

abbrev stayed : Stays f.ended.signature.params f.ended.kept
stayed = (
  stay_dropped (plain (λ _. heap.the_row)) yes,
  (
    stay_dropped (plain (λ _. RawPtr)) yes,
    (
      stay_dropped (SliceRefOf (0 ∷ []) tt (plain (λ _. u8)) (λ _. tt)) yes,
      (stay_dropped (plain (λ _. RawPtr)) yes, tt),
    ),
  ),
)

pub rinqebo_profile_open_spec : {M : Type 1} → statement M
rinqebo_profile_open_spec 𝓤 𝓛 𝓜 𝓡 wired =
    let c = f.clauses 𝓛 𝓜.mem 𝓡.returns in let W = walk_of 𝓛 f.ended stayed c in let 𝓣 = tables 𝓤 𝓛.H 𝓜 𝓡 𝓡.env in
    proved_at 𝓛 f.ended stayed c 𝓜 𝓡 (
      Goes-dropped 𝓛 1 (plain (λ _. heap.the_row)) yes (λ κs x w. refl),
      (
        Goes-dropped 𝓛 1 (plain (λ _. RawPtr)) yes (λ κs x w. refl),
        (
          Goes-dropped 𝓛 1 (SliceRefOf (0 ∷ []) tt (plain (λ _. u8)) (λ _. tt)) yes (λ κs x w. refl),
          (Goes-dropped 𝓛 1 (plain (λ _. RawPtr)) yes (λ κs x w. refl), tt),
        ),
      ),
    )
    f.Key.name code.function (code.unfolded 𝓤 𝓛.H 𝓜 𝓡 wired) (λ z are.
    let κs = z.0.0 in let qs = z.0.1 in let alloc = z.0.3.0 in let p = z.0.3.1.0 in let name = z.0.3.1.1.0 in
    let t = z.0.3.1.1.1.0 in
    let κ = z.1.0 in let q = z.1.1 in let x = z.1.2 in
    let R = profile_row κ in
    let Post : Val → SProp 𝓤 = W.post z in
    let h = one (lone heap.the_row.mir) z.0.4.0 ((heap_laws.the_row_laws.lawful 𝓛).typed alloc z.0.4.0 are.0) in
    let is_p = are.1.0 in let is_name = are.1.1.0.0.0 in let is_t = are.1.1.1.0 in
    qed 𝓛 (((‵ (flft κs.0 qs.0) ⊛ ‵ ftrue) ⊛ ‵ (owns (types_at f.signature.params κs) z.0.3 z.0.4))
    ∷ (‵ (lent κ q p x) ⊛ ‵ (room_at R t)) ∷ []) ∵
    split ! $ move ! (1 ∷ []) $ fsplit ! $ move ! (1 ∷ []) $ fsplit ! $ drop ! $ fsplit ! $ move ! (1 ∷ []) $ drop ! $
    rewrite ! 0 (λ (us : List Val). ‵ ((ShrSlice (named 0) κs.0 u8).own_val name us)) is_name refl $
    rewrite ! 1 (λ (us : List Val). ‵ (heap.the_row.own_val alloc us)) h.1 refl $ move ! (3 ∷ []) $ split ! $
    -- [the loan; the room; the name; the allocator; the token of the name]
    in_a_block ! p (λ s. lent κ q s x) (id⊢ 𝓤 _) (λ b o e. move ! (1 ∷ []) $
    in_a_block ! t (λ s. room_at R s) (id⊢ 𝓤 _) (λ b' o' e'.
    regoal ! (λ (us : List Val). prop (WpFn 𝓤 𝓛.H 𝓣.C 𝓣.Λ code.function us Post))
    (λ i. h.1 i ++ ((is_p ∙ ap rawptr_vals e) i ++ (is_name i ++ ((is_t ∙ ap rawptr_vals e') i ++ [])))) refl $
    move ! (1 ∷ []) $ fsplit ! $ move ! (1 ∷ []) $ shr_dup ! the_row (held.the_row_laws.shr_laws) x b o κ $
    enter ! _ _ _ _ _ $ alloc_all !
    (λ l. pass_all ! refl (h.2, ((tt, tt), ((tt, (tt, (record { fits = are.1.1.0.0.1.0 }, tt))), ((tt, tt), tt)))) $
    sets ! (of_opd ! (get ! refl)) refl (tt, tt) $
    sets ! (of_opd ! (get ! refl)) refl (tt, tt) $
    sets ! (addr ! (through ! refl (stop !))) refl (tt, tt) $
    -- [what a `&` holds, twice; the token of the loan; the room; the name; the allocator; the token of
    -- the name; the locals]
    let G = triple_of 𝓛 g.signature (g.spec 𝓛 𝓜.mem 𝓡.returns) in
    let r : Bor the_row.Denot = record { ref_ptr = (b, o); now = x } in
    let y : G.Ghost = (
      (
        (κ, (κs.0, tt)),
        (q, (qs.0, tt)),
        tt,
        (alloc, (r, (name, tt))),
        (h.0 ∷ [], (vptr b o ∷ [], (shr_slice_vals name, tt))),
      ),
      tt,
    ) in
    feq_i ! (List Val) (vptr b o ∷ []) (vptr b o ∷ []) refl $ fjoin ! $
    nothing ! $ move ! (5 ∷ 0 ∷ []) $ fjoin ! $ move ! (1 ∷ 0 ∷ []) $ fjoin ! $ move ! (4 ∷ 0 ∷ []) $ fjoin ! $
    move ! (2 ∷ 4 ∷ []) $ join ! $ join ! $ nothing ! $ move ! (1 ∷ 0 ∷ []) $ join ! $ use1 𝓛 (raw (G.pre y))
    (id⊢ 𝓤 _) $
    calls_at ! (framed 𝓤 𝓛.H 𝓜 (tables 𝓤 𝓛.H 𝓜 𝓡 𝓡.env)) G
    (met 𝓤 𝓛 𝓜 𝓡 (code.calls-rinqebo_session::profile::Profile::open 𝓡.env wired)) y
    (and_then ! (get ! refl) (and_then ! (get ! refl) (and_then ! (get ! refl) (no_more !)))) (λ v.
    use1 𝓛 (later (some (λ (s : Profile).
    ((‵ (flft κ q) ⊛ (‵ (flft κs.0 qs.0) ⊛ ‵ ftrue)) ⊛ ‵ (R.own_val s (v ∷ []))) ⊛ raw
    (ensured 𝓛 g.ended (g.clauses 𝓛 𝓜.mem 𝓡.returns) y.0.0 y.0.3 tt s)))) (id⊢ 𝓤 _) $
    await ! tt $ pick ! (λ s. split ! $ move ! (1 ∷ []) $
    use1 𝓛 (raw (fact 𝓤 (IsProfileIn x name.now s)))
    (ex_e 𝓤 _ (λ ws. snd∗ 𝓤 (sem 𝓛 (lasts g.ended y.0.0 y.0.3 ws)) (fact 𝓤 (IsProfileIn x name.now s)))) $
    heard ! _ (λ is. split ! $ move ! (1 ∷ []) $
    -- [what the profile owns; the tokens; what a `&` holds; the room; the locals]
    peeks ! R (Is R) (shows 𝓛 R) s (v ∷ [])
    (λ ok. let good = (((profile_laws.the_row_laws (record { mir = erased; lft = κ })).lawful 𝓛).typed s _ ok).0 in
    lands_as ! refl refl good $
    assigns ! (of_opd ! (get ! refl)) (through ! refl (stop !)) (init ! 3 refl good) $
    sets ! (of_opd ! (unit_lit !)) refl (tt, tt) $
    returns ! (look_at ! 0 refl) $ free_all ! refl $
    move ! (3 ∷ 0 ∷ []) $ use2 𝓛 (‵ (part_at R full_share s b' o')) (part_in 𝓛 R refl full_share s b' o' v) $
    rewrite ! 0 (λ (u : Ptr). ‵ (lies_at R full_share u s)) (sym e') refl $
    fpack ! (IsProfileIn x name.now s) (λ _. lies_at R full_share t s) is $ fpack ! Profile
    (λ (u : Profile). fex (IsProfileIn x name.now u) (λ _. lies_at R full_share t u)) s $
    -- [the profile; the tokens; what a `&` holds]
    move ! (1 ∷ []) $ split ! $ move ! (0 ∷ 3 ∷ []) $ fjoin ! $ rewrite ! 0 (λ (u : Ptr). ‵ (lent κ q u x))
    (sym e) refl $
    -- [the loan; the token of the name; the profile]
    suffices ! _ (ends_at 𝓛 f.ended stayed c z vunit tt (tt, (tt, (tt, (tt, tt)))) (tt, (tt, (tt, (tt, tt))))) $
    feq_i ! _ (vunit ∷ []) _ refl $ nothing ! $ nothing ! $ join ! $ nothing ! $ join ! $ nothing ! $ join ! $
    nothing ! $ join ! $
    move ! (3 ∷ 0 ∷ 1 ∷ []) $ group ! 3 $ done !))))))))
