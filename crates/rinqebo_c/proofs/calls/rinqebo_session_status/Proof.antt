-- `rinqebo_session_status` calls the session that is borrowed at the pointer: a walk of its MIR by hand.
use Rattle.std.proofs.Common.{◌≡◌, ℕ, List, [], ◌∷◌, refl, Bor, w32}
use Rattle.std.proofs.raw_atomic.Walks.{proved}
use base.Logic.{id⊢, ex_e, snd∗}
use base.Fml.{ftrue, flft}
use mir.Val.{Val, vptr}
use prog.Wp.{WpFn}
use types.Logic.{sem}
use contract.Monad.{fact}
use contract.Running.{tables}
use types.Kit.{‵, raw, prop, ◌⊛◌, some, later, ◌$◌, ◌∵◌, !, qed, done, move, drop, use1, split, join, fsplit, fjoin, feq_i, pick, await, regoal, suffices, frame, group}
use types.Run.{enter, of_opd, addr, stop, no_more, and_then, returns}
use types.ByLocal.{alloc_all, pass_all, free_all, look_at, get, through, sets, lands_as}
use denote.Exit.{yes}
use denote.RattleType.{owns}
use denote.Laws.{Is, shows}
use denote.Opens.{shr_dup}
use denote.Plain.{uint_Lawful}
use denote.RawPtr.{Ptr, RawPtr, block_ptr, in_a_block, rawptr_vals, rawptr_Tells}
use denote.Builtin.{u32}
use denote.Signature.{plain, types_at}
use denote.Steps.{nothing, heard, peeks}
use denote.Triple.Call.{calls_at}
use denote.Triple.Clauses.{ensured, lasts}
use denote.Triple.Spec.{triple_of}
use denote.Triple.Table.{framed}
use denote.Triple.Walked.{says, Stays, walk_of, stay_dropped, Goes-dropped, ends_at}
use Rattle.rinqebo_c.specs.Handles.{lent}
use Rattle.rinqebo_session.specs.Sessions.{session_status}
use Rattle.rinqebo_session.specs.contracts.session.Session.{the_row}
use Rattle.rinqebo_session.proofs.session.Session.TheLaws as held
use Rattle.rinqebo_c.specs.contracts.calls.rinqebo_session_status as f
use Rattle.rinqebo_c.proofs.calls.rinqebo_session_status.Statement.{statement}
use Rattle.rinqebo_c.proofs.calls.rinqebo_session_status.Code as code
use Rattle.rinqebo_session.specs.contracts.session.Session.status as g
use Rattle.rinqebo_session.proofs.session.Session.status.Met.{met}

abbrev stayed : Stays f.ended.signature.params f.ended.kept
stayed = (stay_dropped (plain (λ _. RawPtr)) yes, tt)

pub rinqebo_session_status_spec : {M : Type 1} → statement M
rinqebo_session_status_spec 𝓤 𝓛 𝓜 𝓡 wired =
    let c = f.clauses 𝓛 𝓜.mem 𝓡.returns in let W = walk_of 𝓛 f.ended stayed c in let 𝓣 = tables 𝓤 𝓛.H 𝓜 𝓡 𝓡.env in
    proved 𝓛 f.ended stayed c 𝓜 𝓡 (Goes-dropped 𝓛 0 (plain (λ _. RawPtr)) yes (λ κs x w. refl), tt)
    f.Key.name code.function (code.unfolded 𝓤 𝓛.H 𝓜 𝓡 wired)
    (λ κs. (rawptr_vals, tt)) (λ κs. (rawptr_Tells, tt)) (λ κs qs bounds a n are.
    let x = n.2 in let κ = n.0 in let q = n.1 in
    let y : Ptr → W.Ghost = λ p. ((κs, qs, bounds, (p, tt), (rawptr_vals p, tt)), n) in
    qed 𝓛 ((‵ ftrue ⊛ ‵ (owns (types_at f.signature.params κs) a (rawptr_vals a.0, tt))) ∷ ‵ (lent κ q a.0 x) ∷ []) ∵
    split ! $ move ! (1 ∷ []) $ drop ! $ move ! (1 ∷ []) $
    -- [the loan; no token]
    in_a_block ! a.0 (λ p. lent κ q p x) (id⊢ 𝓤 _) (λ b o e.
    regoal ! (λ p. prop (WpFn 𝓤 𝓛.H 𝓣.C 𝓣.Λ code.function (rawptr_vals p) (W.post (y p)))) e refl $
    fsplit ! $ move ! (1 ∷ []) $ shr_dup ! the_row (held.the_row_laws.shr_laws) x b o κ $
    enter ! _ _ _ _ _ $ alloc_all ! (λ l. pass_all ! refl ((tt, tt), tt) $
    sets ! (of_opd ! (get ! refl)) refl (tt, tt) $
    sets ! (addr ! (through ! refl (stop !))) refl (tt, tt) $
    -- [what a `&` holds, twice; the token of the loan; no token; the locals]
    let G = triple_of 𝓛 g.signature (g.spec 𝓛 𝓜.mem 𝓡.returns) in
    let r : Bor the_row.Denot = record { ref_ptr = (b, o); now = x } in
    let z : G.Ghost = (((κ, tt), (q, tt), tt, (r, tt), (vptr b o ∷ [], tt)), tt) in
    feq_i ! (List Val) (vptr b o ∷ []) (vptr b o ∷ []) refl $ fjoin ! $
    nothing ! $ move ! (1 ∷ 0 ∷ []) $ fjoin ! $
    move ! (2 ∷ 3 ∷ []) $ join ! $ join ! $ nothing ! $ move ! (1 ∷ 0 ∷ []) $ join ! $ use1 𝓛 (raw (G.pre z))
    (id⊢ 𝓤 _) $
    calls_at ! (framed 𝓤 𝓛.H 𝓜 (tables 𝓤 𝓛.H 𝓜 𝓡 𝓡.env)) G
    (met 𝓤 𝓛 𝓜 𝓡 (code.calls-rinqebo_session::session::Session::status 𝓡.env wired)) z
    (and_then ! (get ! refl) (no_more !)) (λ v.
    use1 𝓛 (later (some (λ (w : ℕ). ((‵ (flft κ q) ⊛ ‵ ftrue) ⊛ ‵ (u32.own_val w (v ∷ []))) ⊛ raw
    (ensured 𝓛 g.ended (g.clauses 𝓛 𝓜.mem 𝓡.returns) z.0.0 z.0.3 tt w)))) (id⊢ 𝓤 _) $
    await ! tt $ pick ! (λ w. split ! $ move ! (1 ∷ []) $
    use1 𝓛 (raw (fact 𝓤 (w ≡ session_status x)))
    (ex_e 𝓤 _ (λ ws. snd∗ 𝓤 (sem 𝓛 (lasts g.ended z.0.0 z.0.3 ws)) (fact 𝓤 (w ≡ session_status x)))) $
    heard ! _ (λ is. split ! $ split ! $ move ! (2 ∷ []) $
    peeks ! u32 (Is u32) (shows 𝓛 u32) w (v ∷ []) (λ ok. lands_as ! refl refl ((uint_Lawful 𝓛 w32).typed w _ ok).0 $
    returns ! (look_at ! 0 refl) $ free_all ! refl $
    -- [the result; the token of the loan; no token; what a `&` holds]
    move ! (1 ∷ 3 ∷ []) $ fjoin ! $ move ! (1 ∷ []) $
    suffices ! _ (ends_at 𝓛 f.ended stayed c (y (block_ptr b o)) v w (tt, tt) (tt, tt)) $
    nothing ! $ nothing ! $ join ! $ move ! (3 ∷ 0 ∷ 1 ∷ []) $ group ! 3 $ frame ! $ says ! is $ done !)))))))
