-- Whether there is a target for the compiler's output that a line names.
use Rattle.std.proofs.Common.{◌≡◌, ◌∙◌, ◌&&◌, Bool, Bor, List, None, Option, Some, ap, false, is_some, not, option_map, refl, sym, true, ℕ}
use Rattle.std.specs.Option.{option_or}
use Rattle.rinqebo_request.specs.Lines.{Line}
use Rattle.rinqebo_request.specs.Requests.{AreEnginesOf, LacksTarget}
use Rattle.rinqebo_request.specs.declared.environment.Environment.{Environment}
use Rattle.rinqebo_request.specs.declared.request.EngineOptions.{EngineOptions}

abbrev texts_of : Option (Bor (List ℕ)) → Option (List ℕ)
texts_of text = option_map (λ t. t.now) text

lacks_all : (output target either : Option (Bor (List ℕ))) → (is_some output && not (is_some (option_or target either))) ≡ true
    → (is_some (texts_of output) ≡ true) × (texts_of target ≡ None) × (texts_of either ≡ None)
lacks_all None target either lacks = absurd (cc)
lacks_all (Some o) (Some t) either lacks = absurd (cc)
lacks_all (Some o) None (Some e) lacks = absurd (cc)
lacks_all (Some o) None None lacks = (refl, refl, refl)

has_some : (output target either : Option (Bor (List ℕ))) → (is_some output && not (is_some (option_or target either))) ≡ false
    → is_some (texts_of output) ≡ true → texts_of target ≡ None → texts_of either ≡ None → ⊥
has_some None target either has named first second = absurd (cc)
has_some (Some o) (Some t) either has named first second = absurd (cc)
has_some (Some o) None (Some e) has named first second = absurd (cc)
has_some (Some o) None None has named first second = absurd (cc)

-- there is none
pub lacking : (environment : Environment) (line : Line) (engines : EngineOptions) (b : Bool) → AreEnginesOf environment line engines
    → b ≡ (is_some engines.target_cfg && not (is_some (option_or engines.target engines.build_target))) → b ≡ true → LacksTarget environment line
lacking environment line engines b are is lacks =
    let all = lacks_all engines.target_cfg engines.target engines.build_target (sym is ∙ lacks) in
    (ap is_some (sym are.target_cfg) ∙ all.0, sym are.target ∙ all.1, sym are.build_target ∙ all.2)

-- there is one, or no output
pub named : (environment : Environment) (line : Line) (engines : EngineOptions) (b : Bool) → AreEnginesOf environment line engines
    → b ≡ (is_some engines.target_cfg && not (is_some (option_or engines.target engines.build_target))) → b ≡ false → LacksTarget environment line → ⊥
named environment line engines b are is has lacks =
    has_some engines.target_cfg engines.target engines.build_target (sym is ∙ has) (ap is_some are.target_cfg ∙ lacks.0) (are.target ∙ lacks.1)
    (are.build_target ∙ lacks.2)
