-- Options of the right side that are added one after another.
use Rattle.std.proofs.Common.{◌≡◌, ◌≢◌, ◌<◌, ◌+◌, ◌∙◌, ◌++◌, ◌∷◌, [], Bool, Bor, List, ap, arith, codes, drop, false, get_or, length, map, not, refl, subst, suc, sym, take, true, zero, ℕ}
use Rattle.std.proofs.Math.ListN.{get_or-map}
use Rattle.std.proofs.lemmas.List.{length-map, map-append, take_more}
use Rattle.std.specs.List.{list_all}
use Rattle.std.specs.Str.{bytes_eq}
use Rattle.clap.specs.Built.{AddsArg}
use Rattle.clap.specs.Simple.{is_simple}
use Rattle.clap.specs.Walk.{Rule, rule_of}
use Rattle.clap.proofs.SimpleLemmas.{is_false}
use Rattle.clap.proofs.WalkLemmas.{both}
use Rattle.clap.specs.declared.builder.arg.Arg.{Arg}
use Rattle.clap.specs.declared.builder.command.Command.{Command}
use Rattle.clap.specs.declared.builder.value_parser.ValueParser.{ValueParser}
use Rattle.clap.specs.declared.builder.value_parser.ValueParser.TheVariants as parsers
use Rattle.rinqebo_request.specs.ArgumentTable.{Adds, IsArgument, IsChoice, mode_words, option_rule, repeated}
use Rattle.rinqebo_request.proofs.Adding.{after}
use Rattle.rinqebo_request.proofs.Commands.{is_not}
use Rattle.rinqebo_diff.specs.DiffArguments.{AllChoices, right_rule, whole_app}
use Rattle.rinqebo_diff.specs.RightLine.{right_names}

-- an option that the help does not show
pub hidden : (is_hidden : Bool) (rule : Rule) (old new : Arg) → IsArgument rule old → new ≡ record old { hide = is_hidden } → IsArgument rule new
hidden is_hidden rule old new is adds =
    record {
      is = ap rule_of adds ∙ is.is;
      own = ap (λ (a : Arg). a.global) adds ∙ is.own;
    }

-- the option of the right side that has a name, by whether it is one of two
pub tools_rule : (modes : ValueParser) (name : List ℕ) → name ≡ codes "to-tool-config-file" → right_rule modes name ≡ repeated (option_rule name)
tools_rule modes name is = subst (λ name. right_rule modes name ≡ repeated (option_rule name)) (sym is) refl

pub plain_rule : (modes : ValueParser) (name : List ℕ) → name ≢ codes "to-mode" → name ≢ codes "to-tool-config-file" → right_rule modes name ≡ option_rule name
plain_rule modes name no_mode no_tools = rw (is_not name (codes "to-mode") no_mode, is_not name (codes "to-tool-config-file") no_tools) refl

-- words that the option of the run mode may take
abbrev pub text_at_0 : List ℕ → Bor (List ℕ)
text_at_0 text = record { ref_ptr = (0, 0); now = text }

abbrev pub some_modes : ValueParser
some_modes = parsers.Names (record { ref_ptr = (0, 0); now = text_at_0 (codes "test") ∷ text_at_0 (codes "benchmark") ∷ [] })

pub some_choice : IsChoice mode_words some_modes
some_choice = refl

-- all of some names are other ones than a name
others : (name : List ℕ) (names : List (List ℕ)) (i : ℕ) (d : List ℕ) → list_all (λ one. not (bytes_eq one name)) names ≡ true → i < length names
    → bytes_eq (get_or names i d) name ≡ false
others name [] i d all below = absurd (omega arith)
others name (one ∷ names) zero d all below = is_false _ (both _ _ all).0
others name (one ∷ names) (suc i) d all below = others name names i d (both _ _ all).1 (omega arith)

-- the first options of the right side
abbrev pub first_rules : ValueParser → ℕ → List Rule
first_rules modes i = map (right_rule modes) (take i right_names)

-- one more option
one_more : (modes : ValueParser) (i : ℕ) (d : List ℕ) (old mid new : Command) (arg : Arg) → i < 12 → Adds (first_rules modes i) old mid
    → IsArgument (right_rule modes (get_or right_names i d)) arg → AddsArg mid arg new → Adds (first_rules modes (i + 1)) old new
one_more modes i d old mid new arg below before is adds =
    let taken : first_rules modes (i + 1) ≡ first_rules modes i ++ right_rule modes (get_or right_names i d) ∷ [] =
    ap (map (right_rule modes)) (take_more right_names i d below) ∙ map-append (right_rule modes) (take i right_names) (get_or right_names i d ∷ []) in
    rw taken (after (first_rules modes i) (right_rule modes (get_or right_names i d)) old mid new arg before is adds)

-- the same, where only the second option takes the words of the run mode
one_more_name : (i : ℕ) (d : List ℕ) (one other : ValueParser) (old mid new : Command) (arg : Arg) → i < 12 → IsChoice mode_words one → IsChoice mode_words other
    → Adds (first_rules one i) old mid → IsArgument (right_rule other (get_or right_names i d)) arg → AddsArg mid arg new
    → (modes : ValueParser) × IsChoice mode_words modes × Adds (first_rules modes (i + 1)) old new
one_more_name zero d one other old mid new arg below is other_is before argument adds =
    (one, is, one_more one 0 d old mid new arg (omega arith) before argument adds)
one_more_name (suc zero) d one other old mid new arg below is other_is before argument adds =
    (other, other_is, one_more other 1 d old mid new arg (omega arith) before argument adds)
one_more_name (suc (suc k)) d one other old mid new arg below is other_is before argument adds =
    let no_mode : bytes_eq (get_or right_names (suc (suc k)) d) (codes "to-mode") ≡ false =
    others (codes "to-mode") (drop 2 right_names) k d refl (omega arith) in
    let same : right_rule other (get_or right_names (suc (suc k)) d) ≡ right_rule one (get_or right_names (suc (suc k)) d) = rw no_mode refl in
    (one, is, one_more one (suc (suc k)) d old mid new arg (omega arith) before (subst (λ rule. IsArgument rule arg) same argument) adds)

-- the same, where names are read of a table
pub one_more_right : (table : List (Bor (List ℕ) × Bor (List ℕ))) (i : ℕ) (name : List ℕ) (d : Bor (List ℕ) × Bor (List ℕ)) (one other : ValueParser)
    (old mid new : Command) (arg : Arg) → map (λ option. option.0.now) table ≡ right_names → i < length table → IsChoice mode_words one → IsChoice mode_words other
    → Adds (first_rules one i) old mid → IsArgument (right_rule other name) arg → AddsArg mid arg new → name ≡ (get_or table i d).0.now
    → (modes : ValueParser) × IsChoice mode_words modes × Adds (first_rules modes (i + 1)) old new
one_more_right table i name d one other old mid new arg names below is other_is before argument adds named =
    let at : name ≡ get_or right_names i d.0.now =
    named ∙ sym (get_or-map (λ (option : Bor (List ℕ) × Bor (List ℕ)). option.0.now) table i d) ∙ ap (λ names. get_or names i d.0.now) names in
    let within : i < 12 = subst (λ n. i < n) (sym (length-map table (λ option. option.0.now)) ∙ ap length names) below in
    one_more_name i d.0.now one other old mid new arg within is other_is before (subst (λ name. IsArgument (right_rule other name) arg) at argument) adds

-- what clap reads of the program with `diff` is known exactly
pub simple : (choices : AllChoices) → is_simple (whole_app choices) ≡ true
simple choices = refl
