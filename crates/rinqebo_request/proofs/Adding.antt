-- Commands to which arguments are added one after another.
use Rattle.std.proofs.Common.{◌≡◌, ◌∙◌, ◌++◌, ◌∷◌, ◌&&◌, ◌||◌, [], Bool, Bor, List, Some, ap, false, not, refl, sym, true, ℕ}
use Rattle.clap.specs.Adds.{AddsConflicts}
use Rattle.clap.specs.Built.{AddsArg, AddsSubcommand}
use Rattle.clap.specs.Simple.{App, app_of, with_rule, with_subcommand}
use Rattle.clap.specs.Walk.{Rule, is_empty, is_free_arg, rule_of}
use Rattle.clap.proofs.SimpleLemmas.{not_empty}
use Rattle.clap.specs.declared.builder.action.ArgAction.TheVariants.{Append}
use Rattle.clap.specs.declared.builder.arg.Arg.{Arg}
use Rattle.clap.specs.declared.builder.command.Command.{Command}
use Rattle.clap.specs.declared.builder.command.Command.TheViews.{out-Command as fields_of}
use Rattle.clap.specs.declared.builder.texts.Texts.TheVariants.{One}
use Rattle.clap.specs.declared.builder.value_parser.ValueParser.{ValueParser}
use Rattle.rinqebo_request.specs.ArgumentTable.{Adds, IsArgument, IsCommand, alone, choice_or, choice_rule, needed, repeated, with_rules}

or_false : (b : Bool) → (b || false) ≡ b
or_false true = refl
or_false false = refl

and_false : (b : Bool) → (b && false) ≡ false
and_false true = refl
and_false false = refl

with_one_more : (rules : List Rule) (rule : Rule) (app : App) → with_rules (rules ++ rule ∷ []) app ≡ with_rule (with_rules rules app) rule
with_one_more [] rule app = refl
with_one_more (first ∷ rules) rule app = with_one_more rules rule (with_rule app first)

with_more : (rules others : List Rule) (app : App) → with_rules (rules ++ others) app ≡ with_rules others (with_rules rules app)
with_more [] others app = refl
with_more (first ∷ rules) others app = with_more rules others (with_rule app first)

pub none : (command : Command) → Adds [] command command
none command = record { app = refl; globals = refl }

-- one more argument
pub after : (rules : List Rule) (rule : Rule) (old mid new : Command) (arg : Arg) → Adds rules old mid → IsArgument rule arg → AddsArg mid arg new
    → Adds (rules ++ rule ∷ []) old new
after rules rule old mid new arg before is adds =
    record {
      app = adds.shape is.own ∙ ap (with_rule (app_of mid)) is.is ∙ ap (λ app. with_rule app rule) before.app
          ∙ sym (with_one_more rules rule (app_of old));
      globals = adds.globals ∙ ap (λ own. (fields_of mid).has_globals || own) is.own ∙ or_false (fields_of mid).has_globals
          ∙ before.globals;
    }

-- several more arguments
pub then : (rules others : List Rule) (old mid new : Command) → Adds rules old mid → Adds others mid new → Adds (rules ++ others) old new
then rules others old mid new first second =
    record {
      app = second.app ∙ ap (with_rules others) first.app ∙ sym (with_more rules others (app_of old));
      globals = second.globals ∙ first.globals;
    }

-- the command that has these arguments alone
pub whole : (rules : List Rule) (app : App) (old new : Command) → IsCommand app old → Adds rules old new → IsCommand (with_rules rules app) new
whole rules app old new is adds =
    record {
      is = adds.app ∙ ap (with_rules rules) is.is;
      own = adds.globals ∙ is.own;
    }

-- a command of a program
pub below : (app sub : App) (old part new : Command) → IsCommand app old → IsCommand sub part → AddsSubcommand old part new
    → IsCommand (with_subcommand app sub.top) new
below app sub old part new is part_is adds =
    record {
      is = adds.shape part_is.own ∙ ap (λ shape. with_subcommand (app_of old) shape) (ap (λ (a : App). a.top) part_is.is)
          ∙ ap (λ a. with_subcommand a sub.top) is.is;
      own = adds.globals ∙ ap (λ own. own || (fields_of part).has_globals) is.own ∙ part_is.own;
    }

-- an argument that goes without another one
pub conflicting : (rule : Rule) (old new : Arg) (other : Bor (List ℕ)) → IsArgument rule old → AddsConflicts old new (other ∷ []) → IsArgument (alone rule) new
conflicting rule old new other is adds =
    let some : is_empty new.conflicts.items ≡ false = ap is_empty adds.1 ∙ not_empty old.conflicts.items other in
    let bound : is_free_arg (record old { conflicts = new.conflicts }) ≡ false =
    ap (λ b. not old.exclusive && (b && (is_empty old.needs.items && (is_empty old.r_ifs.items && (is_empty old.r_ifs_all.items
    && (is_empty old.r_unless.items && is_empty old.r_unless_all.items)))))) some ∙ and_false (not old.exclusive) in
    record {
      is = ap rule_of adds.0 ∙ ap (λ free. record (rule_of old) { is_free = free }) bound ∙ ap alone is.is;
      own = ap (λ (a : Arg). a.global) adds.0 ∙ is.own;
    }

-- a choice with a value for a command line without it
pub defaulted : (fallback : Bor (List ℕ)) (name : List ℕ) (words : ValueParser) (old mid new : Arg) → IsArgument (choice_rule name words) old
    → mid ≡ record old { default_vals = One fallback } → new ≡ record mid { hide_default_value = true }
    → IsArgument (choice_or fallback.now name words) new
defaulted fallback name words old mid new is given hidden =
    record {
      is = ap rule_of hidden ∙ ap rule_of given ∙ ap (λ (rule : Rule). record rule { defaults = fallback.now ∷ [] }) is.is;
      own = ap (λ (a : Arg). a.global) hidden ∙ ap (λ (a : Arg). a.global) given ∙ is.own;
    }

-- an option that may be repeated
pub repeating : (rule : Rule) (old new : Arg) → IsArgument rule old → new ≡ record old { action = Some Append } → IsArgument (repeated rule) new
repeating rule old new is adds =
    record {
      is = ap rule_of adds ∙ ap repeated is.is;
      own = ap (λ (a : Arg). a.global) adds ∙ is.own;
    }

-- an option with a short form
pub shortened : (short : ℕ) (rule : Rule) (old new : Arg) → IsArgument rule old → new ≡ record old { short = Some short }
    → IsArgument (record rule { short = Some short }) new
shortened short rule old new is adds =
    record {
      is = ap rule_of adds ∙ ap (λ (r : Rule). record r { short = Some short }) is.is;
      own = ap (λ (a : Arg). a.global) adds ∙ is.own;
    }

-- a word that no command line may lack
pub needing : (rule : Rule) (old new : Arg) → IsArgument rule old → new ≡ record old { required = true } → IsArgument (needed rule) new
needing rule old new is adds =
    record {
      is = ap rule_of adds ∙ ap needed is.is;
      own = ap (λ (a : Arg). a.global) adds ∙ is.own;
    }
