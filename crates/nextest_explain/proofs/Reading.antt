-- Lines, as they take one item behind another.
use Rattle.std.proofs.Common.{◌≡◌, ◌∙◌, ◌++◌, ◌||◌, ◌≤◌, ◌<◌, ℕ, List, [], ◌∷◌, Bool, true, false, Bor, IsFalse, OnOk, Result, Ok, Err, Vec, ap, append-nil, append_assoc, arith, codes, get_or, length, map, nat_eq, refl, sym}
use Rattle.std.proofs.lemmas.List.{flat_map_more, map-append}
use Rattle.std.proofs.lemmas.List.Elements.{All-push}
use Rattle.std.specs.List.{flat_map, list_any, starts_with}
use Rattle.std.specs.declared.alloc.Global.{Global}
use Rattle.nextest_explain.specs.Taking.{GrowBy, IsLineOf, ReadsItem, TakesItem, TakesOption}
use Rattle.nextest_explain.specs.Words.{Item, words_of, IsItem, config_files, organisation_config_files, tool_config_files, names_feature, hosts, targets, host_binaries, places_asked, argument, arguments, AreOptionsOf}
use Rattle.nextest_explain.proofs.Taken.{gives_nothing}
use Rattle.nextest_explain.specs.declared.command.Line.{Line}
use Rattle.nextest_explain.specs.declared.options.Options.{Options}

-- what items give, and one more
more : {X Y : Type 0} (f : X → List Y) (xs : List X) (x : X) (old new : List Y) → old ≡ flat_map f xs → new ≡ old ++ f x
    → new ≡ flat_map f (xs ++ x ∷ [])
more f xs x old new was is = is ∙ ap (λ ys. ys ++ f x) was ∙ flat_map_more f [] xs x

or_false : (a : Bool) → a ≡ (a || false)
or_false true = refl
or_false false = refl

or_assoc : (a b c : Bool) → ((a || b) || c) ≡ (a || (b || c))
or_assoc true b c = refl
or_assoc false b c = refl

any_more : {X : Type 0} (p : X → Bool) (xs : List X) (x : X) → (list_any p xs || p x) ≡ list_any p (xs ++ x ∷ [])
any_more p [] x = or_false (p x)
any_more p (y ∷ xs) x = or_assoc (p y) (list_any p xs) (p x) ∙ ap (λ b. p y || b) (any_more p xs x)

-- the options of a line, and one more item
options_more : (line : List Item) (item : Item) (old new : Options) → AreOptionsOf line old → GrowBy item old new
    → AreOptionsOf (line ++ item ∷ []) new
options_more line item old new are grow = record {
  config_file = more config_files line item _ _ are.config_file grow.config_file;
  organisation_config_file = more organisation_config_files line item _ _ are.organisation_config_file
      grow.organisation_config_file;
  tool_files = more tool_config_files line item _ _ are.tool_files grow.tool_files;
  features = λ feature. grow.features feature ∙ ap (λ b. b || names_feature feature item) (are.features feature)
      ∙ any_more (names_feature feature) line item;
  host = more hosts line item _ _ are.host grow.host;
  target = more targets line item _ _ are.target grow.target;
  platform = more host_binaries line item _ _ are.platform grow.platform;
  places = more places_asked line item _ _ are.places grow.places;
}

-- a line takes one more item of some words
pub line_more : (all done words rest : List (List ℕ)) (old new : Line) → all ≡ done ++ words → IsLineOf done old
    → ReadsItem words rest old new → (so_far : List (List ℕ)) × (all ≡ so_far ++ rest) × IsLineOf so_far new
line_more all done words rest old new split is (first, parted, takes) = (
  done ++ first,
  split ∙ ap (λ words. done ++ words) parted ∙ sym (append_assoc done first rest),
  record {
    items = is.items ++ takes.item ∷ [];
    spelled = more words_of is.items takes.item _ _ is.spelled (ap (λ words. done ++ words) (sym takes.spelled));
    are_items = All-push IsItem is.items takes.item is.are_items takes.is_item;
    argued = more arguments is.items takes.item _ _ is.argued takes.argued;
    are_options = options_more is.items takes.item old.options new.options is.are_options takes.grown;
  },
)

-- a line whose options take an item takes it
pub item_of_option : (words : List (List ℕ)) (old : Line) (new : Options) → TakesOption words old.options new
    → TakesItem words old (record old { options = new })
item_of_option words old new takes = record {
  item = takes.item;
  spelled = takes.spelled;
  is_item = takes.is_item;
  argued = sym (append-nil (map (λ word. word.now) old.arguments.items))
      ∙ ap (λ more. map (λ word. word.now) old.arguments.items ++ more) (sym takes.no_argument);
  grown = takes.grown;
}

-- what follows where nothing fails
pub on_ok : {A E : Type 0} {P Q : Type 0} (r : Result A E) → (P → Q) → OnOk r P → OnOk r Q
on_ok (Ok x) f h = f h
on_ok (Err e) f h = tt

-- a line takes an argument
pub item_of_word : (word : Bor (List ℕ)) (old : Line) (taken : Vec (Bor (List ℕ)) Global)
    → taken.items ≡ old.arguments.items ++ word ∷ [] → IsFalse (starts_with nat_eq word.now (codes "--"))
    → TakesItem (word.now ∷ []) old (record old { arguments = taken })
item_of_word word old taken more free = record {
  item = argument word.now;
  spelled = refl;
  is_item = free;
  argued = ap (map (λ word. word.now)) more ∙ map-append (λ word. word.now) old.arguments.items (word ∷ []);
  grown = gives_nothing word.now old.options;
}

-- five arguments, by their positions
pub arguments_are : (xs : List (Bor (List ℕ))) (d : Bor (List ℕ)) (mode : List ℕ) → 5 ≤ length xs → length xs < 6
    → (get_or xs 2 d).now ≡ mode
    → map (λ x. x.now) xs
    ≡ (get_or xs 0 d).now ∷ (get_or xs 1 d).now ∷ mode ∷ (get_or xs 3 d).now ∷ (get_or xs 4 d).now ∷ []
arguments_are (a ∷ b ∷ e ∷ f ∷ g ∷ []) d mode low high is =
    ap (λ mode. a.now ∷ b.now ∷ mode ∷ f.now ∷ g.now ∷ []) is
arguments_are (a ∷ b ∷ e ∷ f ∷ g ∷ h ∷ xs) d mode low high is = absurd (omega arith)
arguments_are [] d mode low high is = absurd (omega arith)
arguments_are (a ∷ []) d mode low high is = absurd (omega arith)
arguments_are (a ∷ b ∷ []) d mode low high is = absurd (omega arith)
arguments_are (a ∷ b ∷ e ∷ []) d mode low high is = absurd (omega arith)
arguments_are (a ∷ b ∷ e ∷ f ∷ []) d mode low high is = absurd (omega arith)
