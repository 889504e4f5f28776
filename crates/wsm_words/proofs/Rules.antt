-- Rules and subcommands that are added, one behind the other.
use Rattle.std.proofs.Common.{◌≡◌, ◌++◌, ◌∷◌, ◌∙◌, ◌+◌, ◌<◌, [], ℕ, List, ap, append_assoc, append-nil, get_or, length, map, refl, sym, take}
use Rattle.clap.specs.Words.{App, Rule, Shape, with_rule, with_subcommand}
use Rattle.wsm_words.specs.Words.{with_rules, with_shapes}
use Rattle.wsm_words.proofs.Lists.{map_next}

-- a command with other rules
abbrev ruled : App → List Rule → App
ruled a rules = record a { top = record a.top { rules = rules } }

pub no_rules : (a : App) → a ≡ with_rules a []
no_rules a = ap (ruled a) (sym (append-nil a.top.rules))

-- the rule of the next of some arguments
pub next_rule : {X : Type 0} (f : X → Rule) (xs : List X) (i : ℕ) (d : X) (a b c : App) (added : Rule) → i < length xs
    → c ≡ with_rule b added → added ≡ f (get_or xs i d) → b ≡ with_rules a (map f (take i xs)) → c ≡ with_rules a (map f (take (i + 1) xs))
next_rule f xs i d a b c added within one same before =
    one
    ∙ (ap (with_rule b) same
    ∙ (ap (λ (y : App). with_rule y (f (get_or xs i d))) before
    ∙ (ap (ruled a) (append_assoc a.top.rules (map f (take i xs)) (f (get_or xs i d) ∷ []))
    ∙ ap (with_rules a) (sym (map_next f xs i d within)))))

-- one subcommand more
shapes_end : (a : App) (shapes : List Shape) (shape : Shape) → with_shapes a (shapes ++ shape ∷ []) ≡ with_subcommand (with_shapes a shapes) shape
shapes_end a [] shape = refl
shapes_end a (s ∷ shapes) shape = shapes_end (with_subcommand a s) shapes shape

-- the next of some subcommands
pub next_shape : {X : Type 0} (f : X → Shape) (xs : List X) (i : ℕ) (d : X) (a b c : App) (added : Shape) → i < length xs
    → c ≡ with_subcommand b added → added ≡ f (get_or xs i d) → b ≡ with_shapes a (map f (take i xs)) → c ≡ with_shapes a (map f (take (i + 1) xs))
next_shape f xs i d a b c added within one same before =
    one
    ∙ (ap (with_subcommand b) same
    ∙ (ap (λ (y : App). with_subcommand y (f (get_or xs i d))) before
    ∙ (sym (shapes_end a (map f (take i xs)) (f (get_or xs i d)))
    ∙ ap (with_shapes a) (sym (map_next f xs i d within)))))
