-- What lines came to, as a text behind another one.
use Rattle.std.proofs.Common.{◌≡◌, ◌∙◌, ℕ, List, ◌++◌, IfSome, Option, Some, drop, length, refl, sym, ap, subst}
use Rattle.std.proofs.lemmas.List.{drop_at}
use Rattle.wsm_intake.specs.Saved.{Saved}
use Rattle.wsm_live_run.specs.Seen.{SavedBy}
use Rattle.wsm_live_run.specs.Turns.{TakenBy}

pub behind_text : (by : TakenBy) (before : List (List ℕ)) (old new : List ℕ) → ((t : List ℕ) × (new ≡ old ++ t) × Saved by.source by.clocks by.program before t) → SavedBy (drop (length old) new) by before
behind_text by before old new says =
    let text : List ℕ = says.0 in
    let rest : drop (length old) new ≡ text = ap (drop (length old)) says.1 ∙ drop_at old text (length old) refl in
    subst (λ (t : List ℕ). SavedBy t by before) (sym rest) says.2

pub some_then : {A : Type 0} (o : Option A) (x : A) (P : A → Type 0) → o ≡ Some x → IfSome o P → P x
some_then {A} o x P is all = subst (λ (q : Option A). IfSome q P) is all
