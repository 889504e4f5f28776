-- What is written of some windows, where panes retract and these windows were dropped, is what the records of their panes come to:
-- the firing that stands for each has them all.
use Rattle.std.proofs.Common.{◌≡◌, ℕ, Bool, true, false, ◌&&◌, cond, List, [], ◌∷◌, ℤ, pos, ◌≤ℤ◌, Option, Some, None, refl, sym, ap, subst, ◌∙◌}
use Rattle.std.proofs.lemmas.Bool.{and_parts}
use Rattle.std.specs.Option.{IfSome}
use Rattle.std.specs.List.{AllByRecursion}
use Rattle.wsm_record.specs.declared.words.Mode.TheVariants.{Retracting}
use Rattle.wsm_record.specs.declared.words.Form.TheVariants.{Panes}
use Rattle.wsm_record.specs.Modes.{is_over_all}
use Rattle.wsm_record.specs.Event.{Event}
use Rattle.wsm_windows.specs.Windows.{IsShape}
use Rattle.wsm_windows.specs.declared.place.Place.{Place}
use Rattle.wsm_semantics.specs.Query.{Query, Datum, SessionsByEvent, mark}
use Rattle.wsm_semantics.specs.Panes.{panes, is_live_at}
use Rattle.wsm_semantics.specs.Firings.{Firing, firings, firings_so_far, shows}
use Rattle.wsm_semantics.specs.StandingFirings.{is_within, candidates, standing}
use Rattle.wsm_semantics.specs.Amounts.{sum_of, number_of, amount_written, Amount, amount_of, HasAmount, AddsAmounts}
use Rattle.wsm_semantics.proofs.Lists.{all-each}
use Rattle.wsm_semantics.proofs.Each.{all-any, all-append, all-both, all-passed, filter_map-all}
use Rattle.wsm_semantics.proofs.Within.{Within, within}
use Rattle.wsm_semantics.proofs.ShownPanes.{IsPane, each_pane, does, firings_are, unshown_of}
use Rattle.wsm_semantics.proofs.FiringsSoFar.{fires_as}
use Rattle.wsm_semantics.proofs.EventTurns.{greatest_is}
use Rattle.wsm_semantics.proofs.Homes.{IsHome, each_home}
use Rattle.wsm_semantics.proofs.Sums.{sum_of-each}
use Rattle.wsm_amounts.specs.Whole.{StandsWhole}
use Rattle.wsm_amounts.proofs.Whole.{stands_when_dead}
use Rattle.wsm_amounts.proofs.Sums.{given}
use Rattle.wsm_amounts.proofs.Written.{row_worth, written_lasting}
use Rattle.wsm_amounts.proofs.Dropped.{stands_for, stands_worth, of_lasting}

-- ---- what is told of the firing that stands

-- each firing is computed over all records
abbrev pub IsOverAll : Firing → Type 0
IsOverAll f = f.fired ≡ f.contents

pub each_over_all : (q : Query) → is_over_all q.mode ≡ true → (past : List Event) → AllByRecursion IsOverAll (firings_so_far q past)
each_over_all q over [] = tt
each_over_all q over (e ∷ past) =
    all-append IsOverAll (firings_so_far q past) (firings q past e) (each_over_all q over past)
    (subst (AllByRecursion IsOverAll) (sym (firings_are q past e))
    (filter_map-all (λ x. Unit {0}) IsOverAll (does q past e)
    (λ x _ f is.
    let of_x = fires_as q past e x.0 x.1 f is in
    of_x.fired ∙ ap (λ (b : Bool). cond b x.1 (unshown_of q past x.0 x.1)) over ∙ sym of_x.contents)
    (panes q (e ∷ past)) (all-any (λ (x : Place × List Datum). Unit {0}) (λ x. tt) (panes q (e ∷ past)))))

pub each_adds : (q : Query) (c : ℕ) (amount : Amount) → AddsAmounts q c amount → (past : List Event) → AllByRecursion (HasAmount q c amount) (firings_so_far q past)
each_adds q c amount adds [] = tt
each_adds q c amount adds (e ∷ past) = all-append (HasAmount q c amount) (firings_so_far q past) (firings q past e) (each_adds q c amount adds past) (adds past e)

-- what holds of all firings holds of one that stands, which shows the place and has some of its records
pub record Stands (q : Query) (P : Firing → Type 0) (p : Place) (all : List Datum) (f : Firing) : Type 0 where
  pub told : P f
  pub shown : shows q.shape p f.place ≡ true
  pub inside : Within f.contents all

pub of_standing : (q : Query) (P : Firing → Type 0) (past : List Event) → AllByRecursion P (firings_so_far q past) → (p : Place) (all : List Datum) (f : Firing) → standing q (firings_so_far q past) p all ≡ Some f → Stands q P p all f
of_standing q P past each p all f is =
    subst (λ (o : Option Firing). IfSome o (Stands q P p all)) is
    (greatest_is (Stands q P p all) (candidates q p all (firings_so_far q past))
    (all-passed P (Stands q P p all) (λ g. shows q.shape p g.place && is_within g.contents all)
    (λ g told may. let parts = and_parts (shows q.shape p g.place) (is_within g.contents all) may in record { told = told; shown = parts.0; inside = within g.contents all parts.1 })
    (firings_so_far q past) each))

-- ---- of panes

-- the panes of some windows were dropped
abbrev pub AreGone : Query → List Event → (Place → Bool) → Type 0
AreGone q past here = (x : Place × List Datum) → IsPane q past x → here x.0 ≡ true → is_live_at q (mark q past) x.0 ≡ false

-- what the records of the panes of some windows come to
abbrev pub pane_amount : Amount → (Place → Bool) → Place × List Datum → ℤ
pane_amount amount here x = cond (here x.0) (sum_of (amount_of amount) x.1) (pos 0)

module _ (q : Query) (ok : IsShape q.shape) (timely : SessionsByEvent q) (low : pos 0 ≤ℤ q.clock.lateness) (retracting : q.mode ≡ Retracting) (panes_alone : q.form ≡ Panes) (c : ℕ) (amount : Amount) (adds : AddsAmounts q c amount) (past : List Event) where
  -- what is told of each firing
  pub record IsTold (f : Firing) : Type 0 where
    pub home : IsHome q past f
    pub over : IsOverAll f
    pub sums : HasAmount q c amount f

  each_told : AllByRecursion IsTold (firings_so_far q past)
  each_told =
      all-both (IsHome q past) (λ f. IsOverAll f × HasAmount q c amount f) IsTold (λ f h k. record { home = h; over = k.0; sums = k.1 }) (firings_so_far q past) (each_home q ok timely past)
      (all-both IsOverAll (HasAmount q c amount) (λ f. IsOverAll f × HasAmount q c amount f) (λ f a b. (a, b)) (firings_so_far q past) (each_over_all q (ap is_over_all retracting) past) (each_adds q c amount adds past))

  pub told : (x : Place × List Datum) (f : Firing) → stands_for q ok timely low past x ≡ Some f → Stands q IsTold x.0 x.1 f
  told x f is = of_standing q IsTold past each_told x.0 x.1 f is

  module _ (here : Place → Bool) where
    -- what stands for a pane is of these windows where the pane is
    abbrev pub Agrees : Type 0
    Agrees = (x : Place × List Datum) → IsPane q past x → (f : Firing) → stands_for q ok timely low past x ≡ Some f → here f.place ≡ here x.0

    module _ (agree : Agrees) (gone : AreGone q past here) where
      abbrev stood : Place × List Datum → Option Firing
      stood x = stands_for q ok timely low past x

      not_here : (x : Place × List Datum) → IsPane q past x → here x.0 ≡ false → (o : Option Firing) → stood x ≡ o → given (row_worth q c here) o ≡ pos 0
      not_here x is away None stands = refl
      not_here x is away (Some f) stands = ap (λ (b : Bool). cond b (number_of c (q.row f.place.key f.fired)) (pos 0)) (agree x is f stands ∙ away)

      one_pane : (x : Place × List Datum) → IsPane q past x → given (row_worth q c here) (stood x) ≡ pane_amount amount here x
      one_pane x is =
          elim (here x.0) as (λ b. here x.0 ≡ b → given (row_worth q c here) (stood x) ≡ cond b (sum_of (amount_of amount) x.1) (pos 0)) [
            | true ↦ λ h.
                let w : StandsWhole q past x.0 = stands_when_dead q ok timely past x.0 is.1 (gone x is h) in
                let stands : stood x ≡ Some w.firing = ap (λ (ds : List Datum). stood (x.0, ds)) is.0 ∙ w.stands in
                let k : IsTold w.firing = (told x w.firing stands).told in
                ap (given (row_worth q c here)) stands
                ∙ ap (λ (b : Bool). cond b (number_of c (q.row w.firing.place.key w.firing.fired)) (pos 0)) (agree x is w.firing stands ∙ h)
                ∙ k.sums
                ∙ ap (sum_of (amount_of amount)) (k.over ∙ w.whole ∙ sym is.0)
            | false ↦ λ away. not_here x is away (stood x) refl
          ] refl

      pub of_panes : amount_written q past c here ≡ sum_of (pane_amount amount here) (panes q past)
      of_panes =
          written_lasting q ok timely low retracting panes_alone c here past
          ∙ of_lasting q ok timely low (row_worth q c here) past
          ∙ sum_of-each (stands_worth q ok timely low (row_worth q c here) past) (pane_amount amount here) (panes q past)
          (all-each (IsPane q past) (λ x. given (row_worth q c here) (stood x) ≡ pane_amount amount here x) (panes q past) one_pane (each_pane q past))
