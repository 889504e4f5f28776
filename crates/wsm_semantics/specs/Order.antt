-- The law of order: where the events before the first rise of the watermark, or between two, come in
-- another order, each with its verdict, each rise fires the same on time, with the same rows. These
-- events are records, and watermarks that other sources hold back. That rows don't depend on the order
-- of arrival is the Dataflow Model's aim (Akidau et al. 2015); the verdicts, the triggers and so the
-- conditions are this project's own.
use Rattle.std.specs.Prelude.{◌≡◌, ℕ, Bool, true, false, List, [], ◌∷◌, filter, filter_map, map, ℤ, IsPermutation, Option, if◌then◌else◌}
use Rattle.wsm_record.specs.declared.event.Value.{Value}
use Rattle.wsm_record.specs.declared.words.Mode.{Mode}
use Rattle.wsm_record.specs.declared.words.Mode.TheVariants.{Discarding, Accumulating, Retracting}
use Rattle.wsm_record.specs.Event.{Event}
use Rattle.wsm_windows.specs.declared.window.PaneKind.{PaneKind}
use Rattle.wsm_windows.specs.declared.window.PaneKind.TheVariants.{Early, OnTime, Late, Final}
use Rattle.wsm_windows.specs.declared.window.Shape.{Shape}
use Rattle.wsm_windows.specs.declared.window.Shape.TheVariants.{Fixed, Sliding, Session}
use Rattle.wsm_admission.specs.declared.verdict.Refusal.{Refusal}
use Rattle.wsm_semantics.specs.Query.{Datum, Query, mark, raises, verdict_on}
use Rattle.wsm_semantics.specs.Firings.{Firing, firings, row_of}

-- ---- histories in another order

-- an event, its verdict, and whether it raises the watermark
abbrev pub Judged : Type 0
Judged = Event × Option Refusal × Bool

abbrev pub judged : Query → List Event → List Judged
judged q [] = []
judged q (e ∷ past) = (e, verdict_on q past e, raises q past e) ∷ judged q past

-- it raises the watermark
abbrev pub is_rise : Judged → Bool
is_rise e = e.2

-- the same events with the same verdicts, where none crosses a rise of the watermark
pub data Reordered : List Judged → List Judged → Type 0 where
  Done : Reordered [] []
  Next : (e : Judged) → (xs ys : List Judged) → Reordered xs ys → Reordered (e ∷ xs) (e ∷ ys)
  Swap : (a b : Judged) → (xs : List Judged) → is_rise a ≡ false → is_rise b ≡ false → Reordered (a ∷ b ∷ xs) (b ∷ a ∷ xs)
  Then : (xs ys zs : List Judged) → Reordered xs ys → Reordered ys zs → Reordered xs zs

-- two histories of the same events, in another order between rises, each with its verdict
abbrev pub Permuted : Query → List Event → List Event → Type 0
Permuted q past other = Reordered (judged q past) (judged q other)

-- ---- records without their order and their turns

-- what a record says, at any turn
abbrev pub said_by : Datum → ℕ × ℤ × List Value
said_by d = (d.key, d.time, d.values)

-- records that say the same, each as often, in any order
abbrev pub SameBag : List Datum → List Datum → Type 0
SameBag ds es = IsPermutation (map said_by ds) (map said_by es)

-- the columns of some records go by these as a bag, and not by their turns
abbrev pub IgnoresOrder : Query → Type 0
IgnoresOrder q = (key : ℕ) (ds es : List Datum) → SameBag ds es → q.row key ds ≡ q.row key es

-- ---- what fires on time

abbrev pub is_on_time : PaneKind → Bool
is_on_time Early = false
is_on_time OnTime = true
is_on_time Late = false
is_on_time Final = false

-- the on-time firings of an event after a history
abbrev pub on_time : Query → List Event → Event → List Firing
on_time q past e = filter (λ f. is_on_time f.kind) (firings q past e)

-- the events of a history that raise the watermark, each with those before it, the newest first
abbrev pub all_rises : Query → List Event → List (List Event × Event)
all_rises q [] = []
all_rises q (e ∷ past) = if raises q past e then (past, e) ∷ all_rises q past else all_rises q past

-- two lists that are related pair by pair
abbrev pub InPairs : {A B : Type 0} → (A → B → Type 0) → List A → List B → Type 0
InPairs R [] [] = Unit {0}
InPairs R [] (y ∷ ys) = ⊥
InPairs R (x ∷ xs) [] = ⊥
InPairs R (x ∷ xs) (y ∷ ys) = R x y × InPairs R xs ys

-- firings of one kind and place, over the same bags of records
pub record SameFiring (f g : Firing) : Type 0 where
  pub kind : f.kind ≡ g.kind
  pub place : f.place ≡ g.place
  pub contents : SameBag f.contents g.contents
  pub fired : SameBag f.fired g.fired

-- two rises by one event to one mark that fire the same on time, with the same rows
pub record SameOnTime (q : Query) (a b : List Event × Event) : Type 0 where
  pub event : a.1 ≡ b.1
  pub mark : mark q (a.1 ∷ a.0) ≡ mark q (b.1 ∷ b.0)
  pub firings : InPairs SameFiring (on_time q a.0 a.1) (on_time q b.0 b.1)
  pub rows : filter_map (row_of q) (on_time q a.0 a.1) ≡ filter_map (row_of q) (on_time q b.0 b.1)

-- ---- the law

-- triggers that leave what fires on time free of the order: accumulating and retracting, any;
-- discarding, none early, and for sessions none late either
abbrev pub IsOrderFree : Mode → Shape → ℕ → ℕ → Type 0
IsOrderFree Accumulating shape early late = Unit {0}
IsOrderFree Retracting shape early late = Unit {0}
IsOrderFree Discarding (Fixed size) early late = early ≡ 0
IsOrderFree Discarding (Sliding size period) early late = early ≡ 0
IsOrderFree Discarding (Session gap) early late = (early ≡ 0) × (late ≡ 0)

-- in another order, each rise fires the same on time, with the same rows
abbrev pub OrderLaw : Query → Type 0
OrderLaw q = (past other : List Event) → Permuted q past other → InPairs (SameOnTime q) (all_rises q past) (all_rises q other)
