-- An identifier has the time of its first delivery, and none that comes again has a later one, in the order in which records go on as in
-- that in which they came.
use Rattle.std.proofs.Common.{◌≡◌, ℕ, Bool, true, false, ◌||◌, List, [], ◌∷◌, ◌++◌, map, ℤ, ◌≤ℤ◌, refl, sym, ap, ◌∙◌}
use Rattle.std.proofs.lemmas.Bool.{true≢false}
use Rattle.std.proofs.lemmas.List.Sorted.{list_any-IsPermutation}
use Rattle.std.specs.Prelude.{IsPermutation, nat_eq}
use Rattle.std.specs.List.{AllByRecursion, list_any}
use Rattle.wsm_semantics.specs.Deliveries.{AreTimed, came}
use Rattle.wsm_semantics.proofs.Each.{itself, list_any-append, list_any-none}
use Rattle.wsm_doubles.specs.Passing.{Comes, SentText, TextDelivery, Told, number_of, numbered_delivery}
use Rattle.wsm_turn_laws.specs.Delivered.{records_of}
use Rattle.wsm_watermarks.proofs.KeptRows.{all_weaker}

-- a delivery of the identifier is among them
abbrev pub has : List ℕ → List TextDelivery → Bool
has i ds = came (number_of i) (map numbered_delivery ds)

or_rest : (a b : Bool) → (a || b) ≡ false → b ≡ false
or_rest true b h = absurd (true≢false h)
or_rest false b h = h

or_true : (a b : Bool) → b ≡ true → (a || b) ≡ true
or_true true b h = refl
or_true false b h = h

both_off : (a b : Bool) → a ≡ false → b ≡ false → (a || b) ≡ false
both_off a b h k = λ i. h i || k i

-- deliveries in front of others
abbrev pub lay : List SentText → List TextDelivery → List TextDelivery
lay [] ds = ds
lay (s ∷ ss) ds = Comes s ∷ lay ss ds

pub has-lay : (i : List ℕ) (ss : List SentText) (ds : List TextDelivery) → has i ds ≡ true → has i (lay ss ds) ≡ true
has-lay i [] ds h = h
has-lay i (s ∷ ss) ds h = or_true (nat_eq (number_of s.identifier) (number_of i)) (has i (lay ss ds)) (has-lay i ss ds h)

-- as records came
abbrev pub as_deliveries : List SentText → List TextDelivery
as_deliveries ss = map (λ s. Comes s) ss

has-records : (i : List ℕ) (ds : List TextDelivery) → has i (as_deliveries (records_of ds)) ≡ has i ds
has-records i [] = refl
has-records i (Comes s ∷ ds) = ap (λ (b : Bool). nat_eq (number_of s.identifier) (number_of i) || b) (has-records i ds)
has-records i (Told source time ∷ ds) = has-records i ds

has-any : (i : List ℕ) (ss : List SentText) → has i (as_deliveries ss) ≡ list_any (λ s. nat_eq (number_of s.identifier) (number_of i)) ss
has-any i [] = refl
has-any i (s ∷ ss) = ap (λ (b : Bool). nat_eq (number_of s.identifier) (number_of i) || b) (has-any i ss)

-- where it is neither among the deliveries nor among those that are still to come, no line delivered it
pub none_came : (i : List ℕ) (records : List SentText) (ds : List TextDelivery) (doubles waits : List SentText) → IsPermutation records (records_of ds ++ (doubles ++ waits))
    → AllByRecursion (λ s. nat_eq (number_of s.identifier) (number_of i) ≡ false) (doubles ++ waits) → has i ds ≡ false → has i (as_deliveries records) ≡ false
none_came i records ds doubles waits order none off =
    let test : SentText → Bool = λ s. nat_eq (number_of s.identifier) (number_of i) in
    has-any i records
    ∙ list_any-IsPermutation test records (records_of ds ++ (doubles ++ waits)) order
    ∙ list_any-append test (records_of ds) (doubles ++ waits)
    ∙ both_off (list_any test (records_of ds)) (list_any test (doubles ++ waits)) (sym (has-any i (records_of ds)) ∙ has-records i ds ∙ off) (list_any-none test (doubles ++ waits) none)

module _ (time_of : ℕ → ℤ) where
  abbrev pub IsNoLater : SentText → Type 0
  IsNoLater s = s.time ≤ℤ time_of (number_of s.identifier)

  abbrev pub IsFirst : List TextDelivery → SentText → Type 0
  IsFirst ds s = has s.identifier ds ≡ false → s.time ≡ time_of (number_of s.identifier)

  abbrev pub MayCome : List TextDelivery → SentText → Type 0
  MayCome ds s = IsNoLater s × IsFirst ds s

  -- deliveries, the doubles that are left, and the records that wait
  pub record StaysTimed (ds : List TextDelivery) (doubles waits : List SentText) : Type 0 where
    pub came_so : AreTimed time_of (map numbered_delivery ds)
    pub left_so : AllByRecursion IsNoLater doubles
    pub wait_so : AllByRecursion (MayCome ds) waits

  pub timed_comes : (s : SentText) (ds : List TextDelivery) (doubles waits : List SentText) → MayCome ds s → StaysTimed ds doubles waits → StaysTimed (Comes s ∷ ds) doubles waits
  timed_comes s ds doubles waits may h = record {
    came_so = (may.0, may.1, h.came_so);
    left_so = h.left_so;
    wait_so = all_weaker (MayCome ds) (MayCome (Comes s ∷ ds)) (λ w k. (k.0, λ none. k.1 (or_rest (nat_eq (number_of s.identifier) (number_of w.identifier)) (has w.identifier ds) none))) waits h.wait_so;
  }

  -- further doubles of what came
  pub timed_laid : (kind : List SentText) (ds : List TextDelivery) (doubles waits : List SentText) → AllByRecursion IsNoLater kind → AllByRecursion (λ d. has d.identifier ds ≡ true) kind → StaysTimed ds doubles waits → StaysTimed (lay kind ds) doubles waits
  timed_laid [] ds doubles waits no_later there h = h
  timed_laid (s ∷ kind) ds doubles waits no_later there h =
      timed_comes s (lay kind ds) doubles waits (no_later.0, λ none. absurd (true≢false (sym (has-lay s.identifier kind ds there.0) ∙ none))) (timed_laid kind ds doubles waits no_later.1 there.1 h)

  -- a record that waited, and those of its doubles that came meanwhile
  pub timed_kind : (s : SentText) (ds : List TextDelivery) (kind others doubles waits : List SentText) → AllByRecursion IsNoLater kind → AllByRecursion IsNoLater others → AllByRecursion (λ d. d.identifier ≡ s.identifier) kind
      → StaysTimed ds doubles (s ∷ waits) → StaysTimed (lay kind (Comes s ∷ ds)) others waits
  timed_kind s ds kind others doubles waits mine rest same h =
      timed_laid kind (Comes s ∷ ds) others waits mine (all_weaker (λ d. d.identifier ≡ s.identifier) (λ d. has d.identifier (Comes s ∷ ds) ≡ true) (λ d is. first_there d is) kind same)
      (timed_comes s ds others waits h.wait_so.0 (record { came_so = h.came_so; left_so = rest; wait_so = h.wait_so.1 }))
    where
      first_there : (d : SentText) → d.identifier ≡ s.identifier → has d.identifier (Comes s ∷ ds) ≡ true
      first_there d is =
          ap (λ (i : List ℕ). has i (Comes s ∷ ds)) is ∙ ap (λ (b : Bool). b || has s.identifier ds) (itself (number_of s.identifier))
