-- What a query does on a watermark, in the trigger's numbers.
use Rattle.std.proofs.Common.{◌≡◌, ℕ, Bool, true, false, ◌&&◌, cond, List, length, ℤ, ◌+ℤ◌, Some, None, refl, ap, ◌∙◌}
use Rattle.std.specs.Prelude.{int_lt, int_le, nat_lt}
use Rattle.wsm_record.specs.declared.words.Mode.{Mode}
use Rattle.wsm_record.specs.Modes.{is_over_all}
use Rattle.wsm_windows.specs.declared.window.PaneKind.TheVariants.{OnTime, Final}
use Rattle.wsm_windows.specs.declared.place.Place.{Place}
use Rattle.wsm_semantics.specs.Query.{Datum, Query}
use Rattle.wsm_semantics.specs.Firings.{firing_set, kind_on_watermark}
use Rattle.wsm_semantics.specs.Summaries.{computed_over}
use Rattle.wsm_triggers.specs.Triggers.{EndsIn}

set_size : (mode : Mode) (all missed : List Datum) → length (firing_set mode all missed) ≡ computed_over mode (length all) (length missed)
set_size mode all missed = elim (is_over_all mode) as (λ b. length (cond b all missed) ≡ cond b (length all) (length missed)) [ true ↦ refl | false ↦ refl ]

abbrev pub comes : ℤ → ℤ → ℤ → ℕ → Bool
comes time old new records = (int_lt old time && int_le time new) && nat_lt 0 records

pub kind_is : (q : Query) (place : Place) (all missed : List Datum) (mode : Mode) (lateness end old new : ℤ) (count unshown : ℕ) →
    EndsIn q place mode lateness end → length all ≡ count → length missed ≡ unshown →
    kind_on_watermark q old new place (length (firing_set q.mode all missed)) (length missed)
    ≡ cond (comes end old new (computed_over mode count unshown)) (Some OnTime) (cond (comes (end +ℤ lateness) old new unshown) (Some Final) None)
kind_is q place all missed mode lateness end old new count unshown e a m =
    let set : length (firing_set q.mode all missed) ≡ computed_over mode count unshown =
    ap (λ (x : Mode). length (firing_set x all missed)) e.combines ∙ set_size mode all missed ∙ (λ i. computed_over mode (a i) (m i)) in
    λ i. cond (comes (e.ends i) old new (set i)) (Some OnTime) (cond (comes (e.ends i +ℤ e.waits i) old new (m i)) (Some Final) None)
