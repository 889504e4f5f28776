-- What a trigger says of so many records is what it says of a pane that keeps their number.
use Rattle.std.proofs.Common.{◌≡◌, ℕ, List, length, replicate, Option, ◌∙◌}
use Rattle.std.specs.Prelude.{ℤ, pos, []}
use Rattle.std.proofs.lemmas.List.{length-replicate}
use Rattle.wsm_record.specs.declared.words.Mode.{Mode}
use Rattle.wsm_record.specs.declared.words.Mode.TheVariants.{Discarding, Accumulating, Retracting}
use Rattle.wsm_windows.specs.declared.window.PaneKind.{PaneKind}
use Rattle.wsm_windows.specs.declared.place.Place.{Place}
use Rattle.wsm_semantics.specs.Query.{Query, Datum}
use Rattle.wsm_semantics.specs.Firings.{firing_set, kind_on_watermark}
use Rattle.wsm_semantics.specs.Replay.{datum}
use Rattle.wsm_semantics.specs.Summaries.{Pane, fired_count, kind_by_watermark}

set_size : {X : Type 0} (mode : Mode) (h : Pane X) (all missed : List Datum) → length all ≡ h.count → length missed ≡ h.unshown → length (firing_set mode all missed) ≡ fired_count mode h
set_size Accumulating h all missed a m = a
set_size Discarding h all missed a m = m
set_size Retracting h all missed a m = a

pub kind_of_numbers : {X : Type 0} (q : Query) (old new : ℤ) (p : Place) (h : Pane X) (r : Option PaneKind) →
    ((all missed : List Datum) → length all ≡ h.count → length missed ≡ h.unshown → r ≡ kind_on_watermark q old new p (length (firing_set q.mode all missed)) (length missed)) →
    r ≡ kind_by_watermark q old new p h
kind_of_numbers q old new p h r says =
    let some : ℕ → List Datum = λ n. replicate n (datum 0 (pos 0) 0 (pos 0) []) in
    let all : length (some h.count) ≡ h.count = length-replicate h.count (datum 0 (pos 0) 0 (pos 0) []) in
    let missed : length (some h.unshown) ≡ h.unshown = length-replicate h.unshown (datum 0 (pos 0) 0 (pos 0) []) in
    says (some h.count) (some h.unshown) all missed
    ∙ (λ i. kind_on_watermark q old new p (set_size q.mode h (some h.count) (some h.unshown) all missed i) (missed i))
