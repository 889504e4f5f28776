-- A keeper's cut, and its end.
use Rattle.std.proofs.Common.{◌≡◌, ℕ, false, List, [], ◌++◌, length, map, ◌-ℤ◌, Result, Ok, Err, OnOk, refl, sym, ap, subst, ◌∙◌, append_assoc}
use Rattle.std.proofs.lemmas.List.{length-map, map-append}
use Rattle.std.specs.Prelude.{filter}
use Rattle.wsm_record.specs.Event.{Event}
use Rattle.wsm_admission.specs.Clock.{admitted_count}
use Rattle.wsm_semantics.specs.Needed.{needed, needed_by, needed_by_panes}
use Rattle.wsm_semantics.specs.Query.{Query}
use Rattle.wsm_semantics.specs.FromWatermark.{Times, dropped_time, dropped_times}
use Rattle.wsm_keep.specs.declared.keeper.Keeper.{Keeper}
use Rattle.wsm_keep.specs.declared.what.What.{What}
use Rattle.wsm_keep.specs.declared.what.What.TheVariants.{Selected, Accepted, Idle}
use Rattle.wsm_record.specs.declared.words.Form.{Form}
use Rattle.wsm_record.specs.declared.words.Form.TheVariants.{Panes, Istream, Dstream, Rstream}
use Rattle.wsm_keep.specs.Staying.{events_in, row_of, thinned, done_by, staying, staying_for, staying_for_panes}
use Rattle.wsm_keep.specs.Holds.{Written, Queued, read, text_of, times_in, selected_in, Holds}
use Rattle.wsm_keep.specs.Items.{joined}
use Rattle.wsm_keep.specs.Keeper.{says_event, AreAdded, Fits, IsCut, IsOf, IsLawfulQuery, HasSettings, takes}
use Rattle.wsm_keep.specs.declared.begins.Begin.{Begin}
use Rattle.wsm_keep.specs.Begins.{HasBegun, HasCounted, begins_beyond}
use Rattle.wsm_keep.proofs.Begun.{begun_cut}
use Rattle.wsm_keep.proofs.Items.{joined-append}
use Rattle.wsm_keep.proofs.Thinning.{thinned_same}
use Rattle.wsm_keep.proofs.Queues.{queue_decides, holds_cut, queue_staying, queue_selected}
use Rattle.wsm_keep.proofs.SelectedRows.{no_events}
use Rattle.wsm_keep.proofs.Behind.{behind_texts}

pub settings_of : (q : Query) (old new : Keeper) → HasSettings old new → IsOf q old → IsOf q new
settings_of q old new same of = record { shape = same.shape ∙ of.shape; lateness = same.lateness ∙ of.lateness; form = same.form ∙ of.form }

module _ (q : Query) (lawful : IsLawfulQuery q) (k new : Keeper) (rows : List Written) (fits : Fits q k rows) (x : Times)
    (computed : (key : ℕ) → x key ≡ dropped_time k.shape (k.before -ℤ k.lateness) (times_in key k.queue)) where
  abbrev older : List Written
  older = fits.queues.older

  abbrev limits : Times
  limits = dropped_times q (events_in read older)

  limits_are : (key : ℕ) → x key ≡ limits key
  limits_are key =
      computed key
      ∙ (λ i. dropped_time (fits.of.shape i) (fits.queues.before i -ℤ fits.of.lateness i) (times_in key k.queue))
      ∙ sym (queue_decides q lawful.shape older k.queue fits.queues.holds key)

  pub cut_is : HasSettings k new → new.since ≡ k.since → new.before ≡ k.before → new.queue ≡ thinned done_by x [] k.queue → IsCut q new rows
  cut_is same since before queue =
      let are : new.queue ≡ thinned done_by limits [] k.queue = queue ∙ thinned_same done_by x limits limits_are [] k.queue in
      record {
        fits = record {
          of = settings_of q k new same fits.of;
          queues = record {
            newer = fits.queues.newer;
            older = older;
            split = fits.queues.split;
            since = since ∙ fits.queues.since;
            holds = subst (Holds q older) (sym are) (holds_cut q lawful.shape older k.queue fits.queues.holds);
            before = before ∙ fits.queues.before;
            stays = fits.queues.stays;
            alone = λ panes. since ∙ fits.queues.alone panes;
          };
        };
        texts = ap (map row_of) are ∙ queue_staying q lawful.shape older k.queue fits.queues.holds;
        selected = ap selected_in are ∙ queue_selected q lawful.shape older k.queue fits.queues.holds;
      }

  -- where panes are written all events so far were queued
  all_events : q.form ≡ Panes → events_in read rows ≡ events_in read older
  all_events panes = ap (events_in read) fits.queues.split ∙ no_events q fits.queues.newer older (sym fits.queues.since ∙ fits.queues.alone panes)

  pub cut_counts : q.form ≡ Panes → (begins : List Begin) → HasBegun q (events_in read rows) begins → HasCounted q (events_in read rows) (filter (begins_beyond x) begins)
  cut_counts panes begins begun =
      begun_cut q lawful.shape (events_in read rows) begins x (λ key. limits_are key ∙ ap (λ (es : List Event). dropped_times q es key) (sym (all_events panes))) begun

-- behind a cut all that waits stays
pub end_is : (q : Query) (k : Keeper) (rows : List Written) → IsCut q k rows → map row_of (k.since ++ k.queue) ≡ map text_of (staying read q rows)
end_is q k rows cut =
    let queues = cut.fits.queues in
    map-append row_of k.since k.queue
    ∙ (λ i. (ap (map row_of) queues.since ∙ behind_texts q queues.newer queues.older) i ++ cut.texts i)
    ∙ sym (map-append text_of (filter says_event queues.newer) (staying_for_panes read q queues.older))
    ∙ ap (map text_of) (sym queues.stays)

-- where panes are written as many of it select a record as are taken of the needed events
pub end_selected : (q : Query) (k : Keeper) (rows : List Written) → IsCut q k rows → q.form ≡ Panes → selected_in (k.since ++ k.queue) ≡ admitted_count q.clock q.shape q.declared (needed q (events_in read rows))
end_selected q k rows cut panes =
    let queues = cut.fits.queues in
    let count : List Event → ℕ = λ es. admitted_count q.clock q.shape q.declared es in
    let alone : k.since ≡ [] = queues.alone panes in
    let older : events_in read rows ≡ events_in read queues.older = ap (events_in read) queues.split ∙ no_events q queues.newer queues.older (sym queues.since ∙ alone) in
    ap (λ (since : List Queued). selected_in (since ++ k.queue)) alone
    ∙ cut.selected
    ∙ ap (λ (es : List Event). count (needed_by_panes q es)) (sym older)
    ∙ ap (λ (f : Form). count (needed_by f q (events_in read rows))) (sym panes)

-- so the texts of what was queued, and behind them of what waits, are theirs
pub added_is : (q : Query) (k : Keeper) (rows : List Written) → IsCut q k rows → (old new : List ℕ) → new ≡ (old ++ joined (map row_of k.queue)) ++ joined (map row_of k.since) →
    (count : ℕ) → count ≡ length (k.since ++ k.queue) → AreAdded old new (staying read q rows) count
added_is q k rows cut old new are count is = record {
  texts =
      are
      ∙ append_assoc old (joined (map row_of k.queue)) (joined (map row_of k.since))
      ∙ ap (λ (t : List ℕ). old ++ t) (sym (joined-append (map row_of k.since) (map row_of k.queue)) ∙ ap joined (sym (map-append row_of k.since k.queue) ∙ end_is q k rows cut));
  many =
      is
      ∙ sym (length-map (k.since ++ k.queue) row_of)
      ∙ ap length (end_is q k rows cut)
      ∙ length-map (staying read q rows) text_of;
}

-- no row has come
pub none_stay : (q : Query) (form : Form) → staying_for form read q [] ≡ []
none_stay q Panes = refl
none_stay q Istream = refl
none_stay q Dstream = refl
none_stay q Rstream = refl

-- ---- a row that can't stay

pub not_taken : (f : Form) (w : What) → takes f w ≡ false → (f ≡ Panes) × (w ≡ Idle)
not_taken Panes Idle h = (refl, refl)
not_taken Panes (Selected key time) h = absurd (cc)
not_taken Panes (Accepted source) h = absurd (cc)
not_taken Istream w h = absurd (cc)
not_taken Dstream w h = absurd (cc)
not_taken Rstream w h = absurd (cc)

-- ---- where all went well

pub on_ok : {T E A B : Type 0} (r : Result T E) → (A → B) → OnOk r A → OnOk r B
on_ok (Ok x) f a = f a
on_ok (Err e) f a = a

pub always_ok : {T E A : Type 0} (r : Result T E) → A → OnOk r A
always_ok (Ok x) a = a
always_ok (Err e) a = tt

pub on_ok_all : {T E A B C D : Type 0} (r : Result T E) → (A → B → C → D) → OnOk r A → OnOk r B → OnOk r C → OnOk r D
on_ok_all (Ok x) f a b c = f a b c
on_ok_all (Err e) f a b c = a
