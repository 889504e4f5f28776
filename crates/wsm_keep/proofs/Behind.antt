-- What a keeper has, row by row: of rows behind others, at a rise, and where panes are written.
use Rattle.std.proofs.Common.{◌≡◌, ◌≢◌, ℕ, Bool, true, false, cond, List, [], ◌∷◌, ◌++◌, map, ℤ, Option, Some, None, Ok, Err, refl, sym, ap, subst, ◌∙◌}
use Rattle.std.proofs.lemmas.Bool.{true≢false}
use Rattle.std.specs.Prelude.{filter, unwrap_or}
use Rattle.wsm_record.specs.declared.words.Form.{Form}
use Rattle.wsm_record.specs.declared.words.Form.TheVariants.{Panes, Istream, Dstream, Rstream}
use Rattle.wsm_record.specs.Event.{Event}
use Rattle.wsm_windows.specs.Windows.{IsShape}
use Rattle.wsm_semantics.specs.Query.{Query, SessionsByEvent, mark, raises}
use Rattle.wsm_semantics.specs.Lines.{Row}
use Rattle.wsm_keep.specs.declared.what.What.{What}
use Rattle.wsm_keep.specs.declared.what.What.TheVariants.{Selected, Accepted, Idle}
use Rattle.wsm_keep.specs.declared.keeper.Keeper.{Keeper}
use Rattle.wsm_keep.specs.declared.keeper.Judged.{Judged}
use Rattle.wsm_keep.specs.Staying.{what_of, events_in, row_of, is_event, staying_for, staying_for_panes, staying_for_streams}
use Rattle.wsm_keep.specs.Holds.{Written, Queued, read, text_of, Holds}
use Rattle.wsm_keep.specs.Keeper.{says_event, queued_behind, Queues, IsTold, queued_if, queue_at, since_at}
use Rattle.wsm_keep.proofs.Queues.{holds_next, holds_idle}

module _ (q : Query) where
  abbrev past : List Written → List Event
  past rows = events_in read rows

  pub behind_texts : (newer older : List Written) → map row_of (queued_behind q newer older) ≡ map text_of (filter says_event newer)
  behind_texts [] older = refl
  behind_texts (w ∷ newer) older =
      elim (says_event w) as (λ b. map row_of (cond b ((what_of q (past (newer ++ older)) w.0, text_of w) ∷ queued_behind q newer older) (queued_behind q newer older)) ≡ map text_of (cond b (w ∷ filter says_event newer) (filter says_event newer))) [
        | true ↦ ap (λ (ts : List (List ℕ)). text_of w ∷ ts) (behind_texts newer older)
        | false ↦ behind_texts newer older
      ]

  idle_by : (es : List Event) (r : Row) → is_event r ≡ false → what_of q es r ≡ Idle
  idle_by es (Ok e) h = absurd (true≢false h)
  idle_by es (Err fault) h = refl

  module _ (ok : IsShape q.shape) (timely : SessionsByEvent q) where
    pub behind_holds : (newer older : List Written) (queue : List Queued) → Holds q older queue → Holds q (newer ++ older) (queued_behind q newer older ++ queue)
    behind_holds [] older queue holds = holds
    behind_holds (w ∷ newer) older queue holds =
        let rest : Holds q (newer ++ older) (queued_behind q newer older ++ queue) = behind_holds newer older queue holds in
        elim (says_event w) as (λ b. says_event w ≡ b → Holds q (w ∷ newer ++ older) (cond b ((what_of q (past (newer ++ older)) w.0, text_of w) ∷ queued_behind q newer older) (queued_behind q newer older) ++ queue)) [
          | true ↦ λ _. holds_next q ok timely (newer ++ older) (queued_behind q newer older ++ queue) rest w
          | false ↦ λ none. holds_idle q ok timely (newer ++ older) (queued_behind q newer older ++ queue) rest w (idle_by (past (newer ++ older)) w.0 none)
        ] refl

    -- ---- the next event

    module _ (k : Keeper) (rows : List Written) (queues : Queues q k rows) (e : Event) (text : List ℕ) where
      abbrev w : Written
      w = (Ok e, text)

      abbrev what : What
      what = what_of q (past rows) (Ok e)

      same_past : past rows ≡ past (queues.newer ++ queues.older)
      same_past = ap past queues.split

      -- of streams, where the watermark stays
      pub queued_since : q.form ≢ Panes → raises q (past rows) e ≡ false → (new : Keeper) → new.since ≡ (what, text) ∷ k.since → new.queue ≡ k.queue → new.before ≡ k.before → Queues q new (w ∷ rows)
      queued_since stream still new since queue before = record {
        newer = w ∷ queues.newer;
        older = queues.older;
        split = ap (λ (ws : List Written). w ∷ ws) queues.split;
        since = since ∙ (λ i. (what_of q (same_past i) (Ok e), text) ∷ queues.since i);
        holds = subst (Holds q queues.older) (sym queue) queues.holds;
        before = before ∙ queues.before;
        stays = streams_next q.form stream queues.stays;
        alone = λ panes. absurd (stream panes);
      }
        where
          streams_next : (form : Form) → form ≢ Panes → staying_for form read q rows ≡ filter says_event queues.newer ++ staying_for_panes read q queues.older →
              staying_for form read q (w ∷ rows) ≡ w ∷ filter says_event queues.newer ++ staying_for_panes read q queues.older
          streams_next Panes none h = absurd (none refl)
          streams_next Istream none h = ap (λ (b : Bool). w ∷ cond b (staying_for_panes read q rows) (staying_for_streams read q rows)) still ∙ ap (λ (ws : List Written). w ∷ ws) h
          streams_next Dstream none h = ap (λ (b : Bool). w ∷ cond b (staying_for_panes read q rows) (staying_for_streams read q rows)) still ∙ ap (λ (ws : List Written). w ∷ ws) h
          streams_next Rstream none h = ap (λ (b : Bool). w ∷ cond b (staying_for_panes read q rows) (staying_for_streams read q rows)) still ∙ ap (λ (ws : List Written). w ∷ ws) h

      -- where it rises
      pub queued_all : q.form ≢ Panes → raises q (past rows) e ≡ true → (new : Keeper) → new.since ≡ (what, text) ∷ [] → new.queue ≡ k.since ++ k.queue → new.before ≡ mark q (past rows) → Queues q new (w ∷ rows)
      queued_all stream up new since queue before = record {
        newer = w ∷ [];
        older = rows;
        split = refl;
        since = since;
        holds =
            subst (Holds q rows) (sym (queue ∙ ap (λ (ds : List Queued). ds ++ k.queue) queues.since))
            (subst (λ (ws : List Written). Holds q ws (queued_behind q queues.newer queues.older ++ k.queue)) (sym queues.split) (behind_holds queues.newer queues.older k.queue queues.holds));
        before = before;
        stays = streams_all q.form stream;
        alone = λ panes. absurd (stream panes);
      }
        where
          streams_all : (form : Form) → form ≢ Panes → staying_for form read q (w ∷ rows) ≡ w ∷ staying_for_panes read q rows
          streams_all Panes none = absurd (none refl)
          streams_all Istream none = ap (λ (b : Bool). w ∷ cond b (staying_for_panes read q rows) (staying_for_streams read q rows)) up
          streams_all Dstream none = ap (λ (b : Bool). w ∷ cond b (staying_for_panes read q rows) (staying_for_streams read q rows)) up
          streams_all Rstream none = ap (λ (b : Bool). w ∷ cond b (staying_for_panes read q rows) (staying_for_streams read q rows)) up

      -- where panes are written all rows so far are queued
      all_so_far : q.form ≡ Panes → Holds q rows (k.since ++ k.queue)
      all_so_far panes =
          subst (λ (ds : List Queued). Holds q rows (ds ++ k.queue)) (sym queues.since)
          (subst (λ (ws : List Written). Holds q ws (queued_behind q queues.newer queues.older ++ k.queue)) (sym queues.split) (behind_holds queues.newer queues.older k.queue queues.holds))

      pub queued_alone : q.form ≡ Panes → (new : Keeper) → new.since ≡ [] → new.before ≡ mark q (e ∷ past rows) →
          ((new.queue ≡ (what, text) ∷ k.queue) → Queues q new (w ∷ rows)) × (what ≡ Idle → new.queue ≡ k.queue → Queues q new (w ∷ rows))
      queued_alone panes new since before = (
        λ queue. now (subst (Holds q (w ∷ rows)) (sym queue) (holds_next q ok timely rows k.queue so_far w)),
        λ idle queue. now (subst (Holds q (w ∷ rows)) (sym queue) (holds_idle q ok timely rows k.queue so_far w idle)),
      )
        where
          so_far : Holds q rows k.queue
          so_far = subst (λ (ds : List Queued). Holds q rows (ds ++ k.queue)) (queues.alone panes) (all_so_far panes)

          now : Holds q (w ∷ rows) new.queue → Queues q new (w ∷ rows)
          now holds = record {
            newer = [];
            older = w ∷ rows;
            split = refl;
            since = since;
            holds = holds;
            before = before;
            stays = ap (λ (form : Form). staying_for form read q (w ∷ rows)) panes;
            alone = λ _. since;
          }

      -- by what is told
      module _ (judged : Judged) (told : IsTold q rows e judged) (new : Keeper) where
        pub next_for_panes : q.form ≡ Panes → new.since ≡ k.since → new.before ≡ judged.mark → new.queue ≡ queued_if judged.what text k.queue → Queues q new (w ∷ rows)
        next_for_panes panes since before queue = by judged.what refl where
          rest : new.since ≡ []
          rest = since ∙ queues.alone panes

          by : (v : What) → judged.what ≡ v → Queues q new (w ∷ rows)
          by Idle is = (queued_alone panes new rest (before ∙ told.mark)).1 (sym told.what ∙ is) (queue ∙ ap (λ (v : What). queued_if v text k.queue) is)
          by (Selected key t) is = (queued_alone panes new rest (before ∙ told.mark)).0 (queue ∙ ap (λ (v : What). queued_if v text k.queue) is ∙ ap (λ (v : What). (v, text) ∷ k.queue) (sym is ∙ told.what))
          by (Accepted s) is = (queued_alone panes new rest (before ∙ told.mark)).0 (queue ∙ ap (λ (v : What). queued_if v text k.queue) is ∙ ap (λ (v : What). (v, text) ∷ k.queue) (sym is ∙ told.what))

        pub next_for_streams : q.form ≢ Panes → new.before ≡ unwrap_or judged.rise k.before → new.queue ≡ queue_at judged.rise k.since k.queue → new.since ≡ (judged.what, text) ∷ since_at judged.rise k.since → Queues q new (w ∷ rows)
        next_for_streams streams before queue since =
            elim (raises q (past rows) e) as (λ b. raises q (past rows) e ≡ b → Queues q new (w ∷ rows)) [
              | true ↦ λ up.
                  let rise : judged.rise ≡ Some (mark q (past rows)) = told.rise ∙ ap (λ (b : Bool). cond b (Some (mark q (past rows))) None) up in
                  queued_all streams up new
                  (since ∙ (λ i. (told.what i, text) ∷ since_at (rise i) k.since))
                  (queue ∙ ap (λ (o : Option ℤ). queue_at o k.since k.queue) rise)
                  (before ∙ ap (λ (o : Option ℤ). unwrap_or o k.before) rise)
              | false ↦ λ still.
                  let rise : judged.rise ≡ None = told.rise ∙ ap (λ (b : Bool). cond b (Some (mark q (past rows))) None) still in
                  queued_since streams still new
                  (since ∙ (λ i. (told.what i, text) ∷ since_at (rise i) k.since))
                  (queue ∙ ap (λ (o : Option ℤ). queue_at o k.since k.queue) rise)
                  (before ∙ ap (λ (o : Option ℤ). unwrap_or o k.before) rise)
            ] refl
